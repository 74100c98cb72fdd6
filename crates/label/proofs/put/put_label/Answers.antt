-- `label::put::put_label` meets its contract.
use Rattle.std.proofs.Common.{◌≡◌, ap, ◌∙◌, w64}
use mir.ValLaws.{to_z-of_z}
use Rattle.format.specs.Label.{zigzag, label}
use Rattle.label.proofs.put.put_label.Goals as goal

pub put_varint-requires : goal.put_varint-requires
unfolding label
put_varint-requires c =
    let e : c.zigzag.result ≡ zigzag c.args.n = c.zigzag.ensures ∙ ap zigzag (to_z-of_z w64 c.args.n c.ranges.n) in
    rw e c.requires

pub returns : goal.returns
unfolding label
returns c =
    let e : c.zigzag.result ≡ zigzag c.args.n = c.zigzag.ensures ∙ ap zigzag (to_z-of_z w64 c.args.n c.ranges.n) in
    record { out_after = c.put_varint.ensures.out_after ∙ rw e; value = c.put_varint.ensures.value ∙ rw e }
