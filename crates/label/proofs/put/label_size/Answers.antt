-- `label::put::label_size` meets its contract.
use Rattle.std.proofs.Common.{ℕ, length, ap, ◌∙◌, w64}
use mir.ValLaws.{to_z-of_z}
use Rattle.format.specs.Label.{zigzag, varint, label}
use Rattle.label.proofs.put.label_size.Goals as goal

pub returns : goal.returns
unfolding label
returns c = c.varint_size.ensures ∙ ap (λ (z : ℕ). length (varint z)) (c.zigzag.ensures ∙ ap zigzag (to_z-of_z w64 c.args.n c.ranges.n))
