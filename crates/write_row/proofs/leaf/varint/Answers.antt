-- `write_row::leaf::varint` meets its contract.
use Rattle.std.specs.Prelude.{Err}
use mir.Syntax.{w64}
use mir.ValLaws.{to_z-of_z}
use Rattle.write_row.proofs.Facts.{met, missing, found, told, varint-none, varint-some, near}
use Rattle.write_row.specs.Judged.{word}
use Rattle.write_row.specs.Judged.{Small}
use mathlib.Core.Path.{subst, ap, ◌∙◌}
use Rattle.write_row.proofs.leaf.varint.Goals as goal

pub returns-in_err-a : goal.returns-in_err-a
returns-in_err-a c = rw (met c.from_residual.ensures.1 ∙ ap Err (missing c.ok_or.ensures.value c.in_err-a.was).1) (varint-none c.requires.0 c.args.key c.args.node c.args.labelled (told word c.word_at.ensures.result_value (missing c.ok_or.ensures.value c.in_err-a.was).0))

pub emit_short-requires : goal.emit_short-requires
emit_short-requires c = (c.requires.0.ready.good, near c.requires.0, c.requires.1, tt)

pub returns : goal.returns
returns c =
    let e = to_z-of_z w64 c.integer_of.result (record { sfits = c.integer_of.type_inv }) ∙ c.integer_of.ensures in
    varint-some c.requires.0 c.args.key c.args.node c.args.labelled (told word c.word_at.ensures.result_value (found c.ok_or.ensures.ok_part c.in_ok-a.was)) (subst (λ x. Small x) (found c.ok_or.ensures.ok_part c.in_ok-a.was) c.word_at.ensures.small) (rw e at c.emit_short.ensures) c.next.ensures
