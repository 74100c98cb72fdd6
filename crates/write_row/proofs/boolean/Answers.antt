-- `write_row::boolean` meets its contract.
use Rattle.std.specs.Prelude.{Err}
use mathlib.Core.Path.{ap, ◌∙◌}
use Rattle.write_row.proofs.Facts.{met, missing, found, told, truth-none, truth-some}
use Rattle.write_row.specs.Judged.{truth}
use Rattle.std.specs.Prelude.{Some}
use Rattle.write_row.proofs.boolean.Goals as goal

pub returns-in_err-t : goal.returns-in_err-t
returns-in_err-t c = rw (met c.from_residual.ensures.1 ∙ ap Err (missing c.ok_or.ensures.value c.in_err-t.was).1) (truth-none c.args.node (told truth c.truth_at.ensures (missing c.ok_or.ensures.value c.in_err-t.was).0))

pub returns-then-t : goal.returns-then-t
returns-then-t c = truth-some c.args.node (told truth c.truth_at.ensures ((found c.ok_or.ensures.ok_part c.in_ok-t.was) ∙ ap Some c.if-t.true)) c.mark.ensures

pub returns : goal.returns
returns c = truth-some c.args.node (told truth c.truth_at.ensures ((found c.ok_or.ensures.ok_part c.in_ok-t.was) ∙ ap Some c.if-t.false)) c.mark-2.ensures
