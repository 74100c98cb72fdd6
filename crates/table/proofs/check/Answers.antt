-- `table::check` meets its contract.
use mathlib.Core.Path.{ap, ◌∙◌}
use lib.ListN.{length}
use Rattle.format.specs.Answer.{zeros}
use Rattle.table.specs.Answers.{met}
use Rattle.table.specs.Passes.{refused-all}
use Rattle.table.proofs.check.Goals as goal

pub returns-in_err-n : goal.returns-in_err-n
returns-in_err-n c = rw (met c.from_residual.ensures.1) (record {
  answer = c.in_err-n.ensures.answer;
  work_after = refused-all (length c.args.work.now) c.args.table.now c.check_keeping.ensures.answer c.in_err-n.was c.check_keeping.ensures.leaves;
})

pub returns : goal.returns
returns c = record { answer = c.in_ok-n.ensures.answer; work_after = (c.fill.ensures.after (λ y e. e)) ∙ ap zeros c.check_keeping.auto.work }
