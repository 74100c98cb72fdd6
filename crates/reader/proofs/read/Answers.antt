-- `reader::read` meets its contract.
use mathlib.Core.Path.{ap, ◌∙◌}
use lib.ListN.{length}
use Rattle.format.specs.Answer.{output}
use Rattle.format.specs.Row.{words}
use Rattle.table.specs.Answers.{mapped}
use Rattle.wire_types.specs.Root.{check-keeps}
use Rattle.reader.proofs.Checks.{answer-refused, rows-refused, accepts, read_is}
use Rattle.reader.proofs.read.Goals as goal

pub read_checked-r-requires : goal.read_checked-r-requires
read_checked-r-requires c = check-keeps c.args.table.now (length c.args.work.now) (accepts c.args.table.now c.args.message.now c.args.work.now c.args.rows.now c.check_keeping.ensures.answer c.in-Ok.is) c.check_keeping.auto.work c.check_keeping.ensures.leaves

pub returns-in-Ok-clause-answer : goal.returns-in-Ok-clause-answer
returns-in-Ok-clause-answer c = c.read_checked-r.ensures.answer ∙ ap (λ x. mapped (λ rs. length rs) x) (read_is c.args.table.now c.args.message.now c.args.work.now c.args.rows.now c.check_keeping.ensures.answer c.in-Ok.is)

pub returns-in-Ok-clause-rows_after : goal.returns-in-Ok-clause-rows_after
returns-in-Ok-clause-rows_after c = c.read_checked-r.ensures.rows_after ∙ ap (λ x. output words (length c.args.rows.now) x) (read_is c.args.table.now c.args.message.now c.args.work.now c.args.rows.now c.check_keeping.ensures.answer c.in-Ok.is)

pub returns-in-Err-clause-answer : goal.returns-in-Err-clause-answer
returns-in-Err-clause-answer c = answer-refused c.args.table.now c.args.message.now c.args.work.now c.args.rows.now c.check_keeping.ensures.answer c.in-Err.is

pub returns-in-Err-clause-rows_after : goal.returns-in-Err-clause-rows_after
returns-in-Err-clause-rows_after c = rows-refused c.args.table.now c.args.message.now c.args.work.now c.args.rows.now c.check_keeping.ensures.answer c.in-Err.is (c.fill-in-Err.ensures.after (λ y e. e))
