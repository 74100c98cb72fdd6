-- `table::check_keeping` meets its contract.
use mathlib.Core.Path.{ap, ◌∙◌}
use lib.ListN.{length}
use Rattle.format.specs.Answer.{zeros}
use Rattle.table.proofs.Chain.{short, refuses-all, accepts}
use Rattle.table.proofs.check_keeping.Goals as goal

pub returns-then-work-lt-WORK_WORDS : goal.returns-then-work-lt-WORK_WORDS
returns-then-work-lt-WORK_WORDS c =
    let x = short c.args.table.now (length c.args.work.now) c.if-work-lt-WORK_WORDS.true (c.fill.ensures.after (λ y e. e)) in
    record { answer = x.answer; leaves = x.leaves }

pub returns-in-Ok : goal.returns-in-Ok
returns-in-Ok c =
    let x = accepts c.args.table.now (length c.args.work.now) c.if-work-lt-WORK_WORDS.false c.passes.ensures c.in-Ok.is in
    record { answer = x.answer; leaves = x.leaves }

pub returns-in-Err : goal.returns-in-Err
returns-in-Err c =
    let x = refuses-all c.args.table.now (length c.args.work.now) c.if-work-lt-WORK_WORDS.false c.passes.ensures c.in-Err.is ((c.fill-in-Err.ensures.after (λ y e. e)) ∙ ap zeros c.passes.auto.work) in
    record { answer = x.answer; leaves = x.leaves }
