-- `read_walk::opening::labelled` meets its contract.
use mir.Syntax.{w64}
use mir.ValLaws.{to_z-of_z}
use Rattle.table.specs.Answers.{met}
use Rattle.read_walk.proofs.Fronts.{labelled-bad, labelled-error, labelled-says}
use borrow.Author.Rules.{rules}
use Rattle.read_walk.proofs.opening.labelled.Goals as goal

pub returns-in_err-l : goal.returns-in_err-l
returns-in_err-l c = rw (met c.from_residual.ensures.1) (labelled-bad c.args.message.now.bytes.now c.args.message.now.modes c.args.omittable c.args.nullable c.args.c _ c.own_label.ensures c.in_err-l.was)

pub returns-in_err-seen : goal.returns-in_err-seen
returns-in_err-seen c = rw (met c.from_residual-in_err-seen.ensures.1) (labelled-error c.args.message.now.bytes.now c.args.message.now.modes c.args.omittable c.args.nullable c.args.c _ c.own_label.ensures c.in_ok-l.was (to_z-of_z w64 c.in_ok-l.l (search rules)) c.absent_or.result c.absent_or.ensures c.in_err-seen.was)

pub returns : goal.returns
returns c = labelled-says c.args.message.now.bytes.now c.args.message.now.modes c.args.omittable c.args.nullable c.args.c _ c.own_label.ensures c.in_ok-l.was (to_z-of_z w64 c.in_ok-l.l (search rules)) c.absent_or.result c.absent_or.ensures c.in_ok-seen.was
