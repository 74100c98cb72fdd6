-- `read_walk::opening::absent_or` meets its contract.
use mir.Syntax.{w64}
use mir.ValLaws.{to_z-of_z}
use Rattle.read_walk.proofs.Fronts.{absent_none, absent-gone, absent-not}
use Rattle.read_walk.proofs.opening.absent_or.Goals.{else-omittable-via-then-omittable+else-is_label, else-omittable-via-else-omittable}
use Rattle.read_walk.proofs.opening.absent_or.Goals as goal

pub returns-then-is_label : goal.returns-then-is_label
returns-then-is_label c = absent-gone c.args.modes c.args.l _ (to_z-of_z w64 c.args.l c.ranges.l) c.args.omittable c.args.nullable c.is_label.ensures c.if-omittable.true c.if-is_label.true

pub returns : goal.returns
returns c = elim c.else-omittable.branch [
  | else-omittable-via-then-omittable+else-is_label w ↦ absent-not c.args.modes c.args.l _ (to_z-of_z w64 c.args.l c.ranges.l) c.args.omittable c.args.nullable c.null_or.result w.is_label.ensures w.if-omittable.true w.if-is_label.false c.null_or.ensures
  | else-omittable-via-else-omittable w ↦ absent_none c.args.modes c.args.l _ (to_z-of_z w64 c.args.l c.ranges.l) c.args.omittable c.args.nullable c.null_or.result w.if-omittable.false c.null_or.ensures
]
