-- The functions of the walk meet their contracts. `left`, the path that is left, falls at each node.
-- Who goes on from where a loop stands has done the whole.
use Rattle.std.proofs.Common.{◌+◌, ◌*◌}
use Prim.Native.Nat.{◌-◌}
use Rattle.read_walk.proofs.Several.{ValuesAt}
use Rattle.read_walk.proofs.+walk.Given as goal

abbrev pub decreases-holder : goal.decreases-holder
decreases-holder l = 4 * l.left

abbrev pub decreases-value : goal.decreases-value
decreases-value l = 4 * l.left + 2

abbrev pub decreases-values : goal.decreases-values
decreases-values l = 4 * l.left + 3

abbrev pub decreases-wire : goal.decreases-wire
decreases-wire l = 4 * l.left + 1

abbrev pub invariant-values-loop : goal.invariant-values-loop
invariant-values-loop l = ValuesAt l.table l.message.bytes.now l.initial.work l.initial.rows l.message.modes l.node l.repeated l.count l.initial.reached.core l.initial.reached.rows l.work l.rows (l.count - l.counter) l.current l.reached.core l.reached.rows
