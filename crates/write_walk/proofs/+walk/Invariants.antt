-- The functions of the pass meet their contracts. The path that is left falls at each record and array.
use Rattle.std.proofs.Common.{◌+◌, ◌-◌, ◌*◌}
use Rattle.write_walk.proofs.Several.{ValuesAt}
use Rattle.write_walk.proofs.Sequences.{SequenceAt}
use Rattle.write_walk.proofs.+walk.Given as goal

abbrev pub decreases-holder : goal.decreases-holder
decreases-holder l = 8 * l.left

abbrev pub decreases-value_in_place : goal.decreases-value_in_place
decreases-value_in_place l = 8 * l.left + 4

abbrev pub decreases-fields : goal.decreases-fields
decreases-fields l = 8 * l.left + 3

abbrev pub decreases-values : goal.decreases-values
decreases-values l = 8 * l.left + 5

abbrev pub decreases-value : goal.decreases-value
decreases-value l = 8 * l.left + 2

abbrev pub decreases-wire : goal.decreases-wire
decreases-wire l = 8 * l.left + 1

abbrev pub invariant-fields-loop-done : goal.invariant-fields-loop-done
invariant-fields-loop-done l = SequenceAt l.how l.table l.pool l.rows l.initial.out l.initial.work l.omittable l.left l.node l.count l.fn.at.row l.fn.at.core l.out l.work l.k l.here l.absent l.so_far.row l.so_far.core

abbrev pub decreases-fields-loop-done : goal.decreases-fields-loop-done
decreases-fields-loop-done l = l.k

abbrev pub invariant-values-loop-k : goal.invariant-values-loop-k
invariant-values-loop-k l = ValuesAt l.how l.table l.pool l.rows l.initial.out l.initial.work l.node l.repeated l.count l.fn.at.row l.fn.at.core l.out l.work (l.count - l.k) l.here l.so_far.row l.so_far.core
