-- `table::alone::alone` meets its contract. The invariant of the loop: the nodes before i pass.
use Rattle.format.specs.Table.{node_at, right_alone}
use Rattle.table.proofs.Tests.{Passed}
use Rattle.table.proofs.alone.alone.Given as goal

abbrev pub invariant-loop-i : goal.invariant-loop-i
invariant-loop-i l = Passed (λ j. right_alone (node_at l.counted.table.now j)) 13 l.i
