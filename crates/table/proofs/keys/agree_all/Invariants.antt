-- `table::keys::agree_all` meets its contract. The invariant of the loop: the nodes before i agree, and the notes are those of their keys.
use Rattle.format.specs.Table.{node_at, agrees}
use Rattle.table.specs.Passes.{Notes, Beside}
use Rattle.table.proofs.Tests.{Passed}
use Rattle.table.proofs.keys.agree_all.Given as goal

abbrev pub invariant-loop-i : goal.invariant-loop-i
invariant-loop-i l = Passed (λ j. agrees l.counted.n (node_at l.counted.table.now) j) 15 l.i × Notes (node_at l.counted.table.now) l.i l.work × Beside l.initial.work l.work
