-- `write_literals::tail` meets its contract. The loop's invariant: `at` is a link of the chain, and leads to `next`.
use Prim.Native.Nat.{◌<◌}
use Rattle.store.specs.Words.{all_of}
use Rattle.write_literals.proofs.Chains.{left, Going}
use Rattle.write_literals.proofs.tail.Given as goal

abbrev pub invariant-loop-next : goal.invariant-loop-next
invariant-loop-next l = (l.next < 8192) × Going l.work l.b l.at l.next

abbrev pub decreases-loop-next : goal.decreases-loop-next
decreases-loop-next l = left (all_of l.work) l.next
