-- `write_literals::meet` meets its contract. The loop's invariant: no literal before the one that is next is the one that is sought.
use Prim.Native.Nat.{◌≤◌}
use Rattle.store.specs.Words.{all_of}
use Rattle.write_literals.proofs.Chains.{left}
use Rattle.write_literals.proofs.Meeting.{Seeking}
use Rattle.write_literals.proofs.meet.Given as goal

abbrev pub invariant-loop-at : goal.invariant-loop-at
invariant-loop-at l = (l.at ≤ 4096) × Seeking l.work l.key l.j l.high l.wanted l.at

abbrev pub decreases-loop-at : goal.decreases-loop-at
decreases-loop-at l = left (all_of l.work) l.at
