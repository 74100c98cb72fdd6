-- `write_search::alike_to` meets its contract. The loop's invariant: the bytes so far are equal.
use mathlib.Core.Path.{◌≡◌}
use Prim.Native.Nat.{ℕ, ◌+◌, ◌-◌, ◌<◌, ◌≤◌}
use lib.ListN.{get_or}
use Rattle.write_search.proofs.alike_to.Given as goal

abbrev pub invariant-loop-k : goal.invariant-loop-k
invariant-loop-k l = (l.from ≤ l.k) × (l.k ≤ l.size) × ((i : ℕ) → l.from ≤ i → i < l.k → get_or l.pool (l.a + i) 0 ≡ get_or l.pool (l.b + i) 0)

abbrev pub decreases-loop-k : goal.decreases-loop-k
decreases-loop-k l = l.size - l.k
