-- `write_search::alike` meets its contract. The loop's invariant: the bytes so far are equal.
use mathlib.Core.Path.{◌≡◌}
use Prim.Native.Nat.{ℕ, ◌+◌, ◌<◌, ◌≤◌}
use lib.ListN.{get_or}
use Rattle.write_search.proofs.alike.Given as goal

abbrev pub invariant-loop-k : goal.invariant-loop-k
invariant-loop-k l = (i : ℕ) → l.from ≤ i → i < l.k → get_or l.pool (l.a + i) 0 ≡ get_or l.pool (l.b + i) 0
