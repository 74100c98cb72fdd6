-- `write_search::whole` meets its contract. The loop's invariant: `h` is made of the words before `i`.
use mathlib.Core.Path.{◌≡◌}
use Prim.Native.Nat.{◌-◌, ◌<◌}
use Rattle.format.specs.Row.{bytes_at}
use Rattle.write_search.proofs.Hashing.{FoldedTo}
use Rattle.write_search.proofs.whole.Given as goal

abbrev pub invariant-loop-i : goal.invariant-loop-i
invariant-loop-i l = (l.i-end ≡ l.size - 8) × (l.h < 4294967296) × FoldedTo (bytes_at l.pool (record { start = l.start; size = l.size })) l.step l.i l.h

abbrev pub decreases-loop-i : goal.decreases-loop-i
decreases-loop-i l = l.i-end - l.i
