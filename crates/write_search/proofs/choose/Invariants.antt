-- `write_search::choose` meets its contract. The loop's invariant: the text's front behind the literals before the one that was met is what was learnt,
-- none of them is equal, and the one that was met has the words that go with it.
use mathlib.Core.Path.{◌≡◌}
use mathlib.Core.List.{List, []}
use Prim.Native.Nat.{ℕ, ◌-◌, ◌/◌, ◌<◌, ◌≤◌}
use lib.ListN.{length, get_or}
use Rattle.write_literals.specs.Store.{Literal}
use Rattle.write_literals.specs.Words.{store_of}
use Rattle.write_search.specs.Front.{known as known_of}
use Rattle.write_search.specs.Search.{second_word}
use Rattle.write_search.proofs.Laws.{Reached, Asked, stands_at}
use Rattle.write_search.proofs.choose.Given as goal

-- the key's literals
abbrev pub literals : List ℕ → ℕ → List Literal
literals work key = get_or (store_of work).literals key []

abbrev pub invariant-loop-met : goal.invariant-loop-met
invariant-loop-met l = (l.near < 4096) × (l.pairs < 98304) × (l.known ≡ known_of l.pairs) × (l.known ≤ l.size)
    × Asked (literals l.work l.key) (second_word l.size l.near l.pairs) (l.pairs / 8) l.met
    × Reached l.pool (record { start = l.start; size = l.size }) (literals l.work l.key) (stands_at (literals l.work l.key) l.met) l.near l.pairs

abbrev pub decreases-loop-met : goal.decreases-loop-met
decreases-loop-met l = length (literals l.work l.key) - stands_at (literals l.work l.key) l.met
