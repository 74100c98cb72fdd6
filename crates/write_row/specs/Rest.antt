-- The rows not used yet, as the code has them: by the number of the first.
use Rattle.std.specs.Prelude.{◌≡◌, Bool, List, ◌∷◌, eqb, length}
use Rattle.std.proofs.Math.Path.{refl}
use Rattle.std.proofs.Math.Bool.{true, false}
use Rattle.std.proofs.Math.Option.{Option, none, some}
use Prim.Native.Nat.{ℕ, zero, suc, ◌+◌, ◌-◌}
use Rattle.std.proofs.Common.{add-one, arith}
use borrow.Author.Tests.{lt-ltb, le-ltb}
use Rattle.format.specs.Answer.{Answer, ok, refuse, ◌>>=◌, ◌>>◌, need_at, or_refuse}
use Rattle.format.specs.Row.{Says, Place, Text, row_count, row_node, under, row_at, is_inside, found, says_of, cell_of, shown_at, shown_from}
use Rattle.format.specs.Write.{Rest, next_in, next}
use Rattle.laws.specs.Facts.{by_bool}
use Rattle.rows.specs.Seen.{found_under}

abbrev pub rest_of : List ℕ → List ℕ → ℕ → Rest
rest_of pool rows i = record { at = i; cells = shown_from pool rows i (row_count rows - i) }

-- what is found of row i says of the next cell
unfoldable pub next_of : List ℕ → List ℕ → ℕ → Answer (Says Place) → Answer (Says Text × Rest)
next_of pool rows i (ok x) = ok (says_of pool x, rest_of pool rows (i + 1))
next_of pool rows i (refuse e j) = refuse 42 i

module _ (pool rows : List ℕ) (node i : ℕ) where
  -- whatever the test of the node says, what is refused here is 42
  refused : (e : ℕ) (c : Bool) → refuse 42 i ≡ next_of pool rows i (need_at c 51 0 >> refuse e 0)
  unfolding next_of need_at ◌>>◌
  refused e true = refl
  refused e false = refl

  taken : (left : ℕ) → left ≡ row_count rows - (i + 1) → (x : Says Place) (c : Bool)
      → (need_at c 42 i >> ok (says_of pool x, record { at = suc i; cells = shown_from pool rows (suc i) left })) ≡ next_of pool rows i (need_at c 51 0 >> ok x)
  unfolding next_of need_at ◌>>◌
  taken left e x true = rw (e, add-one) refl
  taken left e x false = refl

  row-left : (left : ℕ) → left ≡ row_count rows - (i + 1) → (n : ℕ) (o : Option (Says Place)) → next_in node i (shown_at pool (under n o) ∷ shown_from pool rows (suc i) left)
      ≡ next_of pool rows i (need_at (eqb n node) 51 0 >> ((or_refuse (under n o) 51 0 >>= (λ r. need_at (is_inside (length pool) r.says) 51 0 >> ok r)) >>= (λ r. ok r.says)))
  unfolding next_in shown_at under cell_of need_at or_refuse ◌>>=◌ ◌>>◌
  row-left left e n none = refused 51 (eqb n node)
  row-left left e n (some x) = by_bool (is_inside (length pool) x) (λ t. rw t (taken left e x (eqb n node))) (λ t. rw t (refused 51 (eqb n node)))

  -- with so many rows left
  next-left : (left : ℕ) → row_count rows - i ≡ left → next node (rest_of pool rows i) ≡ next_of pool rows i (found_under node rows (length pool) i)
  unfolding next_in found_under found row_at shown_from need_at ◌>>◌ ◌>>=◌
  next-left zero e = rw (e, le-ltb i (row_count rows) (omega arith)) (refused 50 (eqb (row_node rows i) node))
  next-left (suc left) e = rw (e, lt-ltb i (row_count rows) (omega arith)) (row-left left (omega arith) (row_node rows i) _)

  -- The next cell is what the row says, if it is under the node.
  pub next-look : next node (rest_of pool rows i) ≡ next_of pool rows i (found_under node rows (length pool) i)
  next-look = next-left (row_count rows - i) refl
