-- A row against the wanted node and kind, by its words, and the place that is found. Assumes nothing.
use mathlib.Core.Path.{◌≡◌, refl, ap, sym, subst, ◌∙◌}
use mathlib.Core.Bool.{Bool, true, false, cond, ◌&&◌}
use mathlib.Core.List.{List, []}
use mathlib.Core.Option.{Option, none, some}
use Prim.Native.Nat.{ℕ, ◌+◌, ◌*◌, ◌<◌, ◌≤◌}
use native.Mathlib.Omega.{arith}
use lib.Dec.{leb, eqb}
use lib.ListN.{get_or}
use borrow.Author.Tests.{leb-true, leb-false, eq-eqb, ne_eqb}
use Rattle.std.specs.Prelude.{Option as Optional, Some, None, Result, Ok, Err, IfSome}
use Rattle.std.specs.Result.{result_ok}
use Rattle.std.proofs.Common.{rules}
use Rattle.format.specs.Part as part
use Rattle.format.specs.Refusal.{answered_by}
use Rattle.format.specs.declared.refusal.Refusal.{Refusal}
use Rattle.format.specs.declared.place.Place as code
use Rattle.format.specs.Answer.{Answer, ok, refuse, ◌>>=◌, ◌>>◌, need_at, or_refuse}
use Rattle.format.specs.Row.{Says, bare, placed, Row, row, Place, bytes_at, true_row, string_row, array_row, is_place, is_inside, from_words, row_width, row_count, row_node, found, says_part, part_of}
use Rattle.laws.specs.Facts.{by_bool, and-true, ok_same, need-ok, absurd-some, some_same}
use Rattle.rows.specs.declared.Seen.{Seen}
use Rattle.rows.specs.Seen.{seen, seen_under, found_under, inside, look_at_words, is_some}
use Rattle.rows.specs.Placed.{place_in, place_of, place_found, place_inside, place, IsInside}
use Rattle.rows.proofs.Laws.{from-none, from_one, look-both, look-no-row, under-row, under_node, found-beyond, found-row, found_inside}

-- A row of a kind that has a place: its words are its place.
pub place-above : (kind : ℕ) → is_place kind ≡ true → true_row < kind
unfolding is_place
place-above kind p = let l : string_row ≤ kind = leb-true string_row kind (and-true (leb string_row kind) _ p).0 in omega arith

-- What is told alike of each row of the kind k and of a refusal is told of three words of that kind.
module _ {A : Type 0} (f : Answer (Says Place) → A) {y : A} (k count : ℕ) (n : (e j : ℕ) → f (refuse e j) ≡ y) (v : (x : ℕ) → f (ok (bare k x)) ≡ y) where
  tells-bare : (t : Bool) (x : ℕ) → f (or_refuse (cond t (some (bare k x)) none) 51 0 >>= inside count) ≡ y
  unfolding or_refuse inside is_inside need_at ◌>>◌ ◌>>=◌
  tells-bare true x = v x
  tells-bare false x = n 51 0

  -- a kind that has no place
  pub tells-placeless : is_place k ≡ false → (a b : ℕ) → f (look_at_words k a b count) ≡ y
  unfolding look_at_words
  tells-placeless i a b = by_bool (leb k true_row)
      (λ h. rw (from-none k a b (leb-true k true_row h)) (tells-bare (eqb a 0 && eqb b 0) 0))
      (λ h. rw (from_one k a b (leb-false k true_row h) i) (tells-bare (leb k array_row && eqb b 0) a))

  module _ (w : (p : Place) → f (ok (placed k p)) ≡ y) where
    tells-place : (t : Bool) (p : Place) → f (need_at t 51 0 >> ok (placed k p)) ≡ y
    unfolding need_at ◌>>◌
    tells-place true p = w p
    tells-place false p = n 51 0

    pub tells-kind : (a b : ℕ) → f (look_at_words k a b count) ≡ y
    unfolding inside
    tells-kind a b = by_bool (is_place k)
        (λ i. ap f (look-both k a b count (place-above k i) i) ∙ tells-place (is_inside count (placed k _)) _)
        (λ i. tells-placeless i a b)

-- A row of another kind: none of this kind's places, whatever its words.
pub other-kind : (kind k count : ℕ) → (k ≡ kind → ⊥) → (a b : ℕ) → place_in kind (look_at_words k a b count) ≡ none
unfolding place_in
other-kind kind k count z a b = tells-kind (place_in kind) k count (λ e j. refl) (λ x. refl) (λ p. rw (ne_eqb k kind z) refl) a b

-- what an answer hands out as a place
abbrev some_of : Answer Place → Option Place
some_of (ok p) = some p
some_of (refuse e j) = none

place-ok : (r : Result code.Place Refusal) → place (result_ok r) ≡ some_of (answered_by part.place_of r)
place-ok (Ok p) = refl
place-ok (Err e) = refl

-- told by an f that tells a place of what has one, and none of a refusal
some-inside : (f : Answer (Says Place) → Option Place) (count kind : ℕ) (p : Place) → f (refuse 51 0) ≡ none → f (ok (placed kind p)) ≡ some p → some_of (place_inside count p) ≡ f (inside count (placed kind p))
unfolding place_inside inside is_inside need_at ◌>>◌
some-inside f count kind p r o = go (leb (p.start + p.size) count)
  where
    go : (t : Bool) → some_of (need_at t 51 0 >> ok p) ≡ f (need_at t 51 0 >> ok (placed kind p))
    go true = sym o
    go false = sym r

pub none-unseen : (kind : ℕ) {l : Answer (Says Place)} → (e : ℕ) × (l ≡ refuse e 0) → none ≡ place_in kind l
unfolding place_in
none-unseen kind (e, q) = sym (ap (place_in kind) q)

-- where the row is there, under the node
module _ (ws : List ℕ) (count i node kind at : ℕ) (begins : (at ≡ row_width * i) × (i < row_count ws) × (row_node ws i ≡ node)) where
  abbrev pub looked_at : ℕ → Answer (Says Place)
  looked_at k = look_at_words k (get_or ws (at + 1) 0) (get_or ws (at + 2) 0) count

  pub under-words : found_under node ws count i ≡ looked_at (get_or ws at 0)
  under-words =
      let (e, there, under) = begins in
      under-row ws count i node there under ∙ ap (λ (n : ℕ). look_at_words (get_or ws n 0) (get_or ws (n + 1) 0) (get_or ws (n + 2) 0) count) (sym e)

  pub under-kind : get_or ws at 0 ≡ kind → found_under node ws count i ≡ looked_at kind
  under-kind k = under-words ∙ ap looked_at k

  pub row_other : (get_or ws at 0 ≡ kind → ⊥) → none ≡ place_in kind (found_under node ws count i)
  row_other z = sym (ap (place_in kind) under-words ∙ other-kind kind _ count z _ _)

  pub row-place : (r : Result code.Place Refusal) → is_place kind ≡ true → get_or ws at 0 ≡ kind
      → answered_by part.place_of r ≡ place_inside count (record { start = get_or ws (at + 1) 0; size = get_or ws (at + 2) 0 })
      → place (result_ok r) ≡ place_in kind (found_under node ws count i)
  unfolding place_in
  row-place r p k e = place-ok r ∙ ap some_of e ∙ some-inside (place_in kind) count kind _ refl (rw (eq-eqb kind kind refl) refl) ∙ sym (ap (place_in kind) (under-kind k ∙ look-both kind _ _ count (place-above kind p) p))

-- one that is inside the bytes
pub inside-ok : (count : ℕ) (p : Place) (r : Result code.Place Refusal) → answered_by part.place_of r ≡ place_inside count p → IfSome (result_ok r) (IsInside count)
unfolding place_inside
inside-ok count p (Ok q) e =
    let (t, f) = need-ok (leb (p.start + p.size) count) 51 0 (ok p) (sym e) in
    subst (λ (x : Place). x.start + x.size ≤ count) (ok_same f) (leb-true (p.start + p.size) count t)
inside-ok count p (Err r) e = search rules

-- The place of a row that is there, whatever its node.
module _ (ws : List ℕ) (count i : ℕ) where
  pub place-beyond : row_count ws ≤ i → none ≡ place_found (found ws count i)
  unfolding place_found
  place-beyond h = sym (ap place_found (found-beyond ws count i h))

  module _ (there : i < row_count ws) where
    said : Answer (Says Place) → Option Place
    said x = place_found (under_node (row_node ws i) x)

    pub place-no-row : is_some (from_words (get_or ws (row_width * i) 0) (get_or ws (row_width * i + 1) 0) (get_or ws (row_width * i + 2) 0)) ≡ false → none ≡ place_found (found ws count i)
    unfolding place_found ◌>>=◌
    place-no-row h = sym (ap place_found (found-row ws count i there) ∙ ap (λ (x : Answer (Says Place)). place_found (under_node (row_node ws i) x)) (look-no-row _ _ _ count h))

    module _ (kind : ℕ) (k : get_or ws (row_width * i) 0 ≡ kind) where
      found-kind : place_found (found ws count i) ≡ said (look_at_words kind (get_or ws (row_width * i + 1) 0) (get_or ws (row_width * i + 2) 0) count)
      unfolding said
      found-kind = ap place_found (found-row ws count i there) ∙ ap (λ (m : ℕ). place_found (under_node (row_node ws i) (look_at_words m (get_or ws (row_width * i + 1) 0) (get_or ws (row_width * i + 2) 0) count))) k

      pub place-less : is_place kind ≡ false → none ≡ place_found (found ws count i)
      unfolding said place_found place_of ◌>>=◌
      place-less p = sym (found-kind ∙ tells-placeless said kind count (λ e j. refl) (λ x. refl) p _ _)

      pub place-is : is_place kind ≡ true → (r : Result code.Place Refusal)
          → answered_by part.place_of r ≡ place_inside count (record { start = get_or ws (row_width * i + 1) 0; size = get_or ws (row_width * i + 2) 0 })
          → place (result_ok r) ≡ place_found (found ws count i)
      unfolding said place_found place_of ◌>>=◌
      place-is p r e = place-ok r ∙ ap some_of e ∙ some-inside said count kind _ refl refl ∙ sym (found-kind ∙ ap said (look-both kind _ _ count (place-above kind p) p))

-- The place of a row that was found, whatever its kind and node.
row-of : (x : Answer (Row Place)) {p : Place} → some p ≡ place_found x → (n : ℕ) × (k : ℕ) × (x ≡ ok (row n (placed k p)))
unfolding place_found place_of
row-of (ok r) {p} e = go r.says e
  where
    go : (y : Says Place) → some p ≡ place_of y → (n : ℕ) × (k : ℕ) × (ok (row r.node y) ≡ ok (row n (placed k p)))
    go (bare k a) z = absurd-some (sym z)
    go (placed k q) z = (r.node, k, ap (λ (x : Place). ok (row r.node (placed k x))) (some_same (sym z)))
row-of (refuse n j) e = absurd-some (sym e)

module _ (ws : List ℕ) (count i n : ℕ) (r : Result Seen Refusal) (e : answered_by (seen_under n) r ≡ found ws count i) where
  pub found-not : result_ok r ≡ None → none ≡ place_found (found ws count i)
  unfolding place_found
  found-not q = go r e q
    where
      go : (r : Result Seen Refusal) → answered_by (seen_under n) r ≡ found ws count i → result_ok r ≡ None → none ≡ place_found (found ws count i)
      go (Ok s) e q = absurd cc
      go (Err x) e q = ap place_found e

  pub found_at : {s : Seen} (o : Optional code.Place) → result_ok r ≡ Some s → place o ≡ place_of (seen s) → (place o ≡ place_found (found ws count i)) × IfSome o (IsInside count)
  unfolding place_found
  found_at {s} o q p =
      let z : place o ≡ place_found (found ws count i) = go r e q in
      (z, within o z)
    where
      go : (r : Result Seen Refusal) → answered_by (seen_under n) r ≡ found ws count i → result_ok r ≡ Some s → place o ≡ place_found (found ws count i)
      go (Ok t) e q = let g : t ≡ s = cc in p ∙ ap (λ (x : Seen). place_of (seen x)) (sym g) ∙ ap place_found e
      go (Err x) e q = absurd cc

      within : (o : Optional code.Place) → place o ≡ place_found (found ws count i) → IfSome o (IsInside count)
      within (Some p) z = let (m, k, f) = row-of (found ws count i) z in found_inside ws count i f
      within None z = search rules

-- The part of the bytes at it.
pub part_none : (bytes : List ℕ) (x : Answer (Row Place)) → none ≡ place_found x → part_of bytes x ≡ []
unfolding place_found place_of part_of says_part
part_none bytes (ok r) e = go r.says e
  where
    go : (y : Says Place) → none ≡ place_of y → says_part bytes y ≡ []
    go (bare k a) z = refl
    go (placed k p) z = absurd-some z
part_none bytes (refuse n j) e = refl

pub part-some : (bytes : List ℕ) (x : Answer (Row Place)) {p : Place} → some p ≡ place_found x → part_of bytes x ≡ bytes_at bytes p
unfolding place_found place_of part_of says_part
part-some bytes (ok r) {p} e = go r.says e
  where
    go : (y : Says Place) → some p ≡ place_of y → says_part bytes y ≡ bytes_at bytes p
    go (bare k a) z = absurd-some (sym z)
    go (placed k q) z = ap (bytes_at bytes) (some_same (sym z))
part-some bytes (refuse n j) e = absurd-some (sym e)
