-- The word of a row of a wanted kind, and the kind of a row of any, by its words. Assumes nothing.
use mathlib.Core.Path.{◌≡◌, refl, ap, sym, ◌∙◌}
use mathlib.Core.Bool.{Bool, true, false, and-false}
use mathlib.Core.Logic.{◌⊎◌, inl, inr}
use mathlib.Core.Option.{Option, none, some}
use Prim.Native.Nat.{ℕ, ◌≤◌, ◌<◌}
use native.Mathlib.Omega.{arith}
use lib.Dec.{leb}
use borrow.Author.Tests.{le-leb, leb-true, leb-false, eq-eqb, ne_eqb}
use Rattle.std.specs.Prelude.{Option as Optional, Some, None, Result, Ok, Err}
use Rattle.std.specs.Result.{result_ok}
use Rattle.format.specs.Part as part
use Rattle.format.specs.Refusal.{answered_by}
use Rattle.format.specs.declared.refusal.Refusal.{Refusal}
use Rattle.format.specs.declared.place.Place as code
use Rattle.format.specs.Answer.{Answer, ok, refuse, ◌>>=◌, ◌>>◌, need_at}
use Rattle.format.specs.Row.{Says, placed, Place, true_row, integer_row, array_row, is_place, is_inside, from_words}
use Rattle.laws.specs.Facts.{by_bool}
use Rattle.rows.specs.Kind.{word_of, Decodes}
use Rattle.rows.specs.declared.kind.Kind.{Kind}
use Rattle.rows.specs.declared.kind.Kind.TheVariants as kind
use Rattle.rows.specs.Placed.{place_inside}
use Rattle.rows.specs.Seen.{inside, look_at_words, is_some}
use Rattle.rows.specs.Words.{value_in, kind_in}
use Rattle.rows.proofs.Laws.{from_one, look-both, look-no-row, look_none, look_one, placed-inside, some-if}
use Rattle.rows.proofs.Places.{place-above, tells-kind}

-- the kinds that have a place
pub has : (k : Kind) → (k ≡ kind.String) ⊎ ((k ≡ kind.Bytes) ⊎ (k ≡ kind.Fixed)) → true ≡ is_place (word_of k)
unfolding is_place
has k (inl e) = rw e refl
has k (inr (inl e)) = rw e refl
has k (inr (inr e)) = rw e refl

pub has-not : (k : Kind) → (k ≡ kind.String → ⊥) → (k ≡ kind.Bytes → ⊥) → (k ≡ kind.Fixed → ⊥) → false ≡ is_place (word_of k)
unfolding is_place
has-not kind.Null s b f = refl
has-not kind.Absent s b f = refl
has-not kind.False s b f = refl
has-not kind.True s b f = refl
has-not kind.Integer s b f = refl
has-not kind.Float s b f = refl
has-not kind.String s b f = absurd (s refl)
has-not kind.Bytes s b f = absurd (b refl)
has-not kind.Fixed s b f = absurd (f refl)
has-not kind.Record s b f = refl
has-not kind.Array s b f = refl

most-word : (k : Kind) → word_of k ≤ array_row
most-word kind.Null = omega arith
most-word kind.Absent = omega arith
most-word kind.False = omega arith
most-word kind.True = omega arith
most-word kind.Integer = omega arith
most-word kind.Float = omega arith
most-word kind.String = omega arith
most-word kind.Bytes = omega arith
most-word kind.Fixed = omega arith
most-word kind.Record = omega arith
most-word kind.Array = omega arith

-- what a word was decoded to
pub decodes-not : {w : ℕ} (r : Result Kind Refusal) → Decodes w r → result_ok r ≡ None → array_row < w
decodes-not (Ok k) d q = absurd cc
decodes-not (Err e) d q = d.1

pub decodes : {w : ℕ} {k : Kind} (r : Result Kind Refusal) → Decodes w r → result_ok r ≡ Some k → w ≡ word_of k
decodes {w} {k} (Ok x) d q = let e : x ≡ k = cc in sym d ∙ ap word_of e
decodes (Err e) d q = absurd cc

-- A row that is refused has neither.
pub no-word : (kind : ℕ) {l : Answer (Says Place)} → (e : ℕ) × (l ≡ refuse e 0) → none ≡ value_in kind l
unfolding value_in
no-word kind (e, q) = sym (ap (value_in kind) q)

pub no-kind-in : {l : Answer (Says Place)} → (e : ℕ) × (l ≡ refuse e 0) → none ≡ kind_in l
unfolding kind_in
no-kind-in (e, q) = sym (ap kind_in q)

module _ (count : ℕ) where
  -- the word
  pub word-other : (kind k a b : ℕ) → (k ≡ kind → ⊥) → none ≡ value_in kind (look_at_words k a b count)
  unfolding value_in
  word-other kind k a b z = sym (tells-kind (value_in kind) k count (λ e j. refl) (λ x. rw (ne_eqb k kind z) refl) (λ p. refl) a b)

  word-in-place : (kind : ℕ) (p : Place) (t : Bool) → none ≡ value_in kind (need_at t 51 0 >> ok (placed kind p))
  unfolding value_in need_at ◌>>◌
  word-in-place kind p true = refl
  word-in-place kind p false = refl

  pub word-place : (kind a b : ℕ) → is_place kind ≡ true → none ≡ value_in kind (look_at_words kind a b count)
  unfolding inside
  word-place kind a b p = word-in-place kind _ (is_inside count (placed kind _)) ∙ sym (ap (value_in kind) (look-both kind a b count (place-above kind p) p))

  pub word-unused : (kind a b : ℕ) → integer_row ≤ kind → is_place kind ≡ false → (b ≡ 0 → ⊥) → none ≡ value_in kind (look_at_words kind a b count)
  word-unused kind a b h p z = no-word kind (51, look-no-row kind a b count (ap is_some (from_one kind a b (omega arith) p) ∙ some-if _ _ ∙ simp (ne_eqb b 0 z, and-false)))

  pub word-is : (k : Kind) (a b : ℕ) → integer_row ≤ word_of k → is_place (word_of k) ≡ false → b ≡ 0 → some a ≡ value_in (word_of k) (look_at_words (word_of k) a b count)
  unfolding value_in
  word-is k a b h p z =
      let r : is_some (from_words (word_of k) a b) ≡ true = ap is_some (from_one (word_of k) a b (omega arith) p) ∙ some-if _ _ ∙ simp (eq-eqb b 0 z, le-leb (word_of k) array_row (most-word k)) in
      sym (ap (value_in (word_of k)) (look_one (word_of k) a b count r (omega arith) p) ∙ simp (eq-eqb (word_of k) (word_of k) refl))

  -- the kind
  module _ (kind a b : ℕ) where
    pub kind-bare : is_some (from_words kind a b) ≡ true → is_place kind ≡ false → some kind ≡ kind_in (look_at_words kind a b count)
    unfolding kind_in
    kind-bare r p = by_bool (leb kind true_row)
        (λ h. sym (ap kind_in (look_none kind a b count r (leb-true kind true_row h))))
        (λ h. sym (ap kind_in (look_one kind a b count r (leb-false kind true_row h) p)))

    kinded : Optional code.Place → Option ℕ
    kinded (Some p) = some kind
    kinded None = none

    kind-place : is_place kind ≡ true → (r : Result code.Place Refusal) → answered_by part.place_of r ≡ place_inside count (record { start = a; size = b }) → kinded (result_ok r) ≡ kind_in (look_at_words kind a b count)
    unfolding kind_in ◌>>=◌ kinded
    kind-place p (Ok q) e = sym (ap kind_in (look-both kind a b count (place-above kind p) p ∙ sym (placed-inside count _ kind e)))
    kind-place p (Err n) e = sym (ap kind_in (look-both kind a b count (place-above kind p) p ∙ sym (placed-inside count _ kind e)))

    module _ (p : is_place kind ≡ true) (r : Result code.Place Refusal) (e : answered_by part.place_of r ≡ place_inside count (record { start = a; size = b })) where
      pub kind-inside : {q : code.Place} → result_ok r ≡ Some q → some kind ≡ kind_in (look_at_words kind a b count)
      unfolding kinded
      kind-inside z = sym (ap kinded z) ∙ kind-place p r e

      pub kind-outside : result_ok r ≡ None → none ≡ kind_in (look_at_words kind a b count)
      unfolding kinded
      kind-outside z = sym (ap kinded z) ∙ kind-place p r e
