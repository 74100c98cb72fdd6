-- What a row's kind says of it, as a truth or as what stands in front of a value. Assumes nothing.
use mathlib.Core.Path.{◌≡◌, refl, ap, sym, ◌∙◌}
use mathlib.Core.Bool.{Bool, true, false, and-false}
use mathlib.Core.Option.{none, some}
use mathlib.Core.List.{List, [], ◌∷◌}
use lib.ListN.{get_or}
use Prim.Native.Nat.{ℕ}
use native.Mathlib.Omega.{arith}
use lib.IntN.{pos}
use borrow.Author.Tests.{ne_eqb}
use Rattle.format.specs.Answer.{Answer, ok, refuse}
use Rattle.format.specs.Row.{Says, bare, placed, Place, null_row, absent_row, false_row, true_row}
use Rattle.format.specs.Read.{absent_label, null_label}
use Rattle.format.specs.Write.{is_bare, truth_in}
use Rattle.rows.specs.Kind.{word_of}
use Rattle.rows.specs.declared.kind.Kind.{Kind}
use Rattle.rows.specs.declared.kind.Kind.TheVariants as kind
use Rattle.rows.specs.Seen.{found_under}
use Rattle.rows.specs.Words.{kind_in, kind-alone}
use Rattle.laws.specs.Facts.{absurd-some, some_same}
use Rattle.write_row.specs.Judged.{truth_of, gone, front_of}

-- no two kinds have the same word
of_word : ℕ → Kind
of_word n = get_or (kind.Null ∷ kind.Absent ∷ kind.False ∷ kind.True ∷ kind.Integer ∷ kind.Float ∷ kind.String ∷ kind.Bytes ∷ kind.Fixed ∷ kind.Record ∷ kind.Array ∷ []) n kind.Null

of-word : (k : Kind) → of_word (word_of k) ≡ k
unfolding of_word
of-word kind.Null = refl
of-word kind.Absent = refl
of-word kind.False = refl
of-word kind.True = refl
of-word kind.Integer = refl
of-word kind.Float = refl
of-word kind.String = refl
of-word kind.Bytes = refl
of-word kind.Fixed = refl
of-word kind.Record = refl
of-word kind.Array = refl

same-word : {j k : Kind} → word_of j ≡ word_of k → j ≡ k
same-word {j} {k} e = sym (of-word j) ∙ ap of_word e ∙ of-word k

-- a row that is refused, and one of another kind
pub no-truth : (l : Answer (Says Place)) → none ≡ kind_in l → none ≡ truth_of l
unfolding kind_in truth_of
no-truth (ok (bare k x)) e = absurd-some e
no-truth (ok (placed k p)) e = refl
no-truth (refuse n j) e = refl

pub truth-not : (l : Answer (Says Place)) (k : Kind) → some (word_of k) ≡ kind_in l → (k ≡ kind.False → ⊥) → (k ≡ kind.True → ⊥) → none ≡ truth_of l
unfolding kind_in truth_of truth_in is_bare
truth-not (ok (bare m x)) k e f t = let q : word_of k ≡ m = some_same e in simp (ne_eqb m false_row (λ h. f (same-word (q ∙ h))), ne_eqb m true_row (λ h. t (same-word (q ∙ h))))
truth-not (ok (placed m p)) k e f t = refl
truth-not (refuse n j) k e f t = refl

pub no-front : (o z : Bool) (l : Answer (Says Place)) → none ≡ kind_in l → none ≡ front_of o z l
unfolding kind_in front_of
no-front o z (ok (bare k x)) e = absurd-some e
no-front o z (ok (placed k p)) e = absurd-some e
no-front o z (refuse n j) e = refl

pub front-here : (o z : Bool) (l : Answer (Says Place)) (k : Kind) → some (word_of k) ≡ kind_in l → (k ≡ kind.Null → ⊥) → (k ≡ kind.Absent → ⊥) → some none ≡ front_of o z l
unfolding kind_in front_of gone is_bare
front-here o z (ok (bare m x)) k e n a = let q : word_of k ≡ m = some_same e in simp (ne_eqb m null_row (λ h. n (same-word (q ∙ h))), ne_eqb m absent_row (λ h. a (same-word (q ∙ h))), and-false)
front-here o z (ok (placed m p)) k e n a = refl
front-here o z (refuse i j) k e n a = absurd-some (sym e)

-- a row of one of the four kinds that are the whole of what it says
module _ (node count i : ℕ) (rows : List ℕ) where
  pub truth-false : some false_row ≡ kind_in (found_under node rows count i) → some (pos 0) ≡ truth_of (found_under node rows count i)
  unfolding truth_of truth_in is_bare
  truth-false e = sym (ap truth_of (kind-alone node count i rows (sym e) (omega arith)))

  pub truth-true : some true_row ≡ kind_in (found_under node rows count i) → some (pos 1) ≡ truth_of (found_under node rows count i)
  unfolding truth_of truth_in is_bare
  truth-true e = sym (ap truth_of (kind-alone node count i rows (sym e) (omega arith)))

  module _ (o z : Bool) where
    pub front-absent : some absent_row ≡ kind_in (found_under node rows count i) → o ≡ true → some (some absent_label) ≡ front_of o z (found_under node rows count i)
    unfolding front_of gone is_bare
    front-absent e h = sym (ap (front_of o z) (kind-alone node count i rows (sym e) (omega arith)) ∙ simp h)

    pub front-null : some null_row ≡ kind_in (found_under node rows count i) → z ≡ true → some (some null_label) ≡ front_of o z (found_under node rows count i)
    unfolding front_of gone is_bare
    front-null e h = sym (ap (front_of o z) (kind-alone node count i rows (sym e) (omega arith)) ∙ simp (h, and-false))

    pub front-present : some absent_row ≡ kind_in (found_under node rows count i) → o ≡ false → some none ≡ front_of o z (found_under node rows count i)
    unfolding front_of gone is_bare
    front-present e h = sym (ap (front_of o z) (kind-alone node count i rows (sym e) (omega arith)) ∙ simp (h, and-false))

    pub front-some : some null_row ≡ kind_in (found_under node rows count i) → z ≡ false → some none ≡ front_of o z (found_under node rows count i)
    unfolding front_of gone is_bare
    front-some e h = sym (ap (front_of o z) (kind-alone node count i rows (sym e) (omega arith)) ∙ simp (h, and-false))
