-- `rows::is_row` meets its contract: each answer is the test on the words that the kind does not use.
use mathlib.Core.Path.{◌≡◌, refl, sym, ◌∙◌}
use mathlib.Core.Bool.{Bool, true, ◌&&◌}
use mathlib.Core.Logic.{◌⊎◌, inl, inr}
use Prim.Native.Nat.{ℕ}
use lib.Dec.{eqb}
use Rattle.format.specs.Row.{is_place, from_words}
use Rattle.rows.specs.Seen.{is_some}
use Rattle.rows.specs.Kind.{word_of}
use Rattle.rows.specs.declared.kind.Kind.{Kind}
use Rattle.rows.specs.declared.kind.Kind.TheVariants as kind
use Rattle.rows.proofs.Laws.{some-if}
use Rattle.rows.proofs.is_row.Goals as goal

-- the test, by how many of the words the kind uses: none, both, one
abbrev unused : Kind → ℕ → ℕ → Bool
unused kind.Null a b = eqb a 0 && eqb b 0
unused kind.Absent a b = eqb a 0 && eqb b 0
unused kind.False a b = eqb a 0 && eqb b 0
unused kind.True a b = eqb a 0 && eqb b 0
unused kind.Integer a b = eqb b 0
unused kind.Float a b = eqb b 0
unused kind.String a b = true
unused kind.Bytes a b = true
unused kind.Fixed a b = true
unused kind.Record a b = eqb b 0
unused kind.Array a b = eqb b 0

is-unused : (k : Kind) (a b : ℕ) → unused k a b ≡ is_some (from_words (word_of k) a b)
unfolding is_some from_words is_place
is-unused kind.Null a b = sym (some-if _ _)
is-unused kind.Absent a b = sym (some-if _ _)
is-unused kind.False a b = sym (some-if _ _)
is-unused kind.True a b = sym (some-if _ _)
is-unused kind.Integer a b = sym (some-if _ _)
is-unused kind.Float a b = sym (some-if _ _)
is-unused kind.String a b = refl
is-unused kind.Bytes a b = refl
is-unused kind.Fixed a b = refl
is-unused kind.Record a b = sym (some-if _ _)
is-unused kind.Array a b = sym (some-if _ _)

first : (k : Kind) (a b : ℕ) → (k ≡ kind.Null) ⊎ ((k ≡ kind.Absent) ⊎ ((k ≡ kind.False) ⊎ (k ≡ kind.True))) → (eqb a 0 && eqb b 0) ≡ unused k a b
first k a b (inl e) = rw e refl
first k a b (inr (inl e)) = rw e refl
first k a b (inr (inr (inl e))) = rw e refl
first k a b (inr (inr (inr e))) = rw e refl

places : (k : Kind) (a b : ℕ) → (k ≡ kind.String) ⊎ ((k ≡ kind.Bytes) ⊎ (k ≡ kind.Fixed)) → true ≡ unused k a b
places k a b (inl e) = rw e refl
places k a b (inr (inl e)) = rw e refl
places k a b (inr (inr e)) = rw e refl

others : (k : Kind) (a b : ℕ) → (k ≡ kind.Integer) ⊎ ((k ≡ kind.Float) ⊎ ((k ≡ kind.Record) ⊎ (k ≡ kind.Array))) → eqb b 0 ≡ unused k a b
others k a b (inl e) = rw e refl
others k a b (inr (inl e)) = rw e refl
others k a b (inr (inr (inl e))) = rw e refl
others k a b (inr (inr (inr e))) = rw e refl

pub returns-in-Null : goal.returns-in-Null
returns-in-Null c = first _ _ _ c.in-Null.is ∙ is-unused _ _ _

pub returns-in-String : goal.returns-in-String
returns-in-String c = places _ _ _ c.in-String.is ∙ is-unused _ _ _

pub returns-in-Integer : goal.returns-in-Integer
returns-in-Integer c = others _ _ _ c.in-Integer.is ∙ is-unused _ _ _
