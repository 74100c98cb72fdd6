-- The kinds by name, each with its number.
use Rattle.std.specs.Prelude.{◌≡◌, refl, Bool, true, false, ◌&&◌, ℕ, ◌≤◌, leb, cond, eqb, Option, Some, None}
use Rattle.std.proofs.Common.{sym, ap, ◌∙◌, arith}
use borrow.Author.Tests.{eqb-true, eqb-false}
use Rattle.std.proofs.lemmas.Bool.Decides.{nat_tests}
use Rattle.format.specs.Table.{STRING, BOOLEAN, VARINT, FLOAT64, BYTES, FIXED, RECORD, ARRAY, BLOCK, NULLABLE, is_textual, is_leaf}
use Rattle.table.specs.declared.nodes.Kind.{Kind}
use Rattle.table.specs.declared.nodes.Kind.TheVariants as kind

abbrev pub number_of : Kind → ℕ
number_of kind.String = STRING
number_of kind.Boolean = BOOLEAN
number_of kind.Varint = VARINT
number_of kind.Float64 = FLOAT64
number_of kind.Bytes = BYTES
number_of kind.Fixed = FIXED
number_of kind.Record = RECORD
number_of kind.Array = ARRAY
number_of kind.Block = BLOCK
number_of kind.Nullable = NULLABLE

-- the kind that has the number k
unfoldable pub kind_of : ℕ → Option Kind
kind_of k =
    cond (eqb k STRING) (Some kind.String)
    (cond (eqb k BOOLEAN) (Some kind.Boolean)
    (cond (eqb k VARINT) (Some kind.Varint)
    (cond (eqb k FLOAT64) (Some kind.Float64)
    (cond (eqb k BYTES) (Some kind.Bytes)
    (cond (eqb k FIXED) (Some kind.Fixed)
    (cond (eqb k RECORD) (Some kind.Record)
    (cond (eqb k ARRAY) (Some kind.Array)
    (cond (eqb k BLOCK) (Some kind.Block)
    (cond (eqb k NULLABLE) (Some kind.Nullable) None)))))))))

-- 0 where there is none
abbrev pub number_in : Option Kind → ℕ
number_in None = 0
number_in (Some c) = number_of c

-- ---- from a kind to its number, and back

pub kind-named : (c : Kind) → kind_of (number_of c) ≡ Some c
unfolding kind_of
kind-named kind.String = refl
kind-named kind.Boolean = refl
kind-named kind.Varint = refl
kind-named kind.Float64 = refl
kind-named kind.Bytes = refl
kind-named kind.Fixed = refl
kind-named kind.Record = refl
kind-named kind.Array = refl
kind-named kind.Block = refl
kind-named kind.Nullable = refl

pub kind-is : (k : ℕ) (c : Kind) → kind_of k ≡ Some c → k ≡ number_of c
unfolding kind_of
kind-is k c e = grind (arith, nat_tests)

-- By what `kind_at` answers: the node is of this kind, of another, or of none.
pub kind-here : {k : ℕ} {o : Option Kind} {c : Kind} (d : Kind) → o ≡ kind_of k → o ≡ Some c → c ≡ d → k ≡ number_of d
kind-here {k} {c = c} d h q e = kind-is k c (sym h ∙ q) ∙ ap number_of e

pub kind-not : {k : ℕ} {o : Option Kind} {c : Kind} (d : Kind) → o ≡ kind_of k → o ≡ Some c → (c ≡ d → ⊥) → k ≡ number_of d → ⊥
kind-not {c = c} d h q z e = let s : ◌≡◌ {A = Option Kind} (Some c) (Some d) = sym q ∙ h ∙ ap kind_of e ∙ kind-named d in z (cc)

pub kind-none : {k : ℕ} {o : Option Kind} (d : Kind) → o ≡ kind_of k → o ≡ None → k ≡ number_of d → ⊥
kind-none d h q e = let s : ◌≡◌ {A = Option Kind} None (Some d) = sym q ∙ h ∙ ap kind_of e ∙ kind-named d in cc

-- and by what `is_kind` answers
pub kind-true : {k : ℕ} {b : Bool} (d : Kind) → b ≡ eqb k (number_of d) → b ≡ true → k ≡ number_of d
kind-true d h q = eqb-true _ _ (sym h ∙ q)

pub kind-false : {k : ℕ} {b : Bool} (d : Kind) → b ≡ eqb k (number_of d) → b ≡ false → k ≡ number_of d → ⊥
kind-false d h q = eqb-false _ _ (sym h ∙ q)

-- «the kinds» are 1 to 10
pub number-inside : (c : Kind) → (1 ≤ number_of c) × (number_of c ≤ 10)
number-inside kind.String = (omega arith, omega arith)
number-inside kind.Boolean = (omega arith, omega arith)
number-inside kind.Varint = (omega arith, omega arith)
number-inside kind.Float64 = (omega arith, omega arith)
number-inside kind.Bytes = (omega arith, omega arith)
number-inside kind.Fixed = (omega arith, omega arith)
number-inside kind.Record = (omega arith, omega arith)
number-inside kind.Array = (omega arith, omega arith)
number-inside kind.Block = (omega arith, omega arith)
number-inside kind.Nullable = (omega arith, omega arith)

pub number-outside : (k : ℕ) → kind_of k ≡ None → (leb 1 k && leb k 10) ≡ false
unfolding kind_of
number-outside k e = grind (arith, nat_tests)

-- what a BLOCK may hold is asked of a kind as of its number
pub same-textual : (k : ℕ) → is_textual (number_in (kind_of k)) ≡ is_textual k
unfolding kind_of is_textual
same-textual k = grind (arith, nat_tests)

pub same-leaf : (k : ℕ) → is_leaf (number_in (kind_of k)) ≡ is_leaf k
unfolding kind_of is_leaf is_textual
same-leaf k = grind (arith, nat_tests)

pub same-nullable : (k : ℕ) → eqb (number_in (kind_of k)) NULLABLE ≡ eqb k NULLABLE
unfolding kind_of
same-nullable k = grind (arith, nat_tests)
