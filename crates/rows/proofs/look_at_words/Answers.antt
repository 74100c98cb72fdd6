-- `rows::look_at_words` meets its contract: words that are a row's tell by their kind which of them are used.
use mathlib.Core.Path.{◌≡◌, refl, ap, sym, subst⁻¹, ◌∙◌}
use mathlib.Core.Bool.{true, false}
use Prim.Native.Nat.{ℕ, ◌≤◌, ◌<◌}
use native.Mathlib.Omega.{arith}
use mir.Syntax.{w64}
use mir.ValLaws.{to_z-of_z}
use Rattle.format.specs.Answer.{Answer, ok, ◌>>=◌}
use Rattle.format.specs.Label.{word, integer}
use Rattle.format.specs.Row.{Says, bare, placed, Place, true_row, integer_row, is_place, from_words}
use Rattle.label.specs.Laws.{word-integer}
use Rattle.rows.specs.Kind.{word_of}
use Rattle.rows.specs.Seen.{seen, RightCase, look_at_words, is_some}
use Rattle.rows.specs.declared.kind.Kind.{Kind}
use Rattle.rows.specs.declared.kind.Kind.TheVariants as kind
use Rattle.rows.specs.Placed.{place_inside}
use Rattle.std.proofs.lemmas.Result.{err_from_is_err_and}
use Rattle.rows.proofs.Laws.{no-kind, look-no-row, look_none, look_one, look-both, placed-inside}
use Rattle.rows.proofs.look_at_words.Goals as goal

-- the words are a row's
module _ (kind a b count : ℕ) (k : Kind) (w : word_of k ≡ kind) (row : is_some (from_words (word_of k) a b) ≡ true) where
  look : {x : Answer (Says Place)} → look_at_words (word_of k) a b count ≡ x → x ≡ look_at_words kind a b count
  look q = sym q ∙ ap (λ (n : ℕ). look_at_words n a b count) w

  module _ (K : Kind) (e : k ≡ K) where
    nothing : word_of K ≤ true_row → ok (bare (word_of K) 0) ≡ look_at_words kind a b count
    nothing h = ap (λ (x : Kind). ok (bare (word_of x) 0)) (sym e) ∙ look (look_none (word_of k) a b count row (subst⁻¹ (λ (x : Kind). word_of x ≤ true_row) e h))

    one : true_row < word_of K → is_place (word_of K) ≡ false → ok (bare (word_of K) a) ≡ look_at_words kind a b count
    one h p = ap (λ (x : Kind). ok (bare (word_of x) a)) (sym e) ∙ look (look_one (word_of k) a b count row (subst⁻¹ (λ (x : Kind). true_row < word_of x) e h) (ap (λ (x : Kind). is_place (word_of x)) e ∙ p))

    both : true_row < word_of K → is_place (word_of K) ≡ true → {r : Answer Place} → r ≡ place_inside count (record { start = a; size = b }) → (r >>= (λ q. ok (placed (word_of K) q))) ≡ look_at_words kind a b count
    both h p {r} z = ap (λ (x : Kind). r >>= (λ q. ok (placed (word_of x) q))) (sym e) ∙ placed-inside count _ (word_of k) z ∙ look (look-both (word_of k) a b count (subst⁻¹ (λ (x : Kind). true_row < word_of x) e h) (ap (λ (x : Kind). is_place (word_of x)) e ∙ p))

pub returns-in_err-kind : goal.returns-in_err-kind
returns-in_err-kind c =
    let p = err_from_is_err_and c.from_residual.result c.from_residual.ensures.1 in
    rw (p.1, p.2, c.in_err-kind.ensures.0) (record { result_value = sym (look-no-row _ _ _ _ (no-kind c.args.kind c.args.a c.args.b c.in_err-kind.ensures.1)); right_case = tt })

pub returns-then-not-is_row : goal.returns-then-not-is_row
returns-then-not-is_row c = record { result_value = sym (look-no-row _ _ _ _ (sym c.is_row.ensures ∙ c.if-not-is_row.true)) ∙ ap (λ (n : ℕ). look_at_words n c.args.a c.args.b c.args.count) c.in_ok-kind.ensures; right_case = tt }

pub returns-in-Null : goal.returns-in-Null
unfolding seen RightCase
returns-in-Null c = record { result_value = nothing c.args.kind c.args.a c.args.b c.args.count c.in_ok-kind.kind c.in_ok-kind.ensures (sym c.is_row.ensures ∙ c.if-not-is_row.false) kind.Null c.in-Null.is (omega arith); right_case = tt }

pub returns-in-Absent : goal.returns-in-Absent
unfolding seen RightCase
returns-in-Absent c = record { result_value = nothing c.args.kind c.args.a c.args.b c.args.count c.in_ok-kind.kind c.in_ok-kind.ensures (sym c.is_row.ensures ∙ c.if-not-is_row.false) kind.Absent c.in-Absent.is (omega arith); right_case = tt }

pub returns-in-False : goal.returns-in-False
unfolding seen RightCase
returns-in-False c = record { result_value = nothing c.args.kind c.args.a c.args.b c.args.count c.in_ok-kind.kind c.in_ok-kind.ensures (sym c.is_row.ensures ∙ c.if-not-is_row.false) kind.False c.in-False.is (omega arith); right_case = tt }

pub returns-in-True : goal.returns-in-True
unfolding seen RightCase
returns-in-True c = record { result_value = nothing c.args.kind c.args.a c.args.b c.args.count c.in_ok-kind.kind c.in_ok-kind.ensures (sym c.is_row.ensures ∙ c.if-not-is_row.false) kind.True c.in-True.is (omega arith); right_case = tt }

pub returns-in-Integer : goal.returns-in-Integer
unfolding seen RightCase is_place
returns-in-Integer c =
    let i = to_z-of_z w64 _ (record { sfits = c.integer_of.type_inv }) ∙ c.integer_of.ensures in
    let e : word (integer c.args.a) ≡ c.args.a = word-integer c.args.a (omega arith) in
    record { result_value = ap (λ (n : ℕ). ok (bare integer_row n)) (ap word i ∙ e) ∙ one c.args.kind c.args.a c.args.b c.args.count c.in_ok-kind.kind c.in_ok-kind.ensures (sym c.is_row.ensures ∙ c.if-not-is_row.false) kind.Integer c.in-Integer.is (omega arith) refl; right_case = tt }

pub returns-in-Float : goal.returns-in-Float
unfolding seen RightCase is_place
returns-in-Float c = record { result_value = one c.args.kind c.args.a c.args.b c.args.count c.in_ok-kind.kind c.in_ok-kind.ensures (sym c.is_row.ensures ∙ c.if-not-is_row.false) kind.Float c.in-Float.is (omega arith) refl; right_case = c.float_of.ensures }

pub returns-in-Record : goal.returns-in-Record
unfolding seen RightCase is_place
returns-in-Record c = record { result_value = one c.args.kind c.args.a c.args.b c.args.count c.in_ok-kind.kind c.in_ok-kind.ensures (sym c.is_row.ensures ∙ c.if-not-is_row.false) kind.Record c.in-Record.is (omega arith) refl; right_case = tt }

pub returns-in-Array : goal.returns-in-Array
unfolding seen RightCase is_place
returns-in-Array c = record { result_value = one c.args.kind c.args.a c.args.b c.args.count c.in_ok-kind.kind c.in_ok-kind.ensures (sym c.is_row.ensures ∙ c.if-not-is_row.false) kind.Array c.in-Array.is (omega arith) refl; right_case = tt }

pub returns-in_ok-look_at_place-in-String : goal.returns-in_ok-look_at_place-in-String
unfolding seen RightCase is_place ◌>>=◌
returns-in_ok-look_at_place-in-String c = record { result_value = both c.args.kind c.args.a c.args.b c.args.count c.in_ok-kind.kind c.in_ok-kind.ensures (sym c.is_row.ensures ∙ c.if-not-is_row.false) kind.String c.in-String.is (omega arith) refl c.in_ok-look_at_place-in-String.ensures; right_case = tt }

pub returns-in_err-look_at_place-in-String : goal.returns-in_err-look_at_place-in-String
unfolding is_place ◌>>=◌
returns-in_err-look_at_place-in-String c =
    let p = err_from_is_err_and c.from_residual-in_err-look_at_place-in-String.result c.from_residual-in_err-look_at_place-in-String.ensures.1 in
    rw (p.1, p.2) (record { result_value = both c.args.kind c.args.a c.args.b c.args.count c.in_ok-kind.kind c.in_ok-kind.ensures (sym c.is_row.ensures ∙ c.if-not-is_row.false) kind.String c.in-String.is (omega arith) refl c.in_err-look_at_place-in-String.ensures; right_case = tt })

pub returns-in_ok-look_at_place-in-Bytes : goal.returns-in_ok-look_at_place-in-Bytes
unfolding seen RightCase is_place ◌>>=◌
returns-in_ok-look_at_place-in-Bytes c = record { result_value = both c.args.kind c.args.a c.args.b c.args.count c.in_ok-kind.kind c.in_ok-kind.ensures (sym c.is_row.ensures ∙ c.if-not-is_row.false) kind.Bytes c.in-Bytes.is (omega arith) refl c.in_ok-look_at_place-in-Bytes.ensures; right_case = tt }

pub returns-in_err-look_at_place-in-Bytes : goal.returns-in_err-look_at_place-in-Bytes
unfolding is_place ◌>>=◌
returns-in_err-look_at_place-in-Bytes c =
    let p = err_from_is_err_and c.from_residual-in_err-look_at_place-in-Bytes.result c.from_residual-in_err-look_at_place-in-Bytes.ensures.1 in
    rw (p.1, p.2) (record { result_value = both c.args.kind c.args.a c.args.b c.args.count c.in_ok-kind.kind c.in_ok-kind.ensures (sym c.is_row.ensures ∙ c.if-not-is_row.false) kind.Bytes c.in-Bytes.is (omega arith) refl c.in_err-look_at_place-in-Bytes.ensures; right_case = tt })

pub returns-in_ok-look_at_place-in-Fixed : goal.returns-in_ok-look_at_place-in-Fixed
unfolding seen RightCase is_place ◌>>=◌
returns-in_ok-look_at_place-in-Fixed c = record { result_value = both c.args.kind c.args.a c.args.b c.args.count c.in_ok-kind.kind c.in_ok-kind.ensures (sym c.is_row.ensures ∙ c.if-not-is_row.false) kind.Fixed c.in-Fixed.is (omega arith) refl c.in_ok-look_at_place-in-Fixed.ensures; right_case = tt }

pub returns-in_err-look_at_place-in-Fixed : goal.returns-in_err-look_at_place-in-Fixed
unfolding is_place ◌>>=◌
returns-in_err-look_at_place-in-Fixed c =
    let p = err_from_is_err_and c.from_residual-in_err-look_at_place-in-Fixed.result c.from_residual-in_err-look_at_place-in-Fixed.ensures.1 in
    rw (p.1, p.2) (record { result_value = both c.args.kind c.args.a c.args.b c.args.count c.in_ok-kind.kind c.in_ok-kind.ensures (sym c.is_row.ensures ∙ c.if-not-is_row.false) kind.Fixed c.in-Fixed.is (omega arith) refl c.in_err-look_at_place-in-Fixed.ensures; right_case = tt })
