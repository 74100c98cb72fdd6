-- What stands in front of a value, the row of a record, of an array and of a truth, and how the definition goes on from there.
use Rattle.std.specs.Prelude.{◌≡◌, Bool, cond, ◌&&◌, ◌||◌, ℕ, ◌+◌, ◌^◌, ◌<◌, ℤ, pos}
use Rattle.std.proofs.Math.Path.{refl}
use Rattle.std.proofs.Common.{sym, ap, ◌∙◌, eq-eqb, ne_eqb}
use Rattle.std.proofs.Math.Bool.{true, false, and-false}
use mathlib.Core.List.{List, [], ◌∷◌}
use Rattle.std.proofs.Math.Option.{Option, none, some}
use Rattle.std.proofs.Math.Dec.{eqb}
use Rattle.format.specs.Answer.{Answer, ok, refuse, ◌>>=◌, ◌>>◌, need_at, or_refuse}
use Rattle.format.specs.Table.{Wire, boolean, array, fields, Node, plain, nullable, top_of, Fields, Held, wire_of}
use Rattle.format.specs.Row.{Says, bare, placed, Place, Text, says_of, absent_row, null_row, record_row, array_row}
use Rattle.format.specs.Read.{field_count, absent_label, null_label}
use Rattle.format.specs.Write.{Event, Rest, next, nothing, mark, unlabelled, is_bare, word_in, truth_in, Fit, mark_or, fit_entries, fit_field, fit_wire, fit_node, fit_all}
use Rattle.laws.specs.Facts.{absurd-some, absurd-bool, some_same, bind-then}
use Rattle.wire_types.specs.Typed.{is_nullable}
use Rattle.write_row.specs.Rest.{rest_of, next_of, next-look}
use Rattle.write_row.specs.Judged.{value_in, truth_of, gone, front_of}
use Rattle.write_row.specs.Laws.{joined}
use Rattle.write_row.specs.Fits.{looked, judge-is, judge-not, truth-judged, word-found, word-missing}

need-then : {A B : Type 0} (b : Bool) (n j : ℕ) (a : A) (h : A → Answer B) → (need_at b n j >> h a) ≡ ((need_at b n j >> ok a) >>= h)
unfolding need_at ◌>>◌ ◌>>=◌
need-then true n j a h = refl
need-then false n j a h = refl

-- A value in front of which nothing stands, or a label: then its row may be the absent or the null one.
module _ (held : ℕ → Held) where
  abbrev pub fit_value : Bool → Node → Fit
  fit_value omittable v r = fit_field omittable (top_of v) (λ labelled t. fit_node held v labelled t) r

  pub value-plain : (v : Node) (r : Rest) → is_nullable v ≡ false → fit_value false v r ≡ fit_wire held (wire_of v) (top_of v) false r
  unfolding fit_field fit_node is_nullable wire_of top_of
  value-plain (plain i w) r e = refl
  value-plain (nullable i w) r e = absurd-bool (sym e)

  unfoldable gone_or : Option ℤ → Rest → Answer (List Event × Rest) → Answer (List Event × Rest)
  gone_or none after m = m
  gone_or (some l) after m = ok (mark l ∷ [], after)

  mark-or : (b : Bool) (l : ℤ) (o : Option ℤ) (after : Rest) (f : Fit) (r : Rest) (m : Answer (List Event × Rest)) → f r ≡ gone_or o after m → mark_or b l after f r ≡ gone_or (cond b (some l) o) after m
  unfolding gone_or mark_or
  mark-or true l o after f r m h = refl
  mark-or false l o after f r m h = h

  module _ (r : Rest) (c : Says Text) (after : Rest) where
    null-gone : (i : ℕ) (w : Wire) (labelled : Bool) → next i r ≡ ok (c, after) → fit_node held (nullable i w) labelled r ≡ gone_or (cond (is_bare null_row 0 c) (some null_label) none) after (fit_wire held w i true r)
    unfolding fit_node gone_or ◌>>=◌
    null-gone i w labelled e = rw e (mark-or (is_bare null_row 0 c) null_label none after (λ t. fit_wire held w i true t) r (fit_wire held w i true r) refl)

    value_gone : (omittable : Bool) (v : Node) → next (top_of v) r ≡ ok (c, after) → (omittable || is_nullable v) ≡ true → fit_value omittable v r ≡ gone_or (gone omittable (is_nullable v) c) after (fit_wire held (wire_of v) (top_of v) true r)
    unfolding fit_field fit_node is_nullable wire_of top_of gone gone_or ◌>>=◌
    value_gone true (plain i w) e h = rw e (mark-or (is_bare absent_row 0 c) absent_label none after (λ t. fit_node held (plain i w) true t) r (fit_wire held w i true r) refl)
    value_gone true (nullable i w) e h = rw e (mark-or (is_bare absent_row 0 c) absent_label (cond (is_bare null_row 0 c) (some null_label) none) after (λ t. fit_node held (nullable i w) true t) r (fit_wire held w i true r) (null-gone i w true e))
    value_gone false (nullable i w) e h = null-gone i w false e
    value_gone false (plain i w) e h = absurd-bool h

  value_none : (n j : ℕ) (r : Rest) (omittable : Bool) (v : Node) → next (top_of v) r ≡ refuse n j → (omittable || is_nullable v) ≡ true → fit_value omittable v r ≡ refuse n j
  unfolding fit_field fit_node is_nullable top_of ◌>>=◌
  value_none n j r true v e h = rw e
  value_none n j r false (nullable i w) e h = rw e
  value_none n j r false (plain i w) e h = absurd-bool h

  module _ (pool rows : List ℕ) (i : ℕ) (omittable : Bool) (v : Node) (h : (omittable || is_nullable v) ≡ true) where
    abbrev r₀ : Rest
    r₀ = rest_of pool rows i

    front-cell : (x : Says Place) → front_of omittable (is_nullable v) (ok x) ≡ some (gone omittable (is_nullable v) (says_of pool x))
    unfolding front_of gone is_bare says_of
    front-cell (bare k a) = refl
    front-cell (placed k p) = simp and-false

    pub front-not : front_of omittable (is_nullable v) (looked pool rows (top_of v) i) ≡ none → fit_value omittable v r₀ ≡ refuse 42 i
    unfolding next_of front_of
    front-not e = go (looked pool rows (top_of v) i) (next-look pool rows (top_of v) i) e
      where
        go : (l : Answer (Says Place)) → next (top_of v) r₀ ≡ next_of pool rows i l → front_of omittable (is_nullable v) l ≡ none → fit_value omittable v r₀ ≡ refuse 42 i
        go (ok x) q e = absurd-some (sym e ∙ front-cell x)
        go (refuse n j) q e = value_none 42 i r₀ omittable v q h

    front_by : (o : Option ℤ) → front_of omittable (is_nullable v) (looked pool rows (top_of v) i) ≡ some o → fit_value omittable v r₀ ≡ gone_or o (rest_of pool rows (i + 1)) (fit_wire held (wire_of v) (top_of v) true r₀)
    unfolding next_of front_of
    front_by o e = go (looked pool rows (top_of v) i) (next-look pool rows (top_of v) i) e
      where
        go : (l : Answer (Says Place)) → next (top_of v) r₀ ≡ next_of pool rows i l → front_of omittable (is_nullable v) l ≡ some o → fit_value omittable v r₀ ≡ gone_or o (rest_of pool rows (i + 1)) (fit_wire held (wire_of v) (top_of v) true r₀)
        go (ok x) q e = rw (← some_same (sym (front-cell x) ∙ e)) (value_gone r₀ (says_of pool x) (rest_of pool rows (i + 1)) omittable v q h)
        go (refuse n j) q e = absurd-some e

    pub front-gone : {l : ℤ} → front_of omittable (is_nullable v) (looked pool rows (top_of v) i) ≡ some (some l) → fit_value omittable v r₀ ≡ ok (mark l ∷ [], rest_of pool rows (i + 1))
    unfolding gone_or
    front-gone {l} e = front_by (some l) e

    pub front-here : front_of omittable (is_nullable v) (looked pool rows (top_of v) i) ≡ some none → fit_value omittable v r₀ ≡ fit_wire held (wire_of v) (top_of v) true r₀
    unfolding gone_or
    front-here e = front_by none e

-- A truth's row, and a record's own.
unfoldable pub fit_truth : ℕ → Fit
fit_truth node r = next node r >>= (λ x. or_refuse (truth_in x.0) 42 r.at >>= (λ l. ok (mark l ∷ [], x.1)))

pub boolean-truth : (held : ℕ → Held) (node : ℕ) (labelled : Bool) (r : Rest) → fit_wire held boolean node labelled r ≡ fit_truth node r
unfolding fit_wire fit_truth
boolean-truth held node labelled r = refl

unfoldable pub fit_record : ℕ → ℕ → Bool → Fit
fit_record count node labelled r = next node r >>= (λ x. need_at (is_bare record_row count x.0) 42 r.at >> ok (unlabelled labelled nothing ∷ [], x.1))

module _ (held : ℕ → Held) (node : ℕ) (labelled : Bool) (r : Rest) where
  -- the fields follow it
  pub record-first : (fs : Fields) → fit_wire held (fields fs) node labelled r ≡ (fit_record (field_count fs) node labelled r >>= (λ x. fit_all held fs x.1 >>= (λ y. ok (joined x y))))
  unfolding fit_wire fit_record
  record-first fs = bind-then (next node r) _ _ _ (λ x. need-then (is_bare record_row (field_count fs) x.0) 42 r.at (unlabelled labelled nothing ∷ [], x.1) _)

module _ (pool rows : List ℕ) (node i : ℕ) where
  module _ (count : ℕ) (labelled : Bool) where
    -- it is there, with so many fields
    abbrev counted : Option ℕ → Answer (List Event × Rest)
    counted o = or_refuse o 42 i >>= (λ n. need_at (eqb n count) 42 i >> ok (unlabelled labelled nothing ∷ [], rest_of pool rows (i + 1)))

    record-by : (l : Answer (Says Place)) → next node (rest_of pool rows i) ≡ next_of pool rows i l → fit_record count node labelled (rest_of pool rows i) ≡ counted (value_in record_row l)
    unfolding fit_record next_of value_in is_bare says_of or_refuse need_at ◌>>=◌ ◌>>◌
    record-by (ok (bare k a)) q = rw q (go (eqb k record_row))
      where
        go : (b : Bool) → (need_at (b && eqb a count) 42 i >> ok (unlabelled labelled nothing ∷ [], rest_of pool rows (i + 1))) ≡ counted (cond b (some a) none)
        go true = refl
        go false = refl
    record-by (ok (placed k p)) q = rw q
    record-by (refuse n j) q = rw q

    record-is-by : (o : Option ℕ) → value_in record_row (looked pool rows node i) ≡ o → fit_record count node labelled (rest_of pool rows i) ≡ counted o
    record-is-by o e = record-by (looked pool rows node i) (next-look pool rows node i) ∙ ap counted e

    pub record-not : value_in record_row (looked pool rows node i) ≡ none → fit_record count node labelled (rest_of pool rows i) ≡ refuse 42 i
    unfolding or_refuse ◌>>=◌
    record-not e = record-is-by none e

    pub record-other : {n : ℕ} → value_in record_row (looked pool rows node i) ≡ some n → (n ≡ count → ⊥) → fit_record count node labelled (rest_of pool rows i) ≡ refuse 42 i
    unfolding or_refuse need_at ◌>>=◌ ◌>>◌
    record-other {n} e h = record-is-by (some n) e ∙ rw (ne_eqb n count h)

    pub record_is : {n : ℕ} → value_in record_row (looked pool rows node i) ≡ some n → n ≡ count → fit_record count node labelled (rest_of pool rows i) ≡ ok (unlabelled labelled nothing ∷ [], rest_of pool rows (i + 1))
    unfolding or_refuse need_at ◌>>=◌ ◌>>◌
    record_is {n} e h = record-is-by (some n) e ∙ rw (eq-eqb n count h)

  -- A truth.
  pub truth-not : truth_of (looked pool rows node i) ≡ none → fit_truth node (rest_of pool rows i) ≡ refuse 42 i
  unfolding fit_truth
  truth-not e = judge-not pool rows node i truth_in (λ l r. ok (mark l ∷ [], r)) (truth-judged pool rows node i (looked pool rows node i) ∙ e)

  pub truth-is : {l : ℤ} → truth_of (looked pool rows node i) ≡ some l → fit_truth node (rest_of pool rows i) ≡ ok (mark l ∷ [], rest_of pool rows (i + 1))
  unfolding fit_truth
  truth-is e = judge-is pool rows node i truth_in (λ l r. ok (mark l ∷ [], r)) (truth-judged pool rows node i (looked pool rows node i) ∙ e)

  module _ (held : ℕ → Held) (labelled : Bool) where
    -- An array's own row, which the entries follow.
    module _ (w : Node) where
      abbrev entries_of : ℕ → Rest → Answer (List Event × Rest)
      entries_of n r = fit_entries n (λ t. fit_node held w false t) r >>= (λ y. ok (mark (pos n) ∷ y.0, y.1))

      pub array-not : value_in array_row (looked pool rows node i) ≡ none → fit_wire held (array w) node labelled (rest_of pool rows i) ≡ refuse 42 i
      unfolding fit_wire
      array-not e = judge-not pool rows node i (word_in array_row) entries_of (word-missing pool rows node i array_row e)

      pub array-is : {n : ℕ} → value_in array_row (looked pool rows node i) ≡ some n → n < 2 ^ 64
          → fit_wire held (array w) node labelled (rest_of pool rows i) ≡ (ok (mark (pos n) ∷ [], rest_of pool rows (i + 1)) >>= (λ x. fit_entries n (λ t. fit_node held w false t) x.1 >>= (λ y. ok (joined x y))))
      unfolding fit_wire ◌>>=◌
      array-is e h = judge-is pool rows node i (word_in array_row) entries_of (word-found pool rows node i array_row e h)
