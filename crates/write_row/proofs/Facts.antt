-- One row, at each return of a function: it is refused, or what it writes has been emitted. Assumes nothing.
use mathlib.Core.Path.{◌≡◌, refl, sym, ap, subst, ◌∙◌}
use mathlib.Core.Bool.{Bool, true, false, not, ◌&&◌, ◌||◌, or_assoc}
use mathlib.Core.List.{List, [], ◌∷◌, ◌++◌, append-nil}
use mathlib.Core.Option.{none, some}
use Prim.Native.Nat.{ℕ, zero, suc, ◌+◌, ◌-◌, ◌^◌, ◌<◌, ◌≤◌}
use native.Mathlib.Omega.{arith}
use lib.IntN.{ℤ, pos}
use native.Mathlib.Nat.{zero-add, suc-add}
use lib.ListN.{length, take, drop, length-take, length-drop}
use lib.Seq.{slice, take-nil}
use Rattle.format.specs.Answer.{Answer, ok, ◌>>=◌}
use Rattle.format.specs.Label.{label, integer}
use Rattle.format.specs.Modes.{inline_everything}
use Rattle.format.specs.Read.{ending}
use Rattle.format.specs.Utf8.{is_text}
use Rattle.format.specs.Table.{varint, float64, fixed}
use Rattle.format.specs.Row.{Place, Text, is_place, bytes_at, row_count, integer_row, float_row, fixed_row, record_row}
use Rattle.format.specs.Write.{Event, Rest, nothing, text, value, mark, unlabelled, little_endian_bytes, fit_leaf}
use Rattle.laws.specs.Lists.{little-length}
use Rattle.laws.specs.Facts.{or-false, by_bool}
use Rattle.label.specs.Laws.{label-most}
use Rattle.write_passes.specs.Plan.{emit_front, emit_body, emit_event, emit_events}
use Rattle.write_passes.specs.Moves.{body_size}
use Rattle.store.specs.Same.{same_self}
use Rattle.format.specs.declared.refusal.Refusal.{Refusal}
use Rattle.format.specs.declared.refusal.Refusal.TheVariants as refusal
use Rattle.format.specs.Refusal.{refused}
use Rattle.std.specs.Prelude.{Result, Err, IsErrAnd, Option as Optional, Some, None, IfSome, Ok}
use Rattle.std.specs.Option.{ok_or}
use Rattle.std.specs.Result.{result_ok}
use Rattle.format.specs.declared.place.Place as held
use Rattle.std.proofs.lemmas.Result.{err_from_is_err_and}
use Rattle.write_bytes.specs.State.{plan_of, Within, EmitsEvent, Puts}
use Rattle.write_bytes.specs.Text.{EmitsText}
use Rattle.write_bytes.specs.Does.{mark-emits}
use Rattle.table.specs.declared.nodes.Leaf as code
use Rattle.write_row.specs.declared.Progress.{Progress}
use Rattle.write_bytes.specs.declared.Pass.{Pass}
use Rattle.write_row.specs.declared.Opening.{Opening}
use Rattle.write_row.specs.Rest.{rest_of}
use Rattle.write_search.specs.Parts.{part_length}
use Rattle.rows.specs.Placed.{place_in, IsInside}
use Rattle.write_row.specs.Judged.{value_in, truth_of, front_of}
use Rattle.write_row.specs.Fits.{text_row, text_leaf, looked, found-there, value_there, text-not, text-stray, text-is, varint-not, varint-is, float-not, float_is, fixed-not, fixed-other, fixed-is}
use Rattle.write_row.specs.Opens.{fit_truth, truth-not, truth-is, fit_record, record-not, record-other, record_is, value-plain, front-not, front-gone, front-here}
use Rattle.write_row.specs.Writes.{done, Holds}
use Rattle.write_row.specs.Laws.{along, refuses, puts-any}
use Rattle.write_row.specs.Row.{row_progress, row-writes, Marks, WritesRow, OpensGone, OpensHere, Opens, WritesValue, WritesText, leaf_of, is_judged}

-- what a `?` returns is the refusal that it met
pub met : {A : Type 0} {r : Result A Refusal} {n : Refusal} → IsErrAnd r (λ m. m ≡ n) → r ≡ Err n
met {r = r} {n} h = let (m, q, e) = err_from_is_err_and r h in q ∙ ap Err e

-- what is not there is refused in these words
pub missing : {A : Type 0} {o : Optional A} {r : Result A Refusal} {n m : Refusal} → r ≡ ok_or o n → r ≡ Err m → (o ≡ None) × (m ≡ n)
missing {o = None} q e = (refl, let z = sym q ∙ e in cc)
missing {o = Some a} q e = absurd (let z = sym q ∙ e in cc)

pub found : {A : Type 0} {o : Optional A} {r : Result A Refusal} {a : A} → o ≡ result_ok r → r ≡ Ok a → o ≡ Some a
found q e = q ∙ ap result_ok e

-- a place that was found is inside the pool
pub placed : {count : ℕ} {o : Optional held.Place} {p : held.Place} → o ≡ Some p → IfSome o (IsInside count) → p.start + p.size ≤ count
placed {count} q h = subst (λ o. IfSome o (IsInside count)) q h

-- both kinds of text have a place
pub text-place : (judged : Bool) {kind : ℕ} → kind ≡ text_row judged → is_place kind ≡ true
unfolding is_place
text-place true e = rw e
text-place false e = rw e

-- what a call answered, in the terms of its definition
pub told : {A B : Type 0} (f : A → B) {r c : A} {x : B} → f r ≡ x → r ≡ c → x ≡ f c
told f e q = sym e ∙ ap f q

pub marks-by : {put : Bool} {out out' : List ℕ} {i core : ℕ} {l l₁ : ℤ} {s : Result ℕ Refusal} {r : Result Progress Refusal} → l₁ ≡ l → Puts put core (label l₁) out out' s → r ≡ row_progress i s → Marks put out out' i core r l
unfolding body_size
marks-by {put} {l = l} {l₁} z d q = record {
  writes = λ pool rows t. record {
    writes = λ modes held w h. rw (← z) (row-writes h t (omega arith) (((mark-emits put (inline_everything modes) w d).emits modes held refl).does pool h.ready) q);
  };
}

module _ {put : Bool} {pool rows out out' : List ℕ} {i core : ℕ} {a : Answer (List Event × Rest)} where
  pub row-refuses : {n : Refusal} → a ≡ refused n → WritesRow put pool rows out out' i core (Err n) a
  row-refuses {n} e = record { writes = λ modes held w h. along e (refuses n) }

  pub row-marks : {l : ℤ} {r : Result Progress Refusal} → Marks put out out' i core r l → i < row_count rows → a ≡ ok (mark l ∷ [], rest_of pool rows (i + 1)) → WritesRow put pool rows out out' i core r a
  row-marks m t e = record { writes = λ modes held w h. along e ((m.writes pool rows t).writes modes held w h) }

  -- a record's row that wants no label writes nothing
  pub row-nothing : out' ≡ out → i < row_count rows → a ≡ ok (unlabelled false nothing ∷ [], rest_of pool rows (i + 1)) → WritesRow put pool rows out out' i core (done (i + 1) core) a
  unfolding unlabelled emit_events emit_event emit_front emit_body ◌>>=◌
  row-nothing z t e = record {
    writes = λ modes held w h. along e (rw z (record {
      left = (record { ready = h.ready; within = record { first = omega (arith, h.within.first); others = omega (arith, h.within.others) }; inside = omega arith; few = h.few }, same_self w);
      acts = (refl, refl, refl);
    }));
  }

-- a value and a text of a key
body-size : (labelled : Bool) (k : ℕ) (bs : List ℕ) → length bs ≤ 65536 → body_size (unlabelled labelled (value k bs)).body ≤ 65537
unfolding unlabelled body_size
body-size true k bs h = omega arith
body-size false k bs h = omega arith

text-size : (k : ℕ) (v : Text) → length v ≤ 65536 → body_size (text k v) ≤ 65537
unfolding body_size
text-size k v h = omega arith

pub part-short : (pool : List ℕ) (p : Place) → p.start + p.size ≤ length pool → length pool ≤ 65536 → length (bytes_at pool p) ≤ 65536
part-short pool p h l = simp (length-take, length-drop) (omega arith)

module _ {how : Pass} {pool rows out w out' w' : List ℕ} {core : ℕ} {a : Answer (List Event × Rest)} where
  pub value-refuses : {n : Refusal} → a ≡ refused n → WritesValue how pool rows out w core out' w' (Err n) a
  value-refuses {n} e = record { writes = λ modes held z. along e (refuses n) }

  value-writes : {i : ℕ} {e : Event} {s : Result ℕ Refusal} {r : Result Progress Refusal} → Holds pool rows w i core → i < row_count rows → body_size e.body ≤ 65537
      → EmitsEvent how.put how.inline w w' out out' core s e → r ≡ row_progress i s → a ≡ ok (e ∷ [], rest_of pool rows (i + 1)) → WritesValue how pool rows out w core out' w' r a
  value-writes h t b d q e = record { writes = λ modes held z. along e (row-writes h t b ((d.emits modes held z).does pool h.ready) q) }

  text-refuses : {numbered ended : Bool} {k : ℕ} {n : Refusal} → a ≡ refused n → WritesText how numbered ended k pool rows out w core out' w' (Err n) a
  text-refuses {n = n} e = record { writes = λ modes held z y x. along e (refuses n) }

  -- a value that is no text is written so whether its key's texts are numbered or not, and ended or not
  pub as-text : {numbered ended : Bool} {k : ℕ} {r : Result Progress Refusal} → WritesValue how pool rows out w core out' w' r a → WritesText how numbered ended k pool rows out w core out' w' r a
  as-text d = record { writes = λ modes held z y x. d.writes modes held z }

-- a part of the pool, as a slice of it with no 00 behind
pub part-slice : (pool : List ℕ) (p : Place) → take (p.start + p.size - p.start) (drop p.start pool) ++ ending false ≡ bytes_at pool p
unfolding ending
part-slice pool p = append-nil _ ∙ ap (λ n. take n (drop p.start pool)) (omega arith)

-- ---- what a BLOCK holds

-- nothing has gone so far that a sum overflows
pub near : {pool rows w : List ℕ} {i core : ℕ} → Holds pool rows w i core → Within (2 ^ 30) core w
near h = record { first = omega (arith, h.within.first, h.inside, h.few); others = omega (arith, h.within.others, h.inside, h.few) }

pub few-rows : {pool rows w : List ℕ} {i core : ℕ} → Holds pool rows w i core → i ≤ 8192
few-rows h = omega (arith, h.inside, h.few)

drop-take : (n m : ℕ) (l : List ℕ) → drop n (take (n + m) l) ≡ take m (drop n l)
drop-take zero m l = rw zero-add
drop-take (suc n) m [] = simp take-nil
drop-take (suc n) m (x ∷ xs) = rw suc-add (drop-take n m xs)

-- the text test's bytes are the part's
pub part-text : (spared : Bool) (pool : List ℕ) (start size : ℕ) {b : Bool} → b ≡ (spared || is_text (slice start (start + size) pool)) → (spared || is_text (bytes_at pool (record { start = start; size = size }))) ≡ b
part-text spared pool start size e = sym (e ∙ ap (λ x. spared || is_text x) (drop-take start size pool))

place-there : (pool rows : List ℕ) (node i kind : ℕ) {p : Place} → place_in kind (looked pool rows node i) ≡ some p → i < row_count rows
unfolding place_in
place-there pool rows node i kind e = found-there pool rows node i (place_in kind) (λ n j. refl) e

or-of : (a : Bool) {b : Bool} → b ≡ false → (a || b) ≡ true → a ≡ true
or-of true y z = refl
or-of false y z = sym y ∙ z

-- what a text has emitted
abbrev Texts : Pass → Bool → Bool → ℕ → List ℕ → List ℕ → List ℕ → List ℕ → List ℕ → ℕ → Result ℕ Refusal → Place → Type 0
Texts how numbered ended k pool out w out' w' core s p =
    EmitsText how.inline numbered ended k pool w w' out' s (λ modes held. emit_event how.put modes held (record { front = none; body = text k (bytes_at pool p) }) (plan_of pool out w core))

module _ {how : Pass} {pool rows out w out' w' : List ℕ} {i core : ℕ} (h : Holds pool rows w i core) (k node : ℕ) where
  module _ (labelled : Bool) where
    pub varint-none : value_in integer_row (looked pool rows node i) ≡ none → WritesValue how pool rows out w core out' w' (Err (refusal.Unfit i)) (fit_leaf k varint node labelled (rest_of pool rows i))
    varint-none e = value-refuses (varint-not pool rows node i k labelled e)

    pub varint-some : {n : ℕ} {s : Result ℕ Refusal} {r : Result Progress Refusal} → value_in integer_row (looked pool rows node i) ≡ some n → n < 2 ^ 64
        → EmitsEvent how.put how.inline w w' out out' core s (unlabelled labelled (value k (label (integer n)))) → r ≡ row_progress i s
        → WritesValue how pool rows out w core out' w' r (fit_leaf k varint node labelled (rest_of pool rows i))
    varint-some {n} e b d q =
        let l = label-most (integer n) in
        value-writes h (value_there pool rows node i integer_row e) (body-size labelled k (label (integer n)) (omega arith)) d q (varint-is pool rows node i k labelled e b)

    pub float-none : value_in float_row (looked pool rows node i) ≡ none → WritesValue how pool rows out w core out' w' (Err (refusal.Unfit i)) (fit_leaf k float64 node labelled (rest_of pool rows i))
    float-none e = value-refuses (float-not pool rows node i k labelled e)

    pub float-some : {n : ℕ} {s : Result ℕ Refusal} {r : Result Progress Refusal} → value_in float_row (looked pool rows node i) ≡ some n → n < 2 ^ 64
        → EmitsEvent how.put how.inline w w' out out' core s (unlabelled labelled (value k (little_endian_bytes 8 n))) → r ≡ row_progress i s
        → WritesValue how pool rows out w core out' w' r (fit_leaf k float64 node labelled (rest_of pool rows i))
    float-some {n} e b d q =
        let l = little-length 8 n in
        value-writes h (value_there pool rows node i float_row e) (body-size labelled k (little_endian_bytes 8 n) (omega arith)) d q (float_is pool rows node i k labelled e b)

    module _ (n : ℕ) where
      pub fixed-none : place_in fixed_row (looked pool rows node i) ≡ none → WritesValue how pool rows out w core out' w' (Err (refusal.Unfit i)) (fit_leaf k (fixed n) node labelled (rest_of pool rows i))
      fixed-none e = value-refuses (fixed-not pool rows node i k labelled n e)

      module _ {p : Place} (e : place_in fixed_row (looked pool rows node i) ≡ some p) (l : p.start + p.size ≤ length pool) where
        pub fixed-long : (p.size ≡ n → ⊥) → WritesValue how pool rows out w core out' w' (Err (refusal.Unfit i)) (fit_leaf k (fixed n) node labelled (rest_of pool rows i))
        fixed-long z = value-refuses (fixed-other pool rows node i k labelled n e (λ q. z (sym (part_length pool p l) ∙ q)))

        pub fixed-some : {s : Result ℕ Refusal} {r : Result Progress Refusal} → p.size ≡ n → EmitsEvent how.put how.inline w w' out out' core s (unlabelled labelled (value k (bytes_at pool p))) → r ≡ row_progress i s
            → WritesValue how pool rows out w core out' w' r (fit_leaf k (fixed n) node labelled (rest_of pool rows i))
        fixed-some z d q = value-writes h (place-there pool rows node i fixed_row e) (body-size labelled k (bytes_at pool p) (part-short pool p l h.ready.small)) d q (fixed-is pool rows node i k labelled n e (part_length pool p l ∙ z))

  -- a text
  module _ {numbered ended : Bool} where
    text-writes : (p : Place) {a : Answer (List Event × Rest)} {s : Result ℕ Refusal} {r : Result Progress Refusal} → i < row_count rows → p.start + p.size ≤ length pool → Texts how numbered ended k pool out w out' w' core s p → r ≡ row_progress i s
        → a ≡ ok (record { front = none; body = text k (bytes_at pool p) } ∷ [], rest_of pool rows (i + 1)) → WritesText how numbered ended k pool rows out w core out' w' r a
    text-writes p t l d q e = record { writes = λ modes held z y x. along e (row-writes h t (text-size k (bytes_at pool p) (part-short pool p l h.ready.small)) (d.does modes held z y x) q) }

    module _ (judged : Bool) where
      pub text-none : place_in (text_row judged) (looked pool rows node i) ≡ none → WritesText how numbered ended k pool rows out w core out' w' (Err (refusal.Unfit i)) (fit_leaf k (text_leaf judged) node false (rest_of pool rows i))
      text-none e = text-refuses (text-not pool rows node i k false judged e)

      module _ (p : Place) (l : p.start + p.size ≤ length pool) (e : place_in (text_row judged) (looked pool rows node i) ≡ some p) where
        pub text-28 : (how.put || not judged || is_text (bytes_at pool p)) ≡ false → WritesText how numbered ended k pool rows out w core out' w' (Err (refusal.Text i)) (fit_leaf k (text_leaf judged) node false (rest_of pool rows i))
        text-28 z = text-refuses (text-stray pool rows node i k false judged e (or-false how.put _ (sym (or_assoc how.put (not judged) _) ∙ z)).1)

        module _ {s : Result ℕ Refusal} {r : Result Progress Refusal} (d : Texts how numbered ended k pool out w out' w' core s p) (q : r ≡ row_progress i s) where
          text-good : (not judged || is_text (bytes_at pool p)) ≡ true → WritesText how numbered ended k pool rows out w core out' w' r (fit_leaf k (text_leaf judged) node false (rest_of pool rows i))
          text-good z = text-writes p (place-there pool rows node i (text_row judged) e) l d q (text-is pool rows node i k false judged e z)

          -- where it is no text nothing is said of what is put
          text-put : how.put ≡ true → (not judged || is_text (bytes_at pool p)) ≡ false → WritesText how numbered ended k pool rows out w core out' w' r (fit_leaf k (text_leaf judged) node false (rest_of pool rows i))
          text-put y z = record { writes = λ modes held a b x. along (text-stray pool rows node i k false judged e z) (puts-any 28 i y ((text-writes p (place-there pool rows node i (text_row judged) e) l d q refl).writes modes held a b x)) }

          pub text-some : (how.put || not judged || is_text (bytes_at pool p)) ≡ true → WritesText how numbered ended k pool rows out w core out' w' r (fit_leaf k (text_leaf judged) node false (rest_of pool rows i))
          text-some z = by_bool (not judged || is_text (bytes_at pool p)) text-good (λ y. text-put (or-of how.put y (sym (or_assoc how.put (not judged) _) ∙ z)) y)

-- ---- a truth, a record, and what stands in front of a value

module _ {put : Bool} {pool rows out out' : List ℕ} {i core : ℕ} (node : ℕ) where
  pub truth-none : truth_of (looked pool rows node i) ≡ none → WritesRow put pool rows out out' i core (Err (refusal.Unfit i)) (fit_truth node (rest_of pool rows i))
  truth-none e = row-refuses (truth-not pool rows node i e)

  pub truth-some : {l : ℤ} {r : Result Progress Refusal} → truth_of (looked pool rows node i) ≡ some l → Marks put out out' i core r l → WritesRow put pool rows out out' i core r (fit_truth node (rest_of pool rows i))
  unfolding truth_of
  truth-some e m = row-marks m (found-there pool rows node i truth_of (λ n j. refl) e) (truth-is pool rows node i e)

  module _ (labelled : Bool) (count : ℕ) where
    pub record-none : value_in record_row (looked pool rows node i) ≡ none → WritesRow put pool rows out out' i core (Err (refusal.Unfit i)) (fit_record count node labelled (rest_of pool rows i))
    record-none e = row-refuses (record-not pool rows node i count labelled e)

    module _ {n : ℕ} (e : value_in record_row (looked pool rows node i) ≡ some n) where
      pub record-wrong : (n ≡ count → ⊥) → WritesRow put pool rows out out' i core (Err (refusal.Unfit i)) (fit_record count node labelled (rest_of pool rows i))
      record-wrong z = row-refuses (record-other pool rows node i count labelled e z)

      pub record-plain : n ≡ count → labelled ≡ false → out' ≡ out → WritesRow put pool rows out out' i core (done (i + 1) core) (fit_record count node labelled (rest_of pool rows i))
      record-plain z f o = row-nothing o (value_there pool rows node i record_row e) (record_is pool rows node i count labelled e z ∙ rw f)

      pub record-front : {r : Result Progress Refusal} → n ≡ count → labelled ≡ true → Marks put out out' i core r (pos 0) → WritesRow put pool rows out out' i core r (fit_record count node labelled (rest_of pool rows i))
      unfolding unlabelled
      record-front z f m = row-marks m (value_there pool rows node i record_row e) (record_is pool rows node i count labelled e z ∙ rw f)

  module _ (omittable nullable : Bool) where
    pub open_plain : (omittable || nullable) ≡ false → out' ≡ out → OpensHere put omittable nullable pool rows out out' node i core false
    open_plain z o = record { still = o; goes = λ held v n t. let (a, b) = or-false omittable nullable z in rw (a, ← t) (value-plain held v (rest_of pool rows i) (n ∙ b)) }

    pub opens-not : {s : Result Opening Refusal} {n : Refusal} → s ≡ Err n → OpensGone put omittable nullable pool rows out out' node i core (Err n) → Opens put omittable nullable pool rows out out' node i core s
    opens-not q d = rw q d

    module _ (z : (omittable || nullable) ≡ true) where
      pub open-refused : front_of omittable nullable (looked pool rows node i) ≡ none → OpensGone put omittable nullable pool rows out out' node i core (Err (refusal.Unfit i))
      open-refused e = record { writes = λ held v n t. row-refuses (front-not held pool rows i omittable v (rw n z) (rw (n, t) e)) }

      pub open_gone : {l : ℤ} {r : Result Progress Refusal} → front_of omittable nullable (looked pool rows node i) ≡ some (some l) → Marks put out out' i core r l → OpensGone put omittable nullable pool rows out out' node i core r
      unfolding front_of
      open_gone e m = record { writes = λ held v n t. row-marks m (found-there pool rows node i (front_of omittable nullable) (λ x j. refl) e) (front-gone held pool rows i omittable v (rw n z) (rw (n, t) e)) }

      pub open-here : front_of omittable nullable (looked pool rows node i) ≡ some none → out' ≡ out → OpensHere put omittable nullable pool rows out out' node i core true
      open-here e o = record { still = o; goes = λ held v n t. rw (← t) (front-here held pool rows i omittable v (rw n z) (rw (n, t) e)) }

-- ---- by what the key holds

module _ {how : Pass} {pool rows out w out' w' : List ℕ} {core k : ℕ} {r : Result Progress Refusal} {numbered : Bool} (node i : ℕ) (labelled : Bool) where
  -- one of the two that hold texts
  pub held-text : {b : Bool} (l : code.Leaf) → (l ≡ code.TheVariants.Varint → ⊥) → (l ≡ code.TheVariants.Float64 → ⊥) → ((n : ℕ) → l ≡ code.TheVariants.Fixed n → ⊥) → b ≡ is_judged l → WritesText how numbered (b && how.ends) k pool rows out w core out' w' r (fit_leaf k (text_leaf b) node false (rest_of pool rows i))
      → WritesText how numbered (is_judged l && how.ends) k pool rows out w core out' w' r (fit_leaf k (leaf_of l) node labelled (rest_of pool rows i))
  unfolding leaf_of fit_leaf
  held-text code.TheVariants.String v f x q d = rw q at d
  held-text code.TheVariants.Varint v f x q d = absurd (v refl)
  held-text code.TheVariants.Float64 v f x q d = absurd (f refl)
  held-text code.TheVariants.Bytes v f x q d = rw q at d
  held-text (code.TheVariants.Fixed n) v f x q d = absurd (x n refl)

  pub held-value : {ended : Bool} {l l₁ : code.Leaf} → l ≡ l₁ → WritesValue how pool rows out w core out' w' r (fit_leaf k (leaf_of l₁) node labelled (rest_of pool rows i))
      → WritesText how numbered ended k pool rows out w core out' w' r (fit_leaf k (leaf_of l) node labelled (rest_of pool rows i))
  held-value q d = rw q (as-text d)
