-- What a row that was looked at writes, or how it is refused.
use Rattle.std.specs.Prelude.{◌≡◌, Bool, not, ◌&&◌, ◌||◌, ℕ, ◌+◌, ◌^◌, ◌<◌, eqb, length}
use Rattle.std.proofs.Math.Path.{refl, ap}
use Rattle.std.proofs.Common.{sym, ◌∙◌}
use Rattle.std.proofs.Math.Bool.{true, false, cond}
use mathlib.Core.List.{List, [], ◌∷◌}
use Rattle.std.proofs.Math.Option.{Option, none, some, map}
use Rattle.std.proofs.Math.Dec.{ltb}
use borrow.Author.Tests.{ltb-true, lt-ltb, eq-eqb, ne_eqb}
use Rattle.format.specs.Answer.{Answer, ok, refuse, ◌>>=◌, ◌>>◌, need_at, or_refuse}
use Rattle.format.specs.Label.{label, integer}
use Rattle.format.specs.Utf8.{is_text}
use Rattle.format.specs.Table.{Leaf, string, varint, float64, bytes, fixed}
use Rattle.format.specs.Row.{Says, bare, placed, Place, Text, bytes_at, row_count, row_node, found, says_of, integer_row, float_row, string_row, bytes_row, fixed_row}
use Rattle.format.specs.Write.{Event, Rest, next, text, value, unlabelled, is_bare, word_in, text_in, truth_in, little_endian_bytes, fit_leaf}
use Rattle.laws.specs.Facts.{absurd-some, some_same, need-ok, bind_ok}
use Rattle.write_row.specs.Rest.{rest_of, next_of, next-look}
use Rattle.rows.specs.Placed.{place_in}
use Rattle.rows.specs.Seen.{found_under}
use Rattle.write_row.specs.Judged.{value_in, truth_of}

-- A text that is judged is a STRING, another is BYTES: its row's kind, and what its key holds.
abbrev pub text_row : Bool → ℕ
text_row true = string_row
text_row false = bytes_row

abbrev pub text_leaf : Bool → Leaf
text_leaf true = string
text_leaf false = bytes

-- What row i says, if it is under the node.
module _ (pool rows : List ℕ) (node i : ℕ) where
  abbrev pub looked : Answer (Says Place)
  looked = found_under node rows (length pool) i

  pub there : {x : Says Place} → looked ≡ ok x → i < row_count rows
  unfolding found_under found
  there e =
      let (r, f, q) = bind_ok _ _ (need-ok (eqb (row_node rows i) node) 51 0 _ e).1 in
      ltb-true i (row_count rows) (need-ok (ltb i (row_count rows)) 50 0 _ f).0

  -- what is found in it says that it is there
  module _ {A : Type 0} {a : A} (f : Answer (Says Place) → Option A) (none-there : (n j : ℕ) → f (refuse n j) ≡ none) where
    pub found-there : f looked ≡ some a → i < row_count rows
    found-there e = go looked refl e
      where
        go : (l : Answer (Says Place)) → looked ≡ l → f l ≡ some a → i < row_count rows
        go (ok r) q z = there q
        go (refuse n j) q z = absurd-some (sym (none-there n j) ∙ z)

  pub value_there : (kind : ℕ) {a : ℕ} → value_in kind looked ≡ some a → i < row_count rows
  unfolding value_in
  value_there kind e = found-there (value_in kind) (λ n j. refl) e

  -- what a test finds in its cell
  unfoldable pub judged : {A : Type 0} → (Says Text → Option A) → Answer (Says Place) → Option A
  judged f (ok x) = f (says_of pool x)
  judged f (refuse n j) = none

  module _ {A X : Type 0} (f : Says Text → Option A) (g : A → Rest → Answer X) where
    abbrev pub if_found : Option A → Rest → Answer X
    if_found o r = or_refuse o 42 i >>= (λ v. g v r)

    next-judged : (l : Answer (Says Place)) → (next_of pool rows i l >>= (λ x. if_found (f x.0) x.1)) ≡ if_found (judged f l) (rest_of pool rows (i + 1))
    unfolding next_of judged or_refuse ◌>>=◌
    next-judged (ok x) = refl
    next-judged (refuse n j) = refl

    -- the row is refused, or goes on with what was found
    pub judge-is : {v : A} → judged f looked ≡ some v → (next node (rest_of pool rows i) >>= (λ x. if_found (f x.0) x.1)) ≡ g v (rest_of pool rows (i + 1))
    unfolding or_refuse ◌>>=◌
    judge-is e = rw (next-look pool rows node i) (next-judged looked ∙ ap (λ o. if_found o (rest_of pool rows (i + 1))) e)

    pub judge-not : judged f looked ≡ none → (next node (rest_of pool rows i) >>= (λ x. if_found (f x.0) x.1)) ≡ refuse 42 i
    unfolding or_refuse ◌>>=◌
    judge-not e = rw (next-look pool rows node i) (next-judged looked ∙ ap (λ o. if_found o (rest_of pool rows (i + 1))) e)

  text-judged : (kind : ℕ) (l : Answer (Says Place)) → judged (text_in kind) l ≡ map (bytes_at pool) (place_in kind l)
  unfolding judged place_in text_in says_of
  text-judged kind (ok (bare k x)) = refl
  text-judged kind (ok (placed k q)) = go (eqb k kind)
    where
      go : (b : Bool) → cond b (some (bytes_at pool q)) none ≡ map (bytes_at pool) (cond b (some q) none)
      go true = refl
      go false = refl
  text-judged kind (refuse n j) = refl

  pub truth-judged : (l : Answer (Says Place)) → judged truth_in l ≡ truth_of l
  unfolding judged truth_of truth_in is_bare says_of
  truth-judged (ok (bare k x)) = refl
  truth-judged (ok (placed k q)) = refl
  truth-judged (refuse n j) = refl

  -- a word has 64 bits
  word-judged : (kind : ℕ) (l : Answer (Says Place)) → ((a : ℕ) → value_in kind l ≡ some a → a < 2 ^ 64) → judged (word_in kind) l ≡ value_in kind l
  unfolding judged value_in word_in says_of
  word-judged kind (ok (bare k x)) h = go (eqb k kind) h
    where
      go : (b : Bool) → ((a : ℕ) → cond b (some x) none ≡ some a → a < 2 ^ 64) → cond (b && ltb x (2 ^ 64)) (some x) none ≡ cond b (some x) none
      go true h = rw (lt-ltb x (2 ^ 64) (h x refl))
      go false h = refl
  word-judged kind (ok (placed k q)) h = refl
  word-judged kind (refuse n j) h = refl

  module _ (kind : ℕ) where
    text-found : {p : Place} → place_in kind looked ≡ some p → judged (text_in kind) looked ≡ some (bytes_at pool p)
    text-found e = text-judged kind looked ∙ ap (map (bytes_at pool)) e

    text-missing : place_in kind looked ≡ none → judged (text_in kind) looked ≡ none
    text-missing e = text-judged kind looked ∙ ap (map (bytes_at pool)) e

    pub word-found : {a : ℕ} → value_in kind looked ≡ some a → a < 2 ^ 64 → judged (word_in kind) looked ≡ some a
    word-found e h = word-judged kind looked (λ b q. rw (some_same (sym q ∙ e)) h) ∙ e

    pub word-missing : value_in kind looked ≡ none → judged (word_in kind) looked ≡ none
    word-missing e = word-judged kind looked (λ b q. absurd-some (sym e ∙ q)) ∙ e

  module _ (k : ℕ) (labelled : Bool) where
    -- STRING or BYTES: only what is judged has to be a text
    abbrev on_text : Bool → Text → Rest → Answer (List Event × Rest)
    on_text judged v r = need_at (not judged || is_text v) 28 i >> ok (record { front = none; body = text k v } ∷ [], r)

    text-as : (judged : Bool) → fit_leaf k (text_leaf judged) node labelled (rest_of pool rows i) ≡ (next node (rest_of pool rows i) >>= (λ x. if_found (text_in (text_row judged)) (on_text judged) (text_in (text_row judged) x.0) x.1))
    unfolding fit_leaf need_at ◌>>◌
    text-as true = refl
    text-as false = refl

    module _ (judged : Bool) where
      pub text-not : place_in (text_row judged) looked ≡ none → fit_leaf k (text_leaf judged) node labelled (rest_of pool rows i) ≡ refuse 42 i
      text-not e = text-as judged ∙ judge-not (text_in (text_row judged)) (on_text judged) (text-missing (text_row judged) e)

      module _ {p : Place} (e : place_in (text_row judged) looked ≡ some p) where
        pub text-stray : (not judged || is_text (bytes_at pool p)) ≡ false → fit_leaf k (text_leaf judged) node labelled (rest_of pool rows i) ≡ refuse 28 i
        unfolding need_at ◌>>◌
        text-stray h = text-as judged ∙ judge-is (text_in (text_row judged)) (on_text judged) (text-found (text_row judged) e) ∙ rw h

        pub text-is : (not judged || is_text (bytes_at pool p)) ≡ true → fit_leaf k (text_leaf judged) node labelled (rest_of pool rows i) ≡ ok (record { front = none; body = text k (bytes_at pool p) } ∷ [], rest_of pool rows (i + 1))
        unfolding need_at ◌>>◌
        text-is h = text-as judged ∙ judge-is (text_in (text_row judged)) (on_text judged) (text-found (text_row judged) e) ∙ rw h

    -- VARINT
    pub varint-not : value_in integer_row looked ≡ none → fit_leaf k varint node labelled (rest_of pool rows i) ≡ refuse 42 i
    unfolding fit_leaf
    varint-not e = judge-not (word_in integer_row) (λ a r. ok (unlabelled labelled (value k (label (integer a))) ∷ [], r)) (word-missing integer_row e)

    pub varint-is : {a : ℕ} → value_in integer_row looked ≡ some a → a < 2 ^ 64 → fit_leaf k varint node labelled (rest_of pool rows i) ≡ ok (unlabelled labelled (value k (label (integer a))) ∷ [], rest_of pool rows (i + 1))
    unfolding fit_leaf
    varint-is e h = judge-is (word_in integer_row) (λ a r. ok (unlabelled labelled (value k (label (integer a))) ∷ [], r)) (word-found integer_row e h)

    -- FLOAT64
    pub float-not : value_in float_row looked ≡ none → fit_leaf k float64 node labelled (rest_of pool rows i) ≡ refuse 42 i
    unfolding fit_leaf
    float-not e = judge-not (word_in float_row) (λ a r. ok (unlabelled labelled (value k (little_endian_bytes 8 a)) ∷ [], r)) (word-missing float_row e)

    pub float_is : {a : ℕ} → value_in float_row looked ≡ some a → a < 2 ^ 64 → fit_leaf k float64 node labelled (rest_of pool rows i) ≡ ok (unlabelled labelled (value k (little_endian_bytes 8 a)) ∷ [], rest_of pool rows (i + 1))
    unfolding fit_leaf
    float_is e h = judge-is (word_in float_row) (λ a r. ok (unlabelled labelled (value k (little_endian_bytes 8 a)) ∷ [], r)) (word-found float_row e h)

    -- FIXED
    module _ (n : ℕ) where
      abbrev on_fixed : Text → Rest → Answer (List Event × Rest)
      on_fixed v r = need_at (eqb (length v) n) 42 i >> ok (unlabelled labelled (value k v) ∷ [], r)

      pub fixed-not : place_in fixed_row looked ≡ none → fit_leaf k (fixed n) node labelled (rest_of pool rows i) ≡ refuse 42 i
      unfolding fit_leaf
      fixed-not e = judge-not (text_in fixed_row) on_fixed (text-missing fixed_row e)

      pub fixed-other : {p : Place} → place_in fixed_row looked ≡ some p → (length (bytes_at pool p) ≡ n → ⊥) → fit_leaf k (fixed n) node labelled (rest_of pool rows i) ≡ refuse 42 i
      unfolding fit_leaf need_at ◌>>◌
      fixed-other {p} e h = judge-is (text_in fixed_row) on_fixed (text-found fixed_row e) ∙ rw (ne_eqb (length (bytes_at pool p)) n h)

      pub fixed-is : {p : Place} → place_in fixed_row looked ≡ some p → length (bytes_at pool p) ≡ n → fit_leaf k (fixed n) node labelled (rest_of pool rows i) ≡ ok (unlabelled labelled (value k (bytes_at pool p)) ∷ [], rest_of pool rows (i + 1))
      unfolding fit_leaf need_at ◌>>◌
      fixed-is {p} e h = judge-is (text_in fixed_row) on_fixed (text-found fixed_row e) ∙ rw (eq-eqb (length (bytes_at pool p)) n h)
