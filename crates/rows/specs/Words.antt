-- The word of a row of a wanted kind, and the kind of a row of any.
use Rattle.std.specs.Prelude.{◌≡◌, Bool, true, false, cond, ◌&&◌, List, ℕ, ◌*◌, ◌^◌, ◌<◌, ◌≤◌, eqb, leb, ltb, Option as Optional, Some, None, MatchOption}
use Rattle.std.proofs.Math.Path.{refl, ap}
use Rattle.std.proofs.Common.{subst, ◌∙◌, arith}
use borrow.Author.Tests.{leb-false}
use Rattle.std.proofs.Math.Option.{Option, none, some}
use Rattle.format.specs.Answer.{Answer, ok, refuse}
use Rattle.format.specs.Row.{Says, bare, placed, Place, Row, true_row, array_row, is_place, is_inside, from_words, under, row_at, found, row_width, row_count, row_node}
use Rattle.laws.specs.Facts.{by_bool, absurd-some, some_same, ok_same, need-ok, bind_ok, or_refuse-ok}
use Rattle.rows.specs.Kind.{word_of}
use Rattle.rows.specs.Seen.{found_under}
use Rattle.rows.specs.declared.kind.Kind.{Kind}

-- The word of a row of this kind; `none` too where looking at it is refused.
unfoldable pub value_in : ℕ → Answer (Says Place) → Option ℕ
value_in kind (ok (bare k x)) = cond (eqb k kind) (some x) none
value_in kind (ok (placed k p)) = none
value_in kind (refuse e j) = none

-- The kind of what a row says.
unfoldable pub kind_in : Answer (Says Place) → Option ℕ
kind_in (ok (bare k x)) = some k
kind_in (ok (placed k p)) = some k
kind_in (refuse e j) = none

-- Where row i begins, if it is there under this node; else looking at it there is refused, however many bytes are lent.
abbrev pub Begins : List ℕ → ℕ → ℕ → Optional ℕ → Type 0
Begins ws node i r = MatchOption r ((count : ℕ) → (e : ℕ) × (found_under node ws count i ≡ refuse e 0)) (λ at. (at ≡ row_width * i) × (i < row_count ws) × (row_node ws i ≡ node))

-- A row with a word has no place: what it shows is the same however many bytes are lent.
pub record Shows (ws : List ℕ) (node kind i : ℕ) (r : Option ℕ) : Type 0 where
  pub is : (count : ℕ) → r ≡ value_in kind (found_under node ws count i)

-- The code's answers.
abbrev pub word : Optional ℕ → Option ℕ
word (Some a) = some a
word None = none

abbrev pub Small : Optional ℕ → Type 0
Small (Some a) = a < 2 ^ 64
Small None = Unit {0}

abbrev pub kind_word : Optional Kind → Option ℕ
kind_word (Some k) = some (word_of k)
kind_word None = none

-- A row of one of the four kinds that use no word says none.
abbrev Wordless : Says Place → Type 0
Wordless (bare k x) = k ≤ true_row → x ≡ 0
Wordless (placed k p) = true_row < k

wordless-if : (t : Bool) {x : Says Place} (y : Says Place) → Wordless y → cond t (some y) none ≡ some x → Wordless x
wordless-if true y w e = subst Wordless (some_same e) w
wordless-if false y w e = absurd-some e

wordless-words : (kind a b : ℕ) {x : Says Place} → from_words kind a b ≡ some x → Wordless x
unfolding from_words
wordless-words kind a b e = by_bool (leb kind true_row)
    (λ h. wordless-if (eqb a 0 && eqb b 0) _ (λ l. refl) (rw h at e))
    (λ h. by_bool (is_place kind)
    (λ p. subst Wordless (some_same (rw (h, p) at e)) (leb-false kind true_row h))
    (λ p. wordless-if (leb kind array_row && eqb b 0) _ (λ l. let z = leb-false kind true_row h in absurd (omega arith)) (rw (h, p) at e)))

module _ (node count i : ℕ) (ws : List ℕ) where
  wordless-under : (n : ℕ) (o : Option (Says Place)) {r : Row Place} → under n o ≡ some r → o ≡ some r.says
  unfolding under
  wordless-under n none e = absurd-some e
  wordless-under n (some x) e = ap (λ (r : Row Place). some r.says) (some_same e)

  wordless : {x : Says Place} → found_under node ws count i ≡ ok x → Wordless x
  unfolding found_under found row_at
  wordless e =
      let (r, f, q) = bind_ok _ _ (need-ok (eqb (row_node ws i) node) 51 0 _ e).1 in
      let (s, u, v) = bind_ok _ _ (need-ok (ltb i (row_count ws)) 50 0 _ f).1 in
      let t = wordless-words _ _ _ (wordless-under _ _ (or_refuse-ok _ 51 0 u)) in
      subst Wordless (ap (λ (x : Row Place). x.says) (ok_same (need-ok (is_inside count s.says) 51 0 (ok s) v).1) ∙ ok_same q) t

  -- what it says is its kind alone
  pub kind-alone : {k : ℕ} → kind_in (found_under node ws count i) ≡ some k → k ≤ true_row → found_under node ws count i ≡ ok (bare k 0)
  unfolding kind_in
  kind-alone {k} e h = go (found_under node ws count i) refl e
    where
      go : (l : Answer (Says Place)) → found_under node ws count i ≡ l → kind_in l ≡ some k → found_under node ws count i ≡ ok (bare k 0)
      go (ok (bare m x)) q z =
          let m-k : m ≡ k = some_same z in
          let x-0 : x ≡ 0 = wordless q (omega arith) in
          q ∙ ap (λ n. ok (bare n x)) m-k ∙ ap (λ n. ok (bare k n)) x-0
      go (ok (placed m p)) q z =
          let m-k : m ≡ k = some_same z in
          let w : true_row < m = wordless q in
          absurd (omega arith)
      go (refuse e j) q z = absurd-some z
