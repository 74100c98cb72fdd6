-- Laws of rows as words, and of looking at them. Assumes nothing.
use mathlib.Core.Path.{◌≡◌, refl, ap, sym, ◌∙◌}
use mathlib.Core.Bool.{Bool, true, false, cond, ◌&&◌, true≢false, false≢true}
use mathlib.Core.List.{List}
use mathlib.Core.Option.{Option, none, some}
use Prim.Native.Nat.{ℕ, ◌+◌, ◌*◌, ◌≤◌, ◌<◌}
use native.Mathlib.Omega.{arith}
use lib.Dec.{ltb, leb, eqb}
use lib.ListN.{get_or, get_or-eq_default}
use borrow.Author.Tests.{lt-ltb, le-ltb, le-leb, lt-leb, leb-true, eq-eqb, ne_eqb}
use Rattle.std.specs.Prelude.{Result, Ok, Err}
use Rattle.format.specs.Answer.{Answer, ok, refuse, ◌>>=◌, ◌>>◌, need_at, or_refuse}
use Rattle.format.specs.Refusal.{answered_by}
use Rattle.format.specs.declared.refusal.Refusal.{Refusal}
use Rattle.format.specs.Row.{Says, bare, placed, Row, row, Place, true_row, string_row, fixed_row, array_row, is_place, is_inside, from_words, row_width, row_count, row_node, under, row_at, found, look}
use Rattle.laws.specs.Facts.{by-lt, need-ok, bind_ok, ok_same}
use Rattle.rows.specs.declared.Seen.{Seen}
use Rattle.rows.specs.Placed.{place_inside}
use Rattle.rows.specs.Seen.{seen, seen_under, found_under, inside, look_at_words, is_some}

-- what is there on a test
pub some-if : {A : Type 0} (t : Bool) (a : A) → is_some (cond t (some a) none) ≡ t
unfolding is_some
some-if true a = refl
some-if false a = refl

is-some : {A : Type 0} {o : Option A} (t : Bool) {a : A} → o ≡ cond t (some a) none → is_some o ≡ true → o ≡ some a
unfolding is_some
is-some true e h = e
is-some false e h = absurd (false≢true (sym (ap is_some e) ∙ h))

is_none : {A : Type 0} (o : Option A) → is_some o ≡ false → o ≡ none
unfolding is_some
is_none none h = refl
is_none (some a) h = absurd (true≢false h)

pub no_place : (kind : ℕ) → fixed_row < kind → is_place kind ≡ false
unfolding is_place
no_place kind h = let l : string_row ≤ kind = omega arith in simp (le-leb string_row kind l, lt-leb kind fixed_row h)

module _ (kind a b : ℕ) where
  -- the row of three words, by how many of them its kind uses: none, both, one
  pub from-none : kind ≤ true_row → from_words kind a b ≡ cond (eqb a 0 && eqb b 0) (some (bare kind 0)) none
  unfolding from_words
  from-none h = simp (le-leb kind true_row h)

  pub from-both : true_row < kind → is_place kind ≡ true → from_words kind a b ≡ some (placed kind (record { start = a; size = b }))
  unfolding from_words
  from-both h p = simp (lt-leb kind true_row h, p)

  pub from_one : true_row < kind → is_place kind ≡ false → from_words kind a b ≡ cond (leb kind array_row && eqb b 0) (some (bare kind a)) none
  unfolding from_words
  from_one h p = simp (lt-leb kind true_row h, p)

  -- a word that is no kind's
  pub no-kind : array_row < kind → is_some (from_words kind a b) ≡ false
  no-kind h = ap is_some (from_one (omega arith) (no_place kind (omega arith))) ∙ some-if _ _ ∙ simp (lt-leb kind array_row h)

  module _ (count : ℕ) where
    look-bare : {k x : ℕ} → from_words kind a b ≡ some (bare k x) → look_at_words kind a b count ≡ ok (bare k x)
    unfolding look_at_words ◌>>=◌ or_refuse inside ◌>>◌ need_at is_inside
    look-bare e = simp e

    pub look-no-row : is_some (from_words kind a b) ≡ false → look_at_words kind a b count ≡ refuse 51 0
    unfolding look_at_words ◌>>=◌ or_refuse
    look-no-row h = simp (is_none (from_words kind a b) h)

    pub look-both : true_row < kind → is_place kind ≡ true → look_at_words kind a b count ≡ inside count (placed kind (record { start = a; size = b }))
    unfolding look_at_words ◌>>=◌ or_refuse
    look-both h p = simp (from-both h p)

    -- where they are a row's
    module _ (row : is_some (from_words kind a b) ≡ true) where
      pub look_none : kind ≤ true_row → look_at_words kind a b count ≡ ok (bare kind 0)
      look_none h = look-bare (is-some (eqb a 0 && eqb b 0) (from-none h) row)

      pub look_one : true_row < kind → is_place kind ≡ false → look_at_words kind a b count ≡ ok (bare kind a)
      look_one h p = look-bare (is-some (leb kind array_row && eqb b 0) (from_one h p) row)

-- a place is inside the bytes or refused
module _ (count : ℕ) (p : Place) where
  pub is-inside : p.start + p.size ≤ count → place_inside count p ≡ ok p
  unfolding place_inside ◌>>◌ need_at
  is-inside h = simp (le-leb (p.start + p.size) count h)

  pub is-outside : count < p.start + p.size → place_inside count p ≡ refuse 51 0
  unfolding place_inside ◌>>◌ need_at
  is-outside h = simp (lt-leb (p.start + p.size) count h)

  -- with a kind that has one
  pub placed-inside : (kind : ℕ) {a : Answer Place} → a ≡ place_inside count p → (a >>= (λ q. ok (placed kind q))) ≡ inside count (placed kind p)
  unfolding place_inside inside is_inside need_at ◌>>◌ ◌>>=◌
  placed-inside kind e = rw e (go (leb (p.start + p.size) count))
    where
      go : (t : Bool) → ((need_at t 51 0 >> ok p) >>= (λ q. ok (placed kind q))) ≡ (need_at t 51 0 >> ok (placed kind p))
      go true = refl
      go false = refl

-- what is said, under a node
abbrev pub under_node : ℕ → Answer (Says Place) → Answer (Row Place)
under_node n x = x >>= (λ y. ok (row n y))

pub under-answered : (n : ℕ) (r : Result Seen Refusal) → answered_by (seen_under n) r ≡ under_node n (answered_by seen r)
unfolding ◌>>=◌
under-answered n (Ok s) = refl
under-answered n (Err e) = refl

found-words : (n count : ℕ) (o : Option (Says Place)) → (or_refuse (under n o) 51 0 >>= (λ r. need_at (is_inside count r.says) 51 0 >> ok r)) ≡ under_node n (or_refuse o 51 0 >>= inside count)
unfolding under or_refuse inside need_at ◌>>◌ ◌>>=◌
found-words n count none = refl
found-words n count (some x) = go (is_inside count x)
  where
    go : (t : Bool) → (need_at t 51 0 >> ok (row n x)) ≡ under_node n (need_at t 51 0 >> ok x)
    go true = refl
    go false = refl

-- the test of looking
small-node : (n : ℕ) → n < 1024 → (x : Answer (Says Place)) → (under_node n x >>= (λ r. need_at (ltb r.node 1024) 51 0 >> ok r)) ≡ under_node n x
unfolding need_at ◌>>◌ ◌>>=◌
small-node n h (ok x) = rw (lt-ltb n 1024 h) refl
small-node n h (refuse e j) = refl

large-node : (n count : ℕ) → 1024 ≤ n → (o : Option (Says Place)) → (under_node n (or_refuse o 51 0 >>= inside count) >>= (λ r. need_at (ltb r.node 1024) 51 0 >> ok r)) ≡ refuse 51 0
unfolding or_refuse inside need_at ◌>>◌ ◌>>=◌
large-node n count h none = refl
large-node n count h (some x) = go (is_inside count x)
  where
    go : (t : Bool) → (under_node n (need_at t 51 0 >> ok x) >>= (λ r. need_at (ltb r.node 1024) 51 0 >> ok r)) ≡ refuse 51 0
    go true = rw (le-ltb n 1024 h) refl
    go false = refl

-- a row of a list of words
pub node-beyond : (ws : List ℕ) (i : ℕ) → row_count ws ≤ i → row_node ws i ≡ 0
node-beyond ws i h = get_or-eq_default ws 0 (omega arith)

module _ (ws : List ℕ) (count i : ℕ) where
  abbrev pub words_looked : Answer (Says Place)
  words_looked = look_at_words (get_or ws (row_width * i) 0) (get_or ws (row_width * i + 1) 0) (get_or ws (row_width * i + 2) 0) count

  pub found-beyond : row_count ws ≤ i → found ws count i ≡ refuse 50 0
  unfolding found ◌>>◌ need_at
  found-beyond h = simp (le-ltb i (row_count ws) h)

  pub found-row : i < row_count ws → found ws count i ≡ under_node (row_node ws i) words_looked
  unfolding found row_at ◌>>◌ need_at look_at_words
  found-row h = rw (lt-ltb i (row_count ws) h) (found-words (row_node ws i) count _)

  -- a node below 1,024 does not matter to looking, another is refused
  pub look-small : row_node ws i < 1024 → look ws count i ≡ found ws count i
  unfolding look ◌>>=◌
  look-small s = by-lt i (row_count ws)
      (λ h. rw (found-row h) (small-node (row_node ws i) s words_looked))
      (λ h. rw (found-beyond h) (small-node (row_node ws i) s (refuse 50 0)))

  pub look-large : 1024 ≤ row_node ws i → look ws count i ≡ refuse 51 0
  unfolding look look_at_words
  look-large l = by-lt i (row_count ws)
      (λ h. rw (found-row h) (large-node (row_node ws i) count l _))
      (λ h. absurd (omega (arith, node-beyond ws i h)))

  -- a row under the wanted node
  module _ (node : ℕ) where
    pub under-other : (row_node ws i ≡ node → ⊥) → found_under node ws count i ≡ refuse 51 0
    unfolding found_under ◌>>◌ need_at
    under-other z = rw (ne_eqb (row_node ws i) node z) refl

    pub under-beyond : row_count ws ≤ i → (e : ℕ) × (found_under node ws count i ≡ refuse e 0)
    unfolding found_under ◌>>◌ need_at ◌>>=◌
    under-beyond h = go (eqb (row_node ws i) node)
      where
        go : (t : Bool) → (e : ℕ) × ((need_at t 51 0 >> (found ws count i >>= (λ r. ok r.says))) ≡ refuse e 0)
        go true = (50, rw (found-beyond h) refl)
        go false = (51, refl)

    pub under-row : i < row_count ws → row_node ws i ≡ node → found_under node ws count i ≡ words_looked
    unfolding found_under ◌>>◌ need_at ◌>>=◌
    under-row h e = rw (eq-eqb (row_node ws i) node e, found-row h) (go words_looked)
      where
        go : (x : Answer (Says Place)) → (under_node (row_node ws i) x >>= (λ r. ok r.says)) ≡ x
        go (ok x) = refl
        go (refuse n j) = refl

    -- whatever was found, if the node is the wanted one
    pub under-found : (r : Result Seen Refusal) → row_node ws i ≡ node → answered_by (seen_under (row_node ws i)) r ≡ found ws count i → answered_by seen r ≡ found_under node ws count i
    unfolding found_under ◌>>◌ need_at ◌>>=◌
    under-found r e f = rw (eq-eqb (row_node ws i) node e, ← f) (go r)
      where
        go : (r : Result Seen Refusal) → answered_by seen r ≡ (answered_by (seen_under (row_node ws i)) r >>= (λ q. ok q.says))
        go (Ok s) = refl
        go (Err e) = refl

-- what is found is inside the bytes
words-passed : (count : ℕ) (o : Option (Says Place)) {x : Says Place} → (or_refuse o 51 0 >>= inside count) ≡ ok x → is_inside count x ≡ true
unfolding ◌>>=◌ or_refuse inside
words-passed count none e = absurd (let z : ◌≡◌ {A = ℕ} 0 1 = cc in omega arith)
words-passed count (some y) {x} e =
    let (t, f) = need-ok (is_inside count y) 51 0 (ok y) e in
    let g : y ≡ x = cc in
    ap (is_inside count) (sym g) ∙ t

pub words_inside : (kind a b count : ℕ) {k : ℕ} {p : Place} → look_at_words kind a b count ≡ ok (placed k p) → p.start + p.size ≤ count
unfolding look_at_words is_inside
words_inside kind a b count {k} {p} e = leb-true (p.start + p.size) count (words-passed count (from_words kind a b) e)

pub found_inside : (ws : List ℕ) (count i : ℕ) {n kind : ℕ} {p : Place} → found ws count i ≡ ok (row n (placed kind p)) → p.start + p.size ≤ count
unfolding found is_inside
found_inside ws count i {n} {kind} {p} e =
    let (q, g, f) = bind_ok (or_refuse (row_at ws i) 51 0) _ (need-ok (ltb i (row_count ws)) 50 0 _ e).1 in
    let (t, z) = need-ok (is_inside count q.says) 51 0 (ok q) f in
    leb-true (p.start + p.size) count (ap (λ (r : Row Place). is_inside count r.says) (sym (ok_same z)) ∙ t)
