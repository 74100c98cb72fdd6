-- Laws of equal texts, of parts of the pool, of the search among a key's literals, and of what a turn of it learns.
use mathlib.Core.Path.{◌≡◌, refl, sym, ap, subst, ◌∙◌}
use mathlib.Core.Bool.{Bool, true, false}
use mathlib.Core.List.{List, [], ◌∷◌, map}
use mathlib.Core.Option.{Option, none, some, some-injective}
use Prim.Native.Nat.{ℕ, zero, suc, ◌+◌, ◌-◌, ◌*◌, ◌/◌, ◌%◌, ◌<◌, ◌≤◌, ◌^◌}
use native.Mathlib.Nat.{zero-add, add-zero}
use native.Mathlib.Numerals.{add-one}
use native.Mathlib.Omega.{arith}
use lib.Dec.{eqb}
use lib.ListN.{length, get_or, drop, length-map, drop_of_length-le}
use lib.Seq.{ext_get_or}
use borrow.Author.Tests.{eq-eqb, eqb-true}
use Rattle.format.specs.Row.{Place, bytes_at, Text}
use Rattle.format.specs.Read.{nth}
use Rattle.format.specs.Write.{same_text, further, first_equal}
use Rattle.laws.specs.Texts.{same-eq, same_refl}
use Rattle.laws.specs.Facts.{by_bool, absurd-some, and-true, true-and}
use Rattle.std.specs.Prelude as code
use Rattle.write_literals.specs.declared.Met.{Met}
use Rattle.write_literals.specs.Meeting.{MeetsIn}
use Rattle.write_literals.specs.Store.{Literal}
use Rattle.write_literals.specs.Words.{Meets}
use Rattle.store.specs.Laws.{nth-there}
use Rattle.write_search.specs.Parts.{part_length, part_at}
use Rattle.write_search.specs.Hash.{hash}
use Rattle.write_search.specs.Front.{Front, known, front, alike, common-is, front-short, alike-length, alike-agrees, unlike, front-met, front-passed}
use Rattle.write_search.specs.Search.{place_of, front_of, second_word, text_of, texts_of, IsLiteral, KeepsText}

unequal : (a b : Text) → (a ≡ b → ⊥) → same_text a b ≡ false
unequal a b d = go (same_text a b) refl
  where
    go : (t : Bool) → same_text a b ≡ t → t ≡ false
    go true e = absurd (d (same-eq a b e))
    go false e = refl

-- Two parts of the pool.
module _ (pool : List ℕ) (p q : Place) (hp : p.start + p.size ≤ length pool) (hq : q.start + q.size ≤ length pool) where
  pub parts_same : q.size ≡ p.size → ((i : ℕ) → i < p.size → get_or pool (q.start + i) 0 ≡ get_or pool (p.start + i) 0) → same_text (bytes_at pool p) (bytes_at pool q) ≡ true
  parts_same s h =
      let e : bytes_at pool p ≡ bytes_at pool q = ext_get_or 0 _ _ (part_length pool p hp ∙ sym s ∙ sym (part_length pool q hq))
      (λ i b. let l : i < p.size = subst (λ (n : ℕ). i < n) (part_length pool p hp) b in part_at pool p i l ∙ sym (h i l) ∙ sym (part_at pool q i (omega arith))) in
      ap (λ (a : Text). same_text (bytes_at pool p) a) (sym e) ∙ same_refl (bytes_at pool p)

  pub parts-differ : q.size ≡ p.size → (i : ℕ) → i < p.size → (get_or pool (q.start + i) 0 ≡ get_or pool (p.start + i) 0 → ⊥) → same_text (bytes_at pool p) (bytes_at pool q) ≡ false
  parts-differ s i h d = unequal _ _ (λ e. d (sym (part_at pool q i (omega arith)) ∙ ap (λ (a : Text). get_or a i 0) (sym e) ∙ part_at pool p i h))

-- The search from text j on: what it finds is counted from the first.
shifted : ℕ → Option ℕ → Option ℕ
shifted j none = none
shifted j (some i) = some (j + i)

pub equal_from : Text → List Text → ℕ → Option ℕ
equal_from v ts j = shifted j (first_equal v (drop j ts))

pub from_start : (v : Text) (ts : List Text) → first_equal v ts ≡ equal_from v ts 0
unfolding equal_from shifted
from_start v ts = go (first_equal v ts)
  where
    go : (o : Option ℕ) → o ≡ shifted 0 o
    go none = refl
    go (some i) = rw zero-add

text-next : (f : Literal → Text) (ps : List Literal) (j : ℕ) {p : Literal} → nth ps j ≡ some p → drop j (map f ps) ≡ f p ∷ drop (suc j) (map f ps)
unfolding nth
text-next f [] j e = absurd-some e
text-next f (q ∷ ps) zero {p} e = rw (some-injective q p e)
text-next f (q ∷ ps) (suc j) e = text-next f ps j e

module _ (pool : List ℕ) (v : Text) (ps : List Literal) (j : ℕ) where
  abbrev texts : List Text
  texts = texts_of pool ps

  pub from-hit : {p : Literal} → nth ps j ≡ some p → same_text v (text_of pool p) ≡ true → equal_from v texts j ≡ some j
  unfolding equal_from shifted first_equal
  from-hit h e = rw (text-next (text_of pool) ps j h, e, add-zero)

  pub from-miss : {p : Literal} → nth ps j ≡ some p → same_text v (text_of pool p) ≡ false → equal_from v texts j ≡ equal_from v texts (j + 1)
  unfolding equal_from shifted first_equal further
  from-miss h e = rw (text-next (text_of pool) ps j h, e, add-one) (go (first_equal v (drop (suc j) texts)))
    where
      go : (o : Option ℕ) → shifted j (further o) ≡ shifted (suc j) o
      go none = refl
      go (some i) = ap some (omega arith)

  pub from_end : length ps ≤ j → equal_from v texts j ≡ none
  unfolding equal_from shifted first_equal
  from_end h =
      let e : drop j texts ≡ [] = drop_of_length-le texts {i = j} (rw length-map h) in
      rw e

-- ---- one turn

-- the parts of the second word
near_parts : (m near low : ℕ) → near < 4096 → m ≡ near + 4096 * low → (m % 4096 ≡ near) × (m / 4096 ≡ low)
near_parts m near low h e = (omega arith, omega arith)

word-parts : (size near pairs word : ℕ) → size < 131072 → near < 4096 → word ≡ second_word size near pairs → (word % 131072 ≡ size) × (word / 131072 % 4096 ≡ near) × (word / 131072 / 4096 ≡ pairs % 8)
word-parts size near pairs word hs hn e =
    let m : word / 131072 ≡ near + 4096 * (pairs % 8) = omega arith in
    let n = near_parts (word / 131072) near (pairs % 8) hn m in
    (omega arith, n.0, n.1)

-- the two words against what is known of the text
module _ (p : Place) (x : Literal) (near pairs : ℕ) where
  abbrev test : Bool
  test = alike p.size (record { near = near; pairs = pairs }) (x.second % 131072) (front_of x)

  module _ (small : x.second < 2 ^ 32) where
    words-told : test ≡ true → (x.second ≡ second_word p.size near pairs) × (x.first / 131072 ≡ pairs / 8)
    unfolding alike
    words-told e =
        let a = and-true (eqb (x.second % 131072) p.size) _ e in
        let b = and-true (eqb (x.second / 131072 % 4096) near) _ a.1 in
        let s = eqb-true (x.second % 131072) p.size a.0 in
        let n = eqb-true (x.second / 131072 % 4096) near b.0 in
        let m = eqb-true (8 * (x.first / 131072) + x.second / 131072 / 4096) pairs b.1 in
        let l : x.second / 131072 / 4096 < 8 = omega arith in
        let y : x.second / 131072 / 4096 ≡ pairs % 8 = omega arith in
        let z : x.second / 131072 ≡ near + 4096 * (pairs % 8) = omega arith in
        (omega arith, omega arith)

    pub words-other : (x.second ≡ second_word p.size near pairs → x.first / 131072 ≡ pairs / 8 → ⊥) → test ≡ false
    words-other d = by_bool test (λ e. absurd (let t = words-told e in d t.0 t.1)) (λ e. e)

  pub words_same : p.size < 131072 → near < 4096 → x.second ≡ second_word p.size near pairs → x.first / 131072 ≡ pairs / 8 → test ≡ true
  unfolding alike
  words_same hs hn e f =
      let w = word-parts p.size near pairs x.second hs hn e in
      let m : 8 * (x.first / 131072) + x.second / 131072 / 4096 ≡ pairs = omega (arith, w.2) in
      true-and (eq-eqb _ _ w.0) (true-and (eq-eqb _ _ w.1) (eq-eqb _ _ m))

-- what is so of the text at p behind j of the literals
pub record Reached (pool : List ℕ) (p : Place) (xs : List Literal) (j near pairs : ℕ) : Type 0 where
  pub equal : first_equal (bytes_at pool p) (texts_of pool xs) ≡ equal_from (bytes_at pool p) (texts_of pool xs) j
  pub learnt : front (bytes_at pool p) (texts_of pool xs) j ≡ record { near = near; pairs = pairs }

pub reached-none : (pool : List ℕ) (p : Place) (xs : List Literal) {h : ℕ} → h ≡ hash (bytes_at pool p) → Reached pool p xs 0 (h % 4096) (65536 + h / 4096)
unfolding front
reached-none pool p xs e = record { equal = from_start _ _; learnt = rw e }

-- the text, and literal j
pub record Turn (pool : List ℕ) (p : Place) (xs : List Literal) (j near pairs : ℕ) (x : Literal) : Type 0 where
  pub inside : p.start + p.size ≤ length pool
  pub reached : Reached pool p xs j near pairs
  pub there : nth xs j ≡ some x
  pub stands : IsLiteral pool (texts_of pool xs) j x
  pub unmet : pairs < 98304

module _ {pool : List ℕ} {p : Place} {xs : List Literal} {j near pairs : ℕ} {x : Literal} (t : Turn pool p xs j near pairs x) where
  abbrev v : Text
  v = bytes_at pool p

  abbrev ts : List Text
  ts = texts_of pool xs

  abbrev u : Text
  u = text_of pool x

  abbrev pub asked : Bool
  asked = test p x near pairs

  is-asked : alike (length v) (front v ts j) (length u) (front u ts j) ≡ asked
  is-asked = rw (t.reached.learnt, ← t.stands.front, part_length pool p t.inside, part_length pool (place_of x) t.stands.inside)

  still_open : (front v ts j).pairs < 98304
  still_open = rw t.reached.learnt t.unmet

  text-there : get_or ts j [] ≡ u
  unfolding nth
  text-there = go xs j t.there
    where
      go : (xs : List Literal) (j : ℕ) → nth xs j ≡ some x → get_or (texts_of pool xs) j [] ≡ u
      go [] j e = absurd-some e
      go (y ∷ ys) zero e = rw (some-injective y x e)
      go (y ∷ ys) (suc j) e = go ys j e

  module _ (yes : asked ≡ true) where
    pub same_size : x.second % 131072 ≡ p.size
    same_size = sym (part_length pool (place_of x) t.stands.inside) ∙ alike-length ts v u j (is-asked ∙ yes) ∙ part_length pool p t.inside

    pub known_same : (i : ℕ) → i < known pairs → get_or pool (x.first % 131072 + i) 0 ≡ get_or pool (p.start + i) 0
    known_same i h =
        let e : known (front v ts j).pairs ≡ known pairs = ap (λ (f : Front). known f.pairs) t.reached.learnt in
        let l : i < p.size = omega (arith, front-short ts v j, part_length pool p t.inside) in
        let s = same_size in
        sym (part_at pool (place_of x) i (omega arith)) ∙ alike-agrees ts v u j (is-asked ∙ yes) i (omega arith) ∙ part_at pool p i l

    module _ (k : ℕ) (equal : (i : ℕ) → i < k → get_or pool (x.first % 131072 + i) 0 ≡ get_or pool (p.start + i) 0) where
      pub turn-hit : k ≡ p.size → first_equal v ts ≡ some j
      turn-hit e = t.reached.equal ∙ from-hit pool v xs j t.there (parts_same pool p (place_of x) t.inside t.stands.inside same_size (λ i h. equal i (omega arith)))

      module _ (short : k < p.size) (differ : get_or pool (x.first % 131072 + k) 0 ≡ get_or pool (p.start + k) 0 → ⊥) where
        turn-miss : same_text v u ≡ false
        turn-miss = parts-differ pool p (place_of x) t.inside t.stands.inside same_size k short differ

        turn-front : front v ts (suc j) ≡ record { near = j; pairs = k / 2 }
        turn-front =
            let s = same_size in
            let m = part_length pool p t.inside in
            let n = part_length pool (place_of x) t.stands.inside in
            front-met ts v u j text-there turn-miss still_open (is-asked ∙ yes) ∙ ap (λ (c : ℕ). record { near = j; pairs = c / 2 })
            (common-is v u k (omega arith) (omega arith)
            (λ i h. part_at pool p i (omega arith) ∙ sym (equal i h) ∙ sym (part_at pool (place_of x) i (omega arith)))
            (λ e. differ (sym (part_at pool (place_of x) k (omega arith)) ∙ sym e ∙ part_at pool p k short)))

        pub turn-met : Reached pool p xs (j + 1) j (k / 2)
        turn-met = record { equal = t.reached.equal ∙ from-miss pool v xs j t.there turn-miss; learnt = rw (add-one j) turn-front }

  -- a literal that is not alike is passed
  pub turn-passed : asked ≡ false → Reached pool p xs (j + 1) near pairs
  turn-passed e = record {
    equal = t.reached.equal ∙ from-miss pool v xs j t.there (unequal v u (unlike ts v u j (is-asked ∙ e)));
    learnt = rw (add-one j) (front-passed ts v u j text-there (unequal v u (unlike ts v u j (is-asked ∙ e))) still_open (is-asked ∙ e) ∙ t.reached.learnt);
  }

-- all literals are passed that have another second word, or another upper part of the first
module _ {pool : List ℕ} {p : Place} {xs : List Literal} {near pairs j k first : ℕ} (inside : p.start + p.size ≤ length pool)
    (stands : (i : ℕ) (x : Literal) → nth xs i ≡ some x → IsLiteral pool (texts_of pool xs) i x) (few : pairs < 98304) (s : Meets xs j (pairs / 8) (second_word p.size near pairs) k first) where
  passed : (d : ℕ) → j + d ≤ k → Reached pool p xs j near pairs → Reached pool p xs (j + d) near pairs
  passed zero h r = rw add-zero r
  passed (suc d) h r =
      let m = s.most in
      let i : ℕ = j + d in
      let e : i + 1 ≡ j + suc d = omega arith in
      nth-there xs i (omega arith)
      (λ x q. let t : Turn pool p xs i near pairs x = record { inside = inside; reached = passed d (omega arith) r; there = q; stands = stands i x q; unmet = few } in
      rw e at (turn-passed t (words-other p x near pairs (s.small i x q) (s.passed i x (omega arith) (omega arith) q))))

  pub reached-on : Reached pool p xs j near pairs → Reached pool p xs k near pairs
  reached-on r =
      let l = s.least in
      let e : j + (k - j) ≡ k = omega arith in
      rw e at (passed (k - j) (omega arith) r)

-- where the search stands: at the literal that was met, or behind all of them
abbrev pub stands_at : List Literal → code.Option Met → ℕ
stands_at xs (code.Some m) = m.number
stands_at xs code.None = length xs

-- a literal that was met has the words that were asked for
abbrev pub Asked : List Literal → ℕ → ℕ → code.Option Met → Type 0
Asked xs word high (code.Some m) = (m.number < length xs) × (nth xs m.number ≡ some (record { first = m.first; second = word })) × (m.first / 131072 ≡ high) × (m.number < 4096) × (m.first < 2 ^ 32)
Asked xs word high code.None = Unit {0}

pub met_on : {pool : List ℕ} {p : Place} {xs : List Literal} {near pairs j word : ℕ} → p.start + p.size ≤ length pool
    → ((i : ℕ) (x : Literal) → nth xs i ≡ some x → IsLiteral pool (texts_of pool xs) i x) → pairs < 98304 → word ≡ second_word p.size near pairs → (met : code.Option Met)
    → MeetsIn xs j (pairs / 8) word met → code.IfSome met (λ m. (m.number < 4096) × (m.first < 2 ^ 32)) → Reached pool p xs j near pairs
    → Asked xs (second_word p.size near pairs) (pairs / 8) met × Reached pool p xs (stands_at xs met) near pairs
met_on inside stands few e (code.Some m) s b r =
    let s₁ = rw e at s in
    let h = s₁.1.here s₁.0 in
    ((s₁.0, h.0, h.1, b.0, b.1), reached-on inside stands few s₁.1 r)
met_on inside stands few e code.None s b r = (tt, reached-on inside stands few (rw e at s) r)

-- the words to keep the text by
pub keeps : (pool : List ℕ) (ts : List Text) (p : Place) {near pairs word : ℕ} → p.start < 131072 → p.size < 131072 → near < 4096 → word ≡ second_word p.size near pairs
    → front (bytes_at pool p) ts (length ts) ≡ record { near = near; pairs = pairs } → KeepsText pool ts p (record { first = p.start + 131072 * (pairs / 8); second = word })
keeps pool ts p {near} {pairs} {word} hp hs hn q e =
    let a : (p.start + 131072 * (pairs / 8)) % 131072 ≡ p.start = omega arith in
    let c : (p.start + 131072 * (pairs / 8)) / 131072 ≡ pairs / 8 = omega arith in
    let w = word-parts p.size near pairs word hs hn q in
    let m : 8 * ((p.start + 131072 * (pairs / 8)) / 131072) + word / 131072 / 4096 ≡ pairs = omega (arith, c, w.2) in
    record { place = rw (a, w.0); front = rw (m, w.1) (sym e) }
