-- Slots: what is found under a key, and what a slot more, or one moved on, makes of them.
use mathlib.Core.Path.{◌≡◌, refl, sym, ap, ◌∙◌}
use mathlib.Core.List.{List, [], ◌∷◌, ◌++◌}
use mathlib.Core.Option.{Option, none, some}
use Prim.Native.Nat.{ℕ, zero, suc, ◌+◌, ◌<◌, ◌≤◌, min}
use native.Mathlib.Omega.{arith}
use native.Mathlib.Numerals.{add-one}
use lib.ListN.{length, set, length-set}
use borrow.Author.Tests.{eq-eqb, ne_eqb}
use Rattle.format.specs.Read.{Reading, nth}
use Rattle.laws.specs.Facts.{by-eq}
use Rattle.store.specs.Lists.{upto, upto-length, upto-nth, upto-ext, upto_snoc, sum-at, sum_room}
use Rattle.store.specs.Store.{lookup, change, move_to, opened, advanced, rested}
use Rattle.store.specs.Words.{word, key_of, reading_of, index_of, slot_count, slot_of, slots_of, GoodSlots, Moved, Begun}
use Rattle.store.specs.Slots.{skip, hit, reading-eq, store-eq, slot-most, good-slots-kept, slots-below}

-- ---- what stands under a key in a list made by a rule

module _ {X : Type 0} where
  lookup-upto : (f : ℕ → ℕ × X) (n i k : ℕ) → i < n → (f i).0 ≡ k → ((j : ℕ) → j < i → (f j).0 ≡ k → ⊥) → lookup k (upto f n) ≡ some (f i).1
  unfolding upto lookup
  lookup-upto f zero i k h e o = absurd (omega arith)
  lookup-upto f (suc n) zero k h e o = rw (eq-eqb (f 0).0 k e)
  lookup-upto f (suc n) (suc i) k h e o = rw (ne_eqb (f 0).0 k (o 0 (omega arith))) (lookup-upto (λ j. f (suc j)) n i k (omega arith) e (λ j b. o (suc j) (omega arith)))

  lookup-upto-none : (f : ℕ → ℕ × X) (n k : ℕ) → ((j : ℕ) → j < n → (f j).0 ≡ k → ⊥) → lookup k (upto f n) ≡ none
  unfolding upto lookup
  lookup-upto-none f zero k o = refl
  lookup-upto-none f (suc n) k o = rw (ne_eqb (f 0).0 k (o 0 (omega arith))) (lookup-upto-none (λ j. f (suc j)) n k (λ j b. o (suc j) (omega arith)))

  -- no key twice: changed at k alone
  change-upto : (f g : ℕ → ℕ × X) (n k : ℕ) (h : X → X) → ((i j : ℕ) → i < n → j < n → (f i).0 ≡ (f j).0 → i ≡ j)
      → ((j : ℕ) → j < n → (f j).0 ≡ k → g j ≡ (k, h (f j).1)) → ((j : ℕ) → j < n → ((f j).0 ≡ k → ⊥) → g j ≡ f j) → upto g n ≡ change k h (upto f n)
  unfolding upto change
  change-upto f g zero k h d s o = refl
  change-upto f g (suc n) k h d s o = by-eq (f 0).0 k
      (λ e. rw (eq-eqb (f 0).0 k e, s 0 (omega arith) e)
      (ap (λ (bs : List (ℕ × X)). (k, h (f 0).1) ∷ bs) (upto-ext (λ j. g (suc j)) (λ j. f (suc j)) n
      (λ j b. o (suc j) (omega arith) (λ q. let z : suc j ≡ 0 = d (suc j) 0 (omega arith) (omega arith) (q ∙ sym e) in omega arith)))))
      (λ e. rw (ne_eqb (f 0).0 k e, o 0 (omega arith) e)
      (ap (λ (bs : List (ℕ × X)). f 0 ∷ bs) (change-upto (λ j. f (suc j)) (λ j. g (suc j)) n k h
      (λ i j a b q. let z : suc i ≡ suc j = d (suc i) (suc j) (omega arith) (omega arith) q in omega arith)
      (λ j b q. s (suc j) (omega arith) q) (λ j b q. o (suc j) (omega arith) q))))

-- ---- what is found

pub slots_length : (w : List ℕ) → length (slots_of w) ≡ slot_count w
unfolding slots_of
slots_length w = upto-length (λ i. slot_of w i) (slot_count w)

module _ (w : List ℕ) (g : GoodSlots w) where
  -- no key has two slots
  once : (i j : ℕ) → i < slot_count w → j < slot_count w → key_of w i ≡ key_of w j → i ≡ j
  once i j h b e = let z : suc i ≡ suc j = sym (g.indexed i h) ∙ ap (λ (k : ℕ). index_of w k) e ∙ g.indexed j b in omega arith

  find-some : (k : ℕ) → k < 32 → (index_of w k ≡ 0 → ⊥) → lookup k (slots_of w) ≡ some (reading_of w k)
  unfolding slots_of
  find-some k h o = go (index_of w k) refl
    where
      go : (n : ℕ) → index_of w k ≡ n → lookup k (slots_of w) ≡ some (reading_of w k)
      go zero e = absurd (o e)
      go (suc i) e =
          let r = g.listed k i h e in
          lookup-upto (λ j. slot_of w j) (slot_count w) i k r.0 r.1 (λ j b q. let z = once j i (omega arith) r.0 (q ∙ sym r.1) in omega arith)
          ∙ ap (λ (k : ℕ). some (reading_of w k)) r.1

  pub find-is : (k : ℕ) → k < 32 → (index_of w k ≡ 0 → ⊥) → {a e : ℕ} → a ≡ word w (1056 + k) → e ≡ word w (1088 + k)
      → ◌≡◌ {A = Option Reading} (some (record { at = a; end = e })) (lookup k (slots_of w))
  find-is k h o p q = rw (p, q) (sym (find-some k h o))

  pub find_none : (k : ℕ) → index_of w k ≡ 0 → lookup k (slots_of w) ≡ none
  unfolding slots_of
  find_none k e = lookup-upto-none (λ j. slot_of w j) (slot_count w) k (λ j b q. let z : index_of w k ≡ suc j = ap (λ (k : ℕ). index_of w k) (sym q) ∙ g.indexed j b in omega arith)

  module _ (k : ℕ) (h : k < 32) (e : lookup k (slots_of w) ≡ none) where
    untouched : index_of w k ≡ 0
    untouched = by-eq (index_of w k) 0 (λ q. q) (λ o. let f = find-some k h o in let z : ◌≡◌ {A = ℕ} 0 1 = cc in absurd (omega arith))

    pub slot-room : slot_count w < 32
    slot-room = let z = untouched in omega (arith, g.room, sum_room (λ i. min 1 (index_of w i)) 32 k (λ j. omega arith) h (omega arith))

  -- slot i
  module _ (i : ℕ) (h : i < length (slots_of w)) where
    counted : i < slot_count w
    counted = omega (arith, slots_length w)

    pub slot-in : (i < 32) × (key_of w i < 32)
    slot-in = (omega (arith, counted, slot-most w g), g.named i counted)

    pub slot_is : {k a e : ℕ} → k ≡ key_of w i → a ≡ word w (1056 + k) → e ≡ word w (1088 + k) → nth (slots_of w) i ≡ some (k, record { at = a; end = e })
    unfolding slots_of
    slot_is p q r = rw (q, r, p) (upto-nth (λ j. slot_of w j) (slot_count w) i counted)

-- ---- a slot more

module _ (w : List ℕ) (g : GoodSlots w) (key at end : ℕ) (hk : key < 32) (e : lookup key (slots_of w) ≡ none) where
  abbrev n : ℕ
  n = slot_count w

  abbrev w₁ : List ℕ
  w₁ = set w (1024 + n) key

  abbrev w₂ : List ℕ
  w₂ = set w₁ (1056 + key) at

  abbrev w₃ : List ℕ
  w₃ = set w₂ (1088 + key) end

  abbrev w₄ : List ℕ
  w₄ = set w₃ (1120 + key) (n + 1)

  abbrev w₅ : List ℕ
  w₅ = set w₄ 1152 (n + 1)

  room : n < 32
  room = slot-room w g key hk e

  whole : 16384 ≤ length w
  whole = g.whole

  -- by the words that are stored, from the last to the first
  same : (a : ℕ) → (a ≡ 1152 → ⊥) × (a ≡ 1120 + key → ⊥) × (a ≡ 1088 + key → ⊥) × (a ≡ 1056 + key → ⊥) × (a ≡ 1024 + n → ⊥) → word w₅ a ≡ word w a
  same a o = skip w₄ 1152 _ a o.0 ∙ skip w₃ (1120 + key) _ a o.1 ∙ skip w₂ (1088 + key) _ a o.2 ∙ skip w₁ (1056 + key) _ a o.3 ∙ skip w (1024 + n) _ a o.4

  count : slot_count w₅ ≡ n + 1
  count = hit w₄ 1152 (n + 1) (simp length-set (omega (arith, whole)))

  index : index_of w₅ key ≡ n + 1
  index = skip w₄ 1152 _ (1120 + key) (omega arith) ∙ hit w₃ (1120 + key) (n + 1) (simp length-set (omega (arith, whole)))

  indices : (k : ℕ) → k < 32 → (k ≡ key → ⊥) → index_of w₅ k ≡ index_of w k
  indices k h o = let r = room in same (1120 + k) (omega arith)

  reading : reading_of w₅ key ≡ record { at = at; end = end }
  reading = reading-eq
      (skip w₄ 1152 _ (1056 + key) (omega arith) ∙ skip w₃ (1120 + key) _ (1056 + key) (omega arith) ∙ skip w₂ (1088 + key) _ (1056 + key) (omega arith)
      ∙ hit w₁ (1056 + key) at (simp length-set (omega (arith, whole))))
      (skip w₄ 1152 _ (1088 + key) (omega arith) ∙ skip w₃ (1120 + key) _ (1088 + key) (omega arith) ∙ hit w₂ (1088 + key) end (simp length-set (omega (arith, whole))))

  readings : (k : ℕ) → k < 32 → (k ≡ key → ⊥) → reading_of w₅ k ≡ reading_of w k
  readings k h o = let r = room in reading-eq
      (same (1056 + k) (omega arith))
      (same (1088 + k) (omega arith))

  last : key_of w₅ n ≡ key
  last =
      let r = room in
      skip w₄ 1152 _ (1024 + n) (omega arith) ∙ skip w₃ (1120 + key) _ (1024 + n) (omega arith) ∙ skip w₂ (1088 + key) _ (1024 + n) (omega arith)
      ∙ skip w₁ (1056 + key) _ (1024 + n) (omega arith) ∙ hit w (1024 + n) key (omega (arith, whole))

  keys : (i : ℕ) → i < n → key_of w₅ i ≡ key_of w i
  keys i h = let r = room in same (1024 + i) (omega arith)

  -- a key that has a slot is another
  other : (i : ℕ) → i < n → key_of w i ≡ key → ⊥
  other i h q = let z : index_of w key ≡ suc i = ap (λ (k : ℕ). index_of w k) (sym q) ∙ g.indexed i h in omega (arith, untouched w g key hk e)

  good-touched : GoodSlots w₅
  good-touched =
      let c = count in
      record {
        whole = simp length-set g.whole;
        named = λ i h. by-eq i n (λ q. rw (q, last) hk) (λ o. let b : i < n = omega arith in rw (keys i b) (g.named i b));
        indexed = λ i h. by-eq i n
            (λ q. rw (q, last, index) (add-one n))
            (λ o. let b : i < n = omega arith in rw (keys i b, indices (key_of w i) (g.named i b) (other i b)) (g.indexed i b));
        listed = λ k i h q. by-eq k key
            (λ z. let y : i ≡ n = omega (arith, ap (λ (k : ℕ). index_of w₅ k) (sym z) ∙ q, index) in (omega arith, rw y (last ∙ sym z)))
            (λ o. let r = g.listed k i h (sym (indices k h o) ∙ q) in (omega (arith, r.0), keys i r.0 ∙ r.1));
        room = count ∙ ap (λ (m : ℕ). m + 1) g.room
            ∙ sym (sum-at (λ k. min 1 (index_of w k)) (λ k. min 1 (index_of w₅ k)) 32 key 1 hk (omega (arith, index, untouched w g key hk e)) (λ k h o. ap (λ (m : ℕ). min 1 m) (indices k h o)));
      }

  slots-touched : slots_of w₅ ≡ slots_of w ++ (key, record { at = at; end = end }) ∷ []
  unfolding slots_of
  slots-touched =
      let f : upto (λ i. slot_of w₅ i) n ≡ upto (λ i. slot_of w i) n = upto-ext (λ i. slot_of w₅ i) (λ i. slot_of w i) n (λ i h.
      rw (keys i h, readings (key_of w i) (g.named i h) (other i h))) in
      ap (λ (m : ℕ). upto (λ i. slot_of w₅ i) m) (count ∙ add-one n) ∙ upto_snoc (λ i. slot_of w₅ i) n ∙ rw (f, last, reading)

  all-touched : Moved w w₅ (opened key (record { at = at; end = end }))
  all-touched =
      let r = room in
      let above : (i : ℕ) → 1153 ≤ i → word w₅ i ≡ word w i = λ i h. same i (omega arith) in
      record {
        good = good-touched;
        store = λ literals. store-eq slots-touched (reading-eq (above 1153 (omega arith)) (above 1154 (omega arith))) refl;
        size = simp length-set;
        outside = λ i h. same i (omega arith);
        behind = λ i h. above i (omega arith);
      }

  pub touch_is : (m : ℕ) → m ≡ length (slots_of w)
      → Moved w (set (set (set (set (set w (1024 + m) key) (1056 + key) at) (1088 + key) end) (1120 + key) (m + 1)) 1152 (m + 1)) (opened key (record { at = at; end = end }))
  touch_is m q = rw (q ∙ slots_length w) all-touched

-- ---- one moved on

module _ (w : List ℕ) (g : GoodSlots w) (key at : ℕ) (hk : key < 32) where
  abbrev v : List ℕ
  v = set w (1056 + key) at

  kept : (a : ℕ) → (a ≡ 1056 + key → ⊥) → word v a ≡ word w a
  kept a o = skip w (1056 + key) at a o

  key-same : (i : ℕ) → i < 32 → key_of v i ≡ key_of w i
  key-same i h = kept (1024 + i) (omega arith)

  slots-advanced : slots_of v ≡ move_to key at (slots_of w)
  unfolding slots_of
  slots-advanced =
      let m = slot-most w g in
      rw (kept 1152 (omega arith)) (change-upto (λ i. slot_of w i) (λ i. slot_of v i) (slot_count w) key (λ p. record { at = at; end = p.end }) (once w g)
      (λ i h q. rw (key-same i (omega arith), q)
      (ap (λ (p : Reading). (key, p)) (reading-eq (hit w (1056 + key) at (omega (arith, g.whole))) (kept (1088 + key) (omega arith)))))
      (λ i h o. let k = g.named i h in rw (key-same i (omega arith))
      (ap (λ (p : Reading). (key_of w i, p)) (reading-eq (kept (1056 + key_of w i) (λ z. o (omega arith))) (kept (1088 + key_of w i) (omega arith))))))

  pub advance-is : Moved w v (advanced key at)
  advance-is = record {
    good = good-slots-kept w v g (length-set w (1056 + key) at) (kept 1152 (omega arith)) key-same (λ k h. kept (1120 + k) (omega arith));
    store = λ literals. store-eq slots-advanced (reading-eq (kept 1153 (omega arith)) (kept 1154 (omega arith))) refl;
    size = length-set w (1056 + key) at;
    outside = λ i h. kept i (omega arith);
    behind = λ i h. kept i (omega arith);
  }

-- ---- the reading place of no key

module _ (w : List ℕ) (g : GoodSlots w) (at : ℕ) where
  abbrev t : List ℕ
  t = set w 1153 at

  pub rest-moved : Moved w t (rested (record { at = at; end = word w 1154 }))
  rest-moved =
      let l : length t ≡ length w = simp length-set in
      let b : (i : ℕ) → i < 1153 → word t i ≡ word w i = λ i h. skip w 1153 at i (omega arith) in
      let s = slots-below w t g l b in
      record {
        good = s.0;
        store = λ literals. store-eq s.1 (reading-eq (hit w 1153 at (omega (arith, g.whole))) (skip w 1153 at 1154 (omega arith))) refl;
        size = l;
        outside = λ i h. b i (omega arith);
        behind = λ i h. skip w 1153 at i (omega arith);
      }

-- where a key's piece begins
pub begun-is : (w : List ℕ) (key start : ℕ) → 16384 ≤ length w → key < 32 → Begun w (set w (1216 + key) start) key start
begun-is w key start h k = record { is = hit w (1216 + key) start (omega arith); size = length-set w (1216 + key) start; others = λ i o. skip w (1216 + key) start i o }

module _ (w : List ℕ) (g : GoodSlots w) (at end : ℕ) where
  abbrev u : List ℕ
  u = set (set w 1153 at) 1154 end

  stays : (a : ℕ) → (a ≡ 1154 → ⊥) → (a ≡ 1153 → ⊥) → word u a ≡ word w a
  stays a h₂ h₁ = skip (set w 1153 at) 1154 end a h₂ ∙ skip w 1153 at a h₁

  pub rest-is : Moved w u (rested (record { at = at; end = end }))
  rest-is =
      let l : length u ≡ length w = simp length-set in
      let b : (i : ℕ) → i < 1153 → word u i ≡ word w i = λ i h. stays i (omega arith) (omega arith) in
      let s = slots-below w u g l b in
      record {
        good = s.0;
        store = λ literals. store-eq s.1 (reading-eq
            (skip (set w 1153 at) 1154 end 1153 (omega arith) ∙ hit w 1153 at (omega (arith, g.whole)))
            (hit (set w 1153 at) 1154 end (simp length-set (omega (arith, g.whole))))) refl;
        size = l;
        outside = λ i h. b i (omega arith);
        behind = λ i h. stays i (omega arith) (omega arith);
      }
