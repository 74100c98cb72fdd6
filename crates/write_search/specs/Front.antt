-- What the search for a text learns on its way, and keeps with the text for the searches after it.
--
-- The texts of a key are looked through in order. Bytes are compared only with a text of the same length whose own search had come to the same point, its front: it may be equal, and shares the first bytes that are known already, so that they are not compared again. Before the first, it is one with the same hash. Equal texts have equal fronts, so that no other text can be equal. A search for n bytes among m texts compares n + 2 * m bytes at most, whatever the texts have in common (`Compared`), and follows two links at most for each literal that there is (`Walked`).
use Rattle.std.proofs.Math.Path.{◌≡◌, refl, sym}
use Rattle.std.proofs.Common.{ap, ◌∙◌}
use Rattle.std.specs.Prelude.{Bool, ◌&&◌, ◌||◌, eqb, ltb}
use Rattle.std.proofs.Math.Bool.{true, false, cond}
use mathlib.Core.List.{List, [], ◌∷◌, ◌++◌}
use Prim.Native.Nat.{ℕ, zero, suc, ◌+◌, ◌-◌, ◌*◌, ◌/◌, ◌%◌, ◌<◌, ◌≤◌}
use native.Mathlib.Omega.{arith}
use Rattle.std.proofs.Math.Dec.{leb}
use Rattle.std.proofs.Math.ListN.{length, get_or, get_or-append}
use borrow.Author.Tests.{eq-eqb, ne_eqb, eqb-true, lt-ltb, le-ltb, lt-leb, le-leb}
use Rattle.format.specs.Row.{Text}
use Rattle.format.specs.Write.{same_text}
use Rattle.laws.specs.Facts.{by_bool, by-eq, by-lt, and-true}
use Rattle.write_search.specs.Hash.{hash}

-- How many first bytes two texts have in common.
unfoldable pub common : Text → Text → ℕ
common [] b = 0
common (x ∷ a) [] = 0
common (x ∷ a) (y ∷ b) = cond (eqb x y) (suc (common a b)) 0

-- The text whose bytes were compared last, and how many of its first bytes were equal, in pairs: 15 bits are enough for them. Of a text that was compared with none, both have bits of its hash, and `pairs` is marked by one bit more.
pub record Front : Type 0 where
  pub near : ℕ
  pub pairs : ℕ

-- how many first bytes are known to be equal, with so many pairs
unfoldable pub known : ℕ → ℕ
known pairs = cond (ltb pairs 65536) (2 * pairs) 0

-- whether a text of n bytes with the front f may equal one of m bytes with the front g
unfoldable pub alike : ℕ → Front → ℕ → Front → Bool
alike n f m g = eqb m n && (eqb g.near f.near && eqb g.pairs f.pairs)

-- the front f of v behind text j, which is u and has the front g
unfoldable pub met : Text → ℕ → Text → Front → Front → Front
met v j u f g = cond (alike (length v) f (length u) g) (record { near = j; pairs = common v u / 2 }) f

-- The front of a text behind the first j texts. Before any is compared, its hash is all that is known. Behind one that equals it, nothing is looked for any more: `pairs` has another mark, and `near` is the text just before, so that no two such fronts of a key are equal.
unfoldable pub front : Text → List Text → ℕ → Front
front v ts zero = record { near = hash v % 4096; pairs = 65536 + hash v / 4096 }
front v ts (suc j) = cond (same_text v (get_or ts j []) || leb 98304 (front v ts j).pairs) (record { near = j; pairs = 98304 }) (met v j (get_or ts j []) (front v ts j) (front (get_or ts j []) ts j))

-- ---- laws

pub known_is : (pairs : ℕ) → pairs < 65536 → known pairs ≡ 2 * pairs
unfolding known
known_is pairs h = rw (lt-ltb pairs 65536 h)

pub known-none : (pairs : ℕ) → 65536 ≤ pairs → known pairs ≡ 0
unfolding known
known-none pairs h = rw (le-ltb pairs 65536 h)

pub known-most : (pairs : ℕ) → known pairs ≤ 2 * pairs
known-most pairs = by-lt pairs 65536 (λ h. omega (arith, known_is pairs h)) (λ h. omega (arith, known-none pairs h))

pub common-short : (a b : Text) → common a b ≤ length a
unfolding common
common-short [] b = omega arith
common-short (x ∷ a) [] = omega arith
common-short (x ∷ a) (y ∷ b) = go (eqb x y) (common-short a b)
  where
    go : (t : Bool) → common a b ≤ length a → cond t (suc (common a b)) 0 ≤ suc (length a)
    go true h = omega arith
    go false h = omega arith

common-agrees : (a b : Text) (i : ℕ) → i < common a b → get_or a i 0 ≡ get_or b i 0
unfolding common
common-agrees [] b i h = absurd (omega arith)
common-agrees (x ∷ a) [] i h = absurd (omega arith)
common-agrees (x ∷ a) (y ∷ b) zero h = go (eqb x y) refl h
  where
    go : (t : Bool) → eqb x y ≡ t → 0 < cond t (suc (common a b)) 0 → x ≡ y
    go true e l = eqb-true x y e
    go false e l = absurd (omega arith)
common-agrees (x ∷ a) (y ∷ b) (suc i) h = common-agrees a b i (go (eqb x y) h)
  where
    go : (t : Bool) → suc i < cond t (suc (common a b)) 0 → i < common a b
    go true l = omega arith
    go false l = absurd (omega arith)

-- two texts that agree up to k, and differ there
pub common-is : (a b : Text) (k : ℕ) → k < length a → k < length b → ((i : ℕ) → i < k → get_or a i 0 ≡ get_or b i 0) → (get_or a k 0 ≡ get_or b k 0 → ⊥) → common a b ≡ k
unfolding common
common-is [] b k h l same d = absurd (omega arith)
common-is (x ∷ a) [] k h l same d = absurd (omega arith)
common-is (x ∷ a) (y ∷ b) zero h l same d = rw (ne_eqb x y d)
common-is (x ∷ a) (y ∷ b) (suc k) h l same d = rw (eq-eqb x y (same 0 (omega arith))) (ap suc (common-is a b k (omega arith) (omega arith) (λ i z. same (suc i) (omega arith)) d))

module _ (ts : List Text) where
  front-next : (P : Front → Type 0) (v : Text) (j : ℕ) → P (record { near = j; pairs = 98304 }) → P (met v j (get_or ts j []) (front v ts j) (front (get_or ts j []) ts j)) → P (front v ts (suc j))
  unfolding front
  front-next P v j a b = by_bool (same_text v (get_or ts j []) || leb 98304 (front v ts j).pairs) (λ e. rw e a) (λ e. rw e b)

  -- as long as no text was equal
  pub front-on : (v : Text) (j : ℕ) → same_text v (get_or ts j []) ≡ false → (front v ts j).pairs < 98304 → front v ts (suc j) ≡ met v j (get_or ts j []) (front v ts j) (front (get_or ts j []) ts j)
  unfolding front
  front-on v j e h = rw (e, lt-leb 98304 (front v ts j).pairs h)

  front-repeat : (v : Text) (j : ℕ) → same_text v (get_or ts j []) ≡ true → front v ts (suc j) ≡ record { near = j; pairs = 98304 }
  unfolding front
  front-repeat v j e = rw e

  front-stays : (v : Text) (j : ℕ) → 98304 ≤ (front v ts j).pairs → front v ts (suc j) ≡ record { near = j; pairs = 98304 }
  unfolding front
  front-stays v j h = rw (le-leb 98304 (front v ts j).pairs h) (go (same_text v (get_or ts j [])))
    where
      go : (t : Bool) → cond (t || true) (record { near = j; pairs = 98304 }) (met v j (get_or ts j []) (front v ts j) (front (get_or ts j []) ts j)) ≡ record { near = j; pairs = 98304 }
      go true = refl
      go false = refl

  -- behind an equal text
  pub front-again : (v : Text) (m j : ℕ) → m < j → same_text v (get_or ts m []) ≡ true → front v ts j ≡ record { near = j - 1; pairs = 98304 }
  front-again v m zero h e = absurd (omega arith)
  front-again v m (suc j) h e = by-eq m j
      (λ q. front-repeat v j (rw q at e) ∙ just)
      (λ d. front-stays v j (let i = ap (λ (f : Front). f.pairs) (front-again v m j (omega arith) e) in omega arith) ∙ just)
    where
      just : ◌≡◌ {A = Front} (record { near = j; pairs = 98304 }) (record { near = suc j - 1; pairs = 98304 })
      just = let z : suc j - 1 ≡ j = omega arith in rw z

  pub front-short : (v : Text) (j : ℕ) → known (front v ts j).pairs ≤ length v
  unfolding front met
  front-short v zero = omega (arith, known-none (65536 + hash v / 4096) (omega arith))
  front-short v (suc j) = front-next (λ f. known f.pairs ≤ length v) v j (omega (arith, known-none 98304 (omega arith))) (go (alike (length v) (front v ts j) (length (get_or ts j [])) (front (get_or ts j []) ts j)) (front-short v j))
    where
      go : (t : Bool) → known (front v ts j).pairs ≤ length v → known (cond t (record { near = j; pairs = common v (get_or ts j []) / 2 }) (front v ts j)).pairs ≤ length v
      go true h = omega (arith, common-short v (get_or ts j []), known-most (common v (get_or ts j []) / 2))
      go false h = h

  -- the first bytes are those of the text that was compared last
  front-agrees : (v : Text) (j i : ℕ) → i < known (front v ts j).pairs → get_or v i 0 ≡ get_or (get_or ts (front v ts j).near []) i 0
  unfolding front met
  front-agrees v zero i h = absurd (omega (arith, known-none (65536 + hash v / 4096) (omega arith)))
  front-agrees v (suc j) i h = front-next (λ f. i < known f.pairs → get_or v i 0 ≡ get_or (get_or ts f.near []) i 0) v j (λ l. absurd (omega (arith, known-none 98304 (omega arith)))) (go (alike (length v) (front v ts j) (length (get_or ts j [])) (front (get_or ts j []) ts j)) (front-agrees v j i)) h
    where
      Agrees : Front → Type 0
      Agrees f = i < known f.pairs → get_or v i 0 ≡ get_or (get_or ts f.near []) i 0

      go : (t : Bool) → Agrees (front v ts j) → Agrees (cond t (record { near = j; pairs = common v (get_or ts j []) / 2 }) (front v ts j))
      go true h l = common-agrees v (get_or ts j []) i (omega (arith, known-most (common v (get_or ts j []) / 2)))
      go false h l = h l

  -- later texts do not matter
  pub front-before : (x : Text) (v : Text) (j : ℕ) → j ≤ length ts → front v (ts ++ x ∷ []) j ≡ front v ts j
  unfolding front
  front-before x v zero h = refl
  front-before x v (suc j) h = rw (get_or-append ts (x ∷ []) [] j (omega arith), front-before x v j (omega arith), front-before x (get_or ts j []) j (omega arith))

  module _ (v u : Text) (j : ℕ) where
    abbrev may_equal : Bool
    may_equal = alike (length v) (front v ts j) (length u) (front u ts j)

    pub alike-length : may_equal ≡ true → length u ≡ length v
    unfolding alike
    alike-length e = eqb-true _ _ (and-true _ _ e).0

    alike-near : may_equal ≡ true → (front u ts j).near ≡ (front v ts j).near
    unfolding alike
    alike-near e = eqb-true _ _ (and-true _ _ (and-true (eqb (length u) (length v)) _ e).1).0

    alike-pairs : may_equal ≡ true → (front u ts j).pairs ≡ (front v ts j).pairs
    unfolding alike
    alike-pairs e = eqb-true _ _ (and-true (eqb (front u ts j).near (front v ts j).near) _ (and-true (eqb (length u) (length v)) _ e).1).1

    pub alike-agrees : may_equal ≡ true → (i : ℕ) → i < known (front v ts j).pairs → get_or u i 0 ≡ get_or v i 0
    alike-agrees e i h =
        let n = alike-near e in
        let p = alike-pairs e in
        front-agrees u j i (rw p h) ∙ ap (λ (k : ℕ). get_or (get_or ts k []) i 0) n ∙ sym (front-agrees v j i h)

    -- equal texts have equal fronts
    pub unlike : may_equal ≡ false → v ≡ u → ⊥
    unfolding alike
    unlike e q =
        let t : may_equal ≡ true = rw (q, eq-eqb (length u) (length u) refl, eq-eqb (front u ts j).near (front u ts j).near refl, eq-eqb (front u ts j).pairs (front u ts j).pairs refl) in
        let z : ◌≡◌ {A = Bool} true false = sym t ∙ e in
        let y : ◌≡◌ {A = ℕ} 0 1 = cc in omega arith

    pub front-met : get_or ts j [] ≡ u → same_text v u ≡ false → (front v ts j).pairs < 98304 → may_equal ≡ true → front v ts (suc j) ≡ record { near = j; pairs = common v u / 2 }
    unfolding met
    front-met g s h e = front-on v j (rw g s) h ∙ rw (g, e)

    pub front-passed : get_or ts j [] ≡ u → same_text v u ≡ false → (front v ts j).pairs < 98304 → may_equal ≡ false → front v ts (suc j) ≡ front v ts j
    unfolding met
    front-passed g s h e = front-on v j (rw g s) h ∙ rw (g, e)
