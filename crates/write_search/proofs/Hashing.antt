-- The hash, function by function, and eight bytes at a time.
use mathlib.Core.Path.{◌≡◌, refl, sym, ap, ◌∙◌}
use mathlib.Core.List.{List}
use Prim.Native.Nat.{ℕ, zero, suc, ◌+◌, ◌-◌, ◌*◌, ◌/◌, ◌%◌, ◌<◌, ◌≤◌}
use native.Mathlib.Omega.{arith}
use native.Mathlib.Nat.{add-zero}
use lib.ListN.{length, get_or}
use borrow.Author.Tests.{ne_eqb, lt-ltb, le-ltb}
use Rattle.format.specs.Row.{Place, bytes_at, Text}
use Rattle.laws.specs.Facts.{by-eq, by-lt}
use Rattle.write_search.specs.Hash.{word4, word8, few, spread, mixed, stride, folded, whole, ended, hash}
use Rattle.write_search.specs.Parts.{part_length, part_at}

pub mixed-is : (h w : ℕ) → (31 * h + spread w / 4294967296 + spread w % 4294967296) % 4294967296 ≡ mixed h w
unfolding mixed
mixed-is h w = refl

pub ended_is : (h : ℕ) → h * 3266489917 / 65536 % 134217728 ≡ ended h
unfolding ended
ended_is h = refl

pub stride-long : (size : ℕ) → 64 < size → (size - 8) / 7 ≡ stride size
unfolding stride
stride-long size h = rw (lt-ltb 64 size h)

pub stride-short : (size : ℕ) → size ≤ 64 → 8 ≡ stride size
unfolding stride
stride-short size h = rw (le-ltb 64 size h)

pub word8-is : (v : Text) (i : ℕ) {n : ℕ}
    → n ≡ get_or v i 0 + 256 * get_or v (i + 1) 0 + 65536 * get_or v (i + 2) 0 + 16777216 * get_or v (i + 3) 0 + 4294967296 * get_or v (i + 4) 0
    + 1099511627776 * get_or v (i + 5) 0 + 281474976710656 * get_or v (i + 6) 0 + 72057594037927936 * get_or v (i + 7) 0
    → n ≡ word8 v i
unfolding word8
word8-is v i e =
    let a₁ : i + 4 + 1 ≡ i + 5 = omega arith in
    let a₂ : i + 4 + 2 ≡ i + 6 = omega arith in
    let a₃ : i + 4 + 3 ≡ i + 7 = omega arith in
    rw (a₁, a₂, a₃) (omega (arith, e))

-- h is made of the words of v before i, t of them
pub record FoldedTo (v : Text) (step i h : ℕ) : Type 0 where
  pub t : ℕ
  pub at : i ≡ step * t
  pub few : t ≤ i
  pub inside : t ≤ length v
  pub is : h ≡ folded v step t

pub folded-none : (v : Text) (step : ℕ) → FoldedTo v step 0 0
unfolding folded
folded-none v step = record { t = 0; at = omega arith; few = omega arith; inside = omega arith; is = refl }

-- ---- of a part of the pool

module _ (pool : List ℕ) (p : Place) (inside : p.start + p.size ≤ length pool) where
  abbrev v : Text
  v = bytes_at pool p

  size_is : length v ≡ p.size
  size_is = part_length pool p inside

  byte : (i j : ℕ) → j ≡ p.start + i → i < p.size → get_or pool j 0 ≡ get_or v i 0
  byte i j e h = ap (λ (k : ℕ). get_or pool k 0) e ∙ sym (part_at pool p i h)

  word4-part : (i : ℕ) → i + 4 ≤ p.size → word4 pool (p.start + i) ≡ word4 v i
  word4-part i h = rw (byte i (p.start + i) refl (omega arith), byte (i + 1) (p.start + i + 1) (omega arith) (omega arith), byte (i + 2) (p.start + i + 2) (omega arith) (omega arith), byte (i + 3) (p.start + i + 3) (omega arith) (omega arith))

  pub word8-part : (i : ℕ) → i + 8 ≤ p.size → word8 pool (p.start + i) ≡ word8 v i
  unfolding word8
  word8-part i h =
      let e : p.start + i + 4 ≡ p.start + (i + 4) = omega arith in
      rw (e, word4-part i (omega arith), word4-part (i + 4) (omega arith))

  pub few-none : p.size ≡ 0 → 0 ≡ few v
  unfolding few
  few-none e = rw (size_is, e)

  pub few-short : (p.size ≡ 0 → ⊥) → p.size < 4 → {a b c : ℕ} → a ≡ get_or pool p.start 0 → b ≡ get_or pool (p.start + p.size / 2) 0 → c ≡ get_or pool (p.start + (p.size - 1)) 0 → a + 256 * b + 65536 * c ≡ few v
  unfolding few
  few-short d h ea eb ec =
      rw (size_is, lt-ltb p.size 4 h, ne_eqb p.size 0 d, ea, eb, ec, byte 0 p.start (omega arith) (omega arith), byte (p.size / 2) (p.start + p.size / 2) refl (omega arith), byte (p.size - 1) (p.start + (p.size - 1)) refl (omega arith))

  pub few-more : 4 ≤ p.size → {a b : ℕ} → a ≡ word4 pool p.start → b ≡ word4 pool (p.start + (p.size - 4)) → a + 4294967296 * b ≡ few v
  unfolding few
  few-more h ea eb =
      let z : word4 pool p.start ≡ word4 v 0 = ap (λ (i : ℕ). word4 pool i) (sym (add-zero p.start)) ∙ word4-part 0 (omega arith) in
      rw (size_is, le-ltb p.size 4 h, ea, eb, z, word4-part (p.size - 4) (omega arith))

  pub hash-short : p.size < 8 → {m r : ℕ} → m ≡ mixed 0 (few v) → r ≡ ended m → r ≡ hash v
  unfolding hash
  hash-short h e f = rw (size_is, lt-ltb p.size 8 h) (f ∙ ap ended e)

  pub hash-long : 8 ≤ p.size → {m r : ℕ} → m ≡ whole v → r ≡ ended m → r ≡ hash v
  unfolding hash
  hash-long h e f = rw (size_is, le-ltb p.size 8 h) (f ∙ ap ended e)

  -- one word more
  pub folded_more : {step i h x : ℕ} → FoldedTo v step i h → 0 < step → i + 8 < p.size → x ≡ mixed h (word8 pool (p.start + i)) → FoldedTo v step (i + step) x
  unfolding folded
  folded_more {step} {i} {h} {x} f o l ex =
      let s = size_is in
      let b : step * f.t + 8 < length v = omega (arith, f.at) in
      record {
        t = suc f.t;
        at = omega (arith, f.at);
        few = omega (arith, f.few);
        inside = omega (arith, f.few);
        is = rw (lt-ltb (step * f.t + 8) (length v) b) (ex ∙ rw (f.is, f.at) (ap (λ (y : ℕ). mixed (folded v step f.t) y) (word8-part (step * f.t) (omega (arith, f.at)))));
      }

  -- and no word more
  folded-same : (step t d : ℕ) → p.size ≤ step * t + 8 → folded v step (t + d) ≡ folded v step t
  unfolding folded
  folded-same step t zero h = rw add-zero
  folded-same step t (suc d) h =
      let s = size_is in
      let e : t + suc d ≡ suc (t + d) = omega arith in
      let b : length v ≤ step * (t + d) + 8 = omega arith in
      rw (e, le-ltb (step * (t + d) + 8) (length v) b) (folded-same step t d h)

  pub whole_is : {step i h x : ℕ} → step ≡ stride p.size → FoldedTo v step i h → p.size ≤ i + 8 → 8 ≤ p.size → x ≡ mixed h (word8 pool (p.start + (p.size - 8))) → x ≡ whole v
  unfolding whole
  whole_is {step} {i} {h} {x} es f long enough ex =
      let t : ℕ = f.t in
      let e : t + (p.size - t) ≡ p.size = omega (arith, f.inside, size_is) in
      let y : folded v step p.size ≡ h = ap (λ (n : ℕ). folded v step n) (sym e) ∙ folded-same step t (p.size - t) (omega (arith, f.at)) ∙ sym f.is in
      rw (size_is, ← es, y) (ex ∙ ap (λ (n : ℕ). mixed h n) (word8-part (p.size - 8) (omega arith)))

-- ---- eight at a time

two : (i : ℕ) → (i ≡ 0 → ⊥) → (i ≡ 1 → ⊥) → 2 ≤ i
two i p q = omega arith

more : (i : ℕ) → 2 ≤ i → (i ≡ 2 → ⊥) → (i ≡ 3 → ⊥) → 4 ≤ i
more i h p q = omega arith

most : (i : ℕ) → 4 ≤ i → (i ≡ 4 → ⊥) → (i ≡ 5 → ⊥) → 6 ≤ i
most i h p q = omega arith

last : (i : ℕ) → 6 ≤ i → i < 8 → (i ≡ 6 → ⊥) → i ≡ 7
last i h l p = omega arith

seven : (i : ℕ) → i < 8 → (i ≡ 0 → ⊥) → (i ≡ 1 → ⊥) → (i ≡ 2 → ⊥) → (i ≡ 3 → ⊥) → (i ≡ 4 → ⊥) → (i ≡ 5 → ⊥) → (i ≡ 6 → ⊥) → i ≡ 7
seven i l o₀ o₁ o₂ o₃ o₄ o₅ o₆ =
    last i (most i (more i (two i o₀ o₁) o₂ o₃) o₄ o₅) l o₆

pub eight : (P : ℕ → Type 0) → P 0 → P 1 → P 2 → P 3 → P 4 → P 5 → P 6 → P 7 → (i : ℕ) → i < 8 → P i
eight P a b c d e f g h i l = at i l
  where
    at : (i : ℕ) → i < 8 → P i
    at i l = by-eq i 0 (λ q. rw q a) (λ o₀. by-eq i 1 (λ q. rw q b) (λ o₁. by-eq i 2 (λ q. rw q c) (λ o₂. by-eq i 3 (λ q. rw q d)
        (λ o₃. by-eq i 4 (λ q. rw q e) (λ o₄. by-eq i 5 (λ q. rw q f) (λ o₅. by-eq i 6 (λ q. rw q g) (λ o₆. rw (seven i l o₀ o₁ o₂ o₃ o₄ o₅ o₆) h)))))))

pub alike-more : (pool : List ℕ) (a b from k : ℕ) → ((i : ℕ) → from ≤ i → i < k → get_or pool (a + i) 0 ≡ get_or pool (b + i) 0) → ((i : ℕ) → i < 8 → get_or pool (a + k + i) 0 ≡ get_or pool (b + k + i) 0)
    → (i : ℕ) → from ≤ i → i < k + 8 → get_or pool (a + i) 0 ≡ get_or pool (b + i) 0
alike-more pool a b from k before eight i h l = by-lt i k
    (λ m. before i h m)
    (λ m. let x : a + k + (i - k) ≡ a + i = omega arith in
    let y : b + k + (i - k) ≡ b + i = omega arith in
    rw (x, y) at (eight (i - k) (omega arith)))

-- the lowest byte of two equal numbers, and what stands above it
digit : (a b c d : ℕ) → a < 256 → c < 256 → a + 256 * b ≡ c + 256 * d → (a ≡ c) × (b ≡ d)
digit a b c d h l e = (omega arith, omega arith)

module _ (pool : List ℕ) (bytes : (i : ℕ) → get_or pool i 0 < 256) where
  abbrev at : ℕ → ℕ
  at i = get_or pool i 0

  word4-small : (a : ℕ) → word4 pool a < 4294967296
  word4-small a = omega (arith, bytes a, bytes (a + 1), bytes (a + 2), bytes (a + 3))

  same-four : (a b : ℕ) → word4 pool a ≡ word4 pool b → (at a ≡ at b) × (at (a + 1) ≡ at (b + 1)) × (at (a + 2) ≡ at (b + 2)) × (at (a + 3) ≡ at (b + 3))
  same-four a b e =
      let d₀ = digit (at a) (at (a + 1) + 256 * (at (a + 2) + 256 * at (a + 3))) (at b) (at (b + 1) + 256 * (at (b + 2) + 256 * at (b + 3))) (bytes a) (bytes b) (omega arith) in
      let d₁ = digit (at (a + 1)) (at (a + 2) + 256 * at (a + 3)) (at (b + 1)) (at (b + 2) + 256 * at (b + 3)) (bytes (a + 1)) (bytes (b + 1)) d₀.1 in
      let d₂ = digit (at (a + 2)) (at (a + 3)) (at (b + 2)) (at (b + 3)) (bytes (a + 2)) (bytes (b + 2)) d₁.1 in
      (d₀.0, d₁.0, d₂.0, d₂.1)

  same-halves : (a b : ℕ) → word8 pool a ≡ word8 pool b → (word4 pool a ≡ word4 pool b) × (word4 pool (a + 4) ≡ word4 pool (b + 4))
  unfolding word8
  same-halves a b e = halves (word4 pool a) (word4 pool (a + 4)) (word4 pool b) (word4 pool (b + 4)) (word4-small a) (word4-small b) e
    where
      halves : (m n k l : ℕ) → m < 4294967296 → k < 4294967296 → m + 4294967296 * n ≡ k + 4294967296 * l → (m ≡ k) × (n ≡ l)
      halves m n k l h j e = (omega arith, omega arith)

  pub same-eight : (a b : ℕ) → word8 pool a ≡ word8 pool b → (i : ℕ) → i < 8 → at (a + i) ≡ at (b + i)
  same-eight a b e =
      let h = same-halves a b e in
      let l = same-four a b h.0 in
      let u = same-four (a + 4) (b + 4) h.1 in
      eight (λ i. at (a + i) ≡ at (b + i)) (rw (add-zero a, add-zero b) l.0) l.1 l.2 l.3 u.0 (shift 1 u.1) (shift 2 u.2) (shift 3 u.3)
    where
      shift : (k : ℕ) → at (a + 4 + k) ≡ at (b + 4 + k) → at (a + (4 + k)) ≡ at (b + (4 + k))
      shift k q =
          let x : a + 4 + k ≡ a + (4 + k) = omega arith in
          let y : b + 4 + k ≡ b + (4 + k) = omega arith in
          rw (x, y) at q
