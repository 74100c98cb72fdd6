-- The machine's signed 64-bit numbers, as the code's tests and casts meet them. Assumes nothing.
use Rattle.std.proofs.Common.{◌≡◌, ℕ, ◌+◌, ◌-◌, ◌*◌, ◌^◌, ◌<◌, true, false, T, ℤ, pos, negsuc, refl, sym, subst, arith, w64, SFits, to_z, of_z, leb-false}
use lib.Signed.{le_z}
use mir.ValLaws.{to_z-of_z}
use Rattle.format.specs.Label.{zigzag, word, integer, Signed64}

-- an i64 is a signed 64-bit number
pub i64-signed : (n : ℤ) → SFits w64 n → Signed64 n
unfolding Signed64 zigzag
i64-signed (pos n) f = let z = f.sfits in omega arith
i64-signed (negsuc k) f = let z = f.sfits in omega arith

-- the bits of n, and what bits stand for
pub bits-word : (n : ℤ) → of_z w64 n ≡ word n
unfolding word
bits-word (pos n) = refl
bits-word (negsuc k) = refl

pub bits-integer : (w : ℕ) → to_z w64 w ≡ integer w
unfolding integer
bits-integer w = refl

-- zig-zag from the word
zigzag-upper : (n : ℤ) → le_z (pos 0) n ≡ true → 2 * word n ≡ zigzag n
unfolding word zigzag
zigzag-upper (pos k) h = refl
zigzag-upper (negsuc k) h = absurd (subst T (sym h) tt)

zigzag-below : (n : ℤ) → le_z (pos 0) n ≡ false → SFits w64 n → 2 * (2 ^ 64 - 1 - word n) + 1 ≡ zigzag n
unfolding word zigzag
zigzag-below (pos k) h f = absurd (let z : k < 0 = leb-false 0 k h in omega arith)
zigzag-below (negsuc k) h f = let z = f.sfits in omega arith

module _ (n : ℤ) (f : SFits w64 n) (w : ℕ) (e : w ≡ word (to_z w64 (of_z w64 n))) where
  pub word-upper : le_z (pos 0) (to_z w64 (of_z w64 n)) ≡ true → (2 * w ≡ zigzag n) × Signed64 n
  word-upper h = let b = to_z-of_z w64 n f in (rw (e, b) (zigzag-upper n (rw b at h)), i64-signed n f)

  pub word-below : le_z (pos 0) (to_z w64 (of_z w64 n)) ≡ false → (2 * (2 ^ 64 - 1 - w) + 1 ≡ zigzag n) × Signed64 n
  word-below h = let b = to_z-of_z w64 n f in (rw (e, b) (zigzag-below n (rw b at h) f), i64-signed n f)
