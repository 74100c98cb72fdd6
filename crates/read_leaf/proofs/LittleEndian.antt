-- Eight bytes, little-endian. Assumes nothing.
use mathlib.Core.Path.{◌≡◌, refl}
use mathlib.Core.List.{List}
use Prim.Native.Nat.{ℕ, suc, ◌+◌, ◌*◌, ◌<◌, ◌≤◌}
use native.Mathlib.Nat.{add-zero}
use native.Mathlib.Omega.{arith}
use lib.ListN.{length, get_or, take, drop}
use lib.Seq.{drop-cons}
use Rattle.format.specs.Read.{little_endian}

module _ (m : List ℕ) (at : ℕ) where
  -- the number in k bytes from at + i on
  number : ℕ → ℕ → ℕ
  number k i = little_endian (take k (drop (at + i) m))

  first : (k i : ℕ) → at + i < length m → number (suc k) i ≡ get_or m (at + i) 0 + 256 * number k (suc i)
  unfolding number little_endian
  first k i h =
      let e : suc (at + i) ≡ at + suc i = omega arith in
      rw (drop-cons m (at + i) 0 h, e)

  none : (i : ℕ) → number 0 i ≡ 0
  unfolding number little_endian
  none i = refl

  start : (k : ℕ) → little_endian (take k (drop at m)) ≡ number k 0
  unfolding number
  start k = rw add-zero

  pub word-is : at + 8 ≤ length m → {n : ℕ}
      → n ≡ get_or m at 0 + 256 * get_or m (at + 1) 0 + 65536 * get_or m (at + 2) 0 + 16777216 * get_or m (at + 3) 0 + 4294967296 * get_or m (at + 4) 0
      + 1099511627776 * get_or m (at + 5) 0 + 281474976710656 * get_or m (at + 6) 0 + 72057594037927936 * get_or m (at + 7) 0
      → n ≡ little_endian (take 8 (drop at m))
  word-is h e =
      let z : at + 0 ≡ at = add-zero at in
      let s₀ : number 8 0 ≡ get_or m at 0 + 256 * number 7 1 = rw z at (first 7 0 (omega arith)) in
      omega (
        arith,
        e,
        start 8,
        s₀,
        first 6 1 (omega arith),
        first 5 2 (omega arith),
        first 4 3 (omega arith),
        first 3 4 (omega arith),
        first 2 5 (omega arith),
        first 1 6 (omega arith),
        first 0 7 (omega arith),
        none 8,
      )
