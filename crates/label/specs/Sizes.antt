-- The size of a label from the count of leading zero bits: the formula gives the count of bytes that the seven-bit rule writes.
use Rattle.std.specs.Prelude.{◌≡◌, ℕ, zero, suc, ◌+◌, ◌-◌, ◌*◌, ◌/◌, ◌^◌, ◌<◌, ◌≤◌, length}
use Rattle.std.proofs.Math.Path.{sym}
use Rattle.std.proofs.Common.{ap, ◌∙◌, pow-add, pow_mono}
use native.Mathlib.Omega.{arith}
use Rattle.std.specs.Int.Count.{count_leading_zeros, leading_length}
use Rattle.format.specs.Label.{zigzag, septets, varint, label, size_of_zeros, Signed64}
use Rattle.format.specs.Claims.{LabelSizes}
use Rattle.laws.specs.Facts.{by-lt}
use Rattle.label.specs.Laws.{septets-small, septets-big}

-- a number of m bits, and not of fewer, takes a byte for each seven of them, a part of seven counted whole
septets-size : (k z m : ℕ) → z < 2 ^ m → 2 ^ m ≤ 2 * z + 1 → 1 ≤ m → m ≤ 7 * suc k → length (septets (suc k) z) ≡ 1 + (m - 1) / 7
septets-size zero z m h l a b =
    let few : 2 ^ m ≤ 2 ^ 7 = pow_mono {i = m} {j = 7} (omega arith) in
    rw (septets-small zero {z = z} (omega arith)) (omega arith)
septets-size (suc k) z m h l a b = by-lt z 128
    (λ c. by-lt m 8
    (λ d. rw (septets-small (suc k) c) (omega arith))
    (λ d. let many : 2 ^ 8 ≤ 2 ^ m = pow_mono {i = 8} {j = m} d in absurd (omega arith)))
    (λ c. by-lt m 8
    (λ d. let few : 2 ^ m ≤ 2 ^ 7 = pow_mono {i = m} {j = 7} (omega arith) in absurd (omega arith))
    (λ d.
    let seven : 7 + (m - 7) ≡ m = omega arith in
    let parts : 2 ^ m ≡ 128 * 2 ^ (m - 7) = ap (λ i. 2 ^ i) (sym seven) ∙ pow-add 2 7 (m - 7) in
    let ih = septets-size k (z / 128) (m - 7) (omega arith) (omega arith) (omega arith) (omega arith) in
    rw (septets-big (suc k) c) (omega (arith, ih))))

formula : (m leading : ℕ) → leading + m ≡ 64 → 1 ≤ m → size_of_zeros leading ≡ 1 + (m - 1) / 7
unfolding size_of_zeros
formula m leading e h = omega arith

-- 0 has no bit that is set
no_bits : (leading : ℕ) → leading ≡ 64 → size_of_zeros leading ≡ 1
unfolding size_of_zeros
no_bits leading e = omega arith

module _ (z : ℕ) (h : z < 2 ^ 64) where
  pub zeros-most : count_leading_zeros 64 z ≤ 64
  zeros-most = let (m, e, below, least) = leading_length 64 z h in omega arith

  pub varint-sizes : size_of_zeros (count_leading_zeros 64 z) ≡ length (varint z)
  unfolding varint
  varint-sizes =
      let (m, e, below, least) = leading_length 64 z h in
      by-lt 0 m
      (λ a. formula m (count_leading_zeros 64 z) e a ∙ sym (septets-size 9 z m below least a (omega arith)))
      (λ a.
      let none : m ≡ 0 = omega arith in
      let nil : z < 1 = rw none at below in
      no_bits (count_leading_zeros 64 z) (omega arith) ∙ sym (ap length (septets-small 9 {z = z} (omega arith))))

pub label-sizes : LabelSizes
unfolding Signed64 label
label-sizes n h = varint-sizes (zigzag n) h
