-- The part of a word that leads on, and what stays beside it.
use mathlib.Core.Path.{◌≡◌, sym, ap, ◌∙◌}
use Prim.Native.Nat.{ℕ, ◌+◌, ◌-◌, ◌*◌, ◌/◌, ◌%◌, ◌<◌, ◌^◌}
use native.Mathlib.Omega.{arith}
use Rattle.laws.specs.Facts.{by-eq}
use Rattle.write_literals.specs.Words.{lane, relinked}

side-or : {P : Type 0} (side : ℕ) → side < 2 → (side ≡ 0 → P) → (side ≡ 1 → P) → P
side-or side h f g = by-eq side 0 f (λ d. g (omega arith))

low : (x : ℕ) → lane 0 x ≡ x % 8192
low x = omega arith

relinked-low : (x v : ℕ) → relinked 0 x v ≡ x - x % 8192 + v
unfolding relinked
relinked-low x v = omega arith

relinked-high : (x v : ℕ) → relinked 1 x v ≡ x - 65536 * (x / 65536 % 8192) + 65536 * v
unfolding relinked
relinked-high x v = omega arith

low-new : (x v : ℕ) → v < 8192 → (x - x % 8192 + v) % 8192 ≡ v
low-new x v h = omega arith

low-above : (x v : ℕ) → v < 8192 → (x - x % 8192 + v) / 8192 ≡ x / 8192
low-above x v h = omega arith

-- the upper part alone changes
high_part : (x v : ℕ) → (x - 65536 * (x / 65536 % 8192) + 65536 * v) / 65536 ≡ x / 65536 - x / 65536 % 8192 + v
high_part x v = omega arith

high-below : (x v : ℕ) → (x - 65536 * (x / 65536 % 8192) + 65536 * v) % 65536 ≡ x % 65536
high-below x v = omega arith

low_small : (x v : ℕ) → v < 8192 → x < 2 ^ 32 → x - x % 8192 + v < 2 ^ 32
low_small x v h l = omega arith

high_small : (x v : ℕ) → v < 8192 → x < 2 ^ 32 → x - 65536 * (x / 65536 % 8192) + 65536 * v < 2 ^ 32
high_small x v h l = omega arith

low-of-high : (x y : ℕ) → x % 65536 ≡ y % 65536 → x % 8192 ≡ y % 8192
low-of-high x y e = omega arith

high-of-low : (x y : ℕ) → x / 8192 ≡ y / 8192 → x / 65536 ≡ y / 65536
high-of-low x y e = omega arith

module _ (side x v : ℕ) (hs : side < 2) (hv : v < 8192) where
  pub lane-new : lane side (relinked side x v) ≡ v
  lane-new = side-or side hs
      (λ e. rw e (low (relinked 0 x v) ∙ ap (λ (n : ℕ). n % 8192) (relinked-low x v) ∙ low-new x v hv))
      (λ e. rw e (ap (λ (n : ℕ). n / 65536 % 8192) (relinked-high x v) ∙ ap (λ (n : ℕ). n % 8192) (high_part x v) ∙ low-new (x / 65536) v hv))

  pub lane-other : (other : ℕ) → other < 2 → (other ≡ side → ⊥) → lane other (relinked side x v) ≡ lane other x
  lane-other other ho d = side-or side hs
      (λ e. let o : other ≡ 1 = omega arith in
      rw (e, o) (ap (λ (n : ℕ). n / 65536 % 8192) (relinked-low x v) ∙ ap (λ (n : ℕ). n % 8192) (high-of-low (x - x % 8192 + v) x (low-above x v hv))))
      (λ e. let o : other ≡ 0 = omega arith in
      rw (e, o) (low (relinked 1 x v) ∙ ap (λ (n : ℕ). n % 8192) (relinked-high x v) ∙ low-of-high (x - 65536 * (x / 65536 % 8192) + 65536 * v) x (high-below x v) ∙ sym (low x)))

  pub relinked-small : x < 2 ^ 32 → relinked side x v < 2 ^ 32
  relinked-small l = side-or side hs
      (λ e. rw (e, relinked-low x v) (low_small x v hv l))
      (λ e. rw (e, relinked-high x v) (high_small x v hv l))

pub above_same : (x v : ℕ) → v < 8192 → relinked 0 x v / 8192 ≡ x / 8192
above_same x v h = ap (λ (n : ℕ). n / 8192) (relinked-low x v) ∙ low-above x v h
