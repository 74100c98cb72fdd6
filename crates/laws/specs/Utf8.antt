-- What follows a lead byte.
use Rattle.std.specs.Prelude.{◌≡◌, true, false, cond, [], ◌∷◌, eqb}
use Rattle.std.proofs.Math.Bool.{and-false}
use Rattle.std.proofs.Math.Option.{none, some}
use Prim.Native.Nat.{ℕ, ◌≤◌, ◌<◌, zero-le}
use Rattle.std.proofs.Common.{arith}
use borrow.Author.Tests.{le-leb, lt-leb, ne_eqb}
use Rattle.format.specs.Utf8.{Range, range, tail, forms, within, behind_lead}
use Rattle.laws.specs.Facts.{by-eq, by-lt}

module _ (r : Range) (b : ℕ) where
  pub inside : r.first ≤ b → b ≤ r.last → within r b ≡ true
  unfolding within
  inside h k = simp (le-leb r.first b h, le-leb b r.last k)

  pub below : b < r.first → within r b ≡ false
  unfolding within
  below h = simp (lt-leb r.first b h)

  pub above : r.last < b → within r b ≡ false
  unfolding within
  above h = simp (lt-leb b r.last h, and-false)

-- Between which bytes the one right behind a lead of three bytes or four lies.
unfoldable pub lowest : ℕ → ℕ
lowest b = cond (eqb b 0xe0) 0xa0 (cond (eqb b 0xf0) 0x90 0x80)

unfoldable pub highest : ℕ → ℕ
highest b = cond (eqb b 0xed) 0x9f (cond (eqb b 0xf4) 0x8f 0xbf)

abbrev pub second : ℕ → Range
second b = range (lowest b) (highest b)

module _ (b : ℕ) where
  pub lead-one : b < 0x80 → behind_lead forms b ≡ some []
  unfolding behind_lead
  lead-one h = simp (inside (range 0 0x7f) b zero-le (omega arith))

  pub lead-two : 0xc2 ≤ b → b < 0xe0 → behind_lead forms b ≡ some (tail ∷ [])
  unfolding behind_lead
  lead-two h k = simp (above (range 0 0x7f) b (omega arith), inside (range 0xc2 0xdf) b h (omega arith))

  pub lead-three : 0xe0 ≤ b → b < 0xf0 → behind_lead forms b ≡ some (second b ∷ tail ∷ [])
  unfolding behind_lead within lowest highest
  lead-three h k = by-eq b 0xe0 (λ e. rw e) (λ d. by-eq b 0xed (λ e. rw e) (λ d'.
      by-lt b 0xed
      (λ l. simp (above (range 0 0x7f) b (omega arith), above (range 0xc2 0xdf) b (omega arith), above (range 0xe0 0xe0) b (omega arith), inside (range 0xe1 0xec) b (omega arith) (omega arith), ne_eqb b 0xe0 d, ne_eqb b 0xed d', ne_eqb b 0xf0 (omega arith), ne_eqb b 0xf4 (omega arith)))
      (λ l. simp (above (range 0 0x7f) b (omega arith), above (range 0xc2 0xdf) b (omega arith), above (range 0xe0 0xe0) b (omega arith), above (range 0xe1 0xec) b (omega arith), above (range 0xed 0xed) b (omega arith), inside (range 0xee 0xef) b (omega arith) (omega arith), ne_eqb b 0xe0 d, ne_eqb b 0xed d', ne_eqb b 0xf0 (omega arith), ne_eqb b 0xf4 (omega arith)))))

  pub lead-four : 0xf0 ≤ b → b < 0xf5 → behind_lead forms b ≡ some (second b ∷ tail ∷ tail ∷ [])
  unfolding behind_lead within lowest highest
  lead-four h k = by-eq b 0xf0 (λ e. rw e) (λ d. by-eq b 0xf4 (λ e. rw e) (λ d'.
      simp (above (range 0 0x7f) b (omega arith), above (range 0xc2 0xdf) b (omega arith), above (range 0xe0 0xe0) b (omega arith), above (range 0xe1 0xec) b (omega arith), above (range 0xed 0xed) b (omega arith), above (range 0xee 0xef) b (omega arith), above (range 0xf0 0xf0) b (omega arith), inside (range 0xf1 0xf3) b (omega arith) (omega arith), ne_eqb b 0xf0 d, ne_eqb b 0xf4 d', ne_eqb b 0xe0 (omega arith), ne_eqb b 0xed (omega arith))))

  -- a byte that leads nothing
  pub lead-tail : 0x80 ≤ b → b < 0xc2 → behind_lead forms b ≡ none
  unfolding behind_lead
  lead-tail h k = simp (above (range 0 0x7f) b (omega arith), below (range 0xc2 0xdf) b (omega arith), below (range 0xe0 0xe0) b (omega arith), below (range 0xe1 0xec) b (omega arith), below (range 0xed 0xed) b (omega arith), below (range 0xee 0xef) b (omega arith), below (range 0xf0 0xf0) b (omega arith), below (range 0xf1 0xf3) b (omega arith), below (range 0xf4 0xf4) b (omega arith))

  pub lead_high : 0xf5 ≤ b → behind_lead forms b ≡ none
  unfolding behind_lead
  lead_high h = simp (above (range 0 0x7f) b (omega arith), above (range 0xc2 0xdf) b (omega arith), above (range 0xe0 0xe0) b (omega arith), above (range 0xe1 0xec) b (omega arith), above (range 0xed 0xed) b (omega arith), above (range 0xee 0xef) b (omega arith), above (range 0xf0 0xf0) b (omega arith), above (range 0xf1 0xf3) b (omega arith), above (range 0xf4 0xf4) b (omega arith))
