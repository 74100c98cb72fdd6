-- Lists and sums made by a rule.
use Rattle.std.specs.Prelude.{◌≡◌, get_or, replicate}
use Rattle.std.proofs.Math.Path.{refl, ap, ap₂}
use mathlib.Core.List.{List, [], ◌∷◌, ◌++◌}
use Rattle.std.proofs.Math.Option.{some}
use Prim.Native.Nat.{ℕ, zero, suc, ◌+◌, ◌*◌, ◌/◌, ◌<◌, ◌≤◌}
use Rattle.std.proofs.Common.{arith}
use Rattle.std.proofs.Math.ListN.{length}
use Rattle.format.specs.Read.{nth, add_at, total}

-- f 0, f 1, and so on, n of them
unfoldable pub upto : {A : Type 0} → (ℕ → A) → ℕ → List A
upto f zero = []
upto f (suc n) = f 0 ∷ upto (λ i. f (suc i)) n

unfoldable pub sum_to : (ℕ → ℕ) → ℕ → ℕ
sum_to f zero = 0
sum_to f (suc n) = f 0 + sum_to (λ i. f (suc i)) n

module _ {A : Type 0} where
  pub upto-length : (f : ℕ → A) (n : ℕ) → length (upto f n) ≡ n
  unfolding upto
  upto-length f zero = refl
  upto-length f (suc n) = ap suc (upto-length (λ i. f (suc i)) n)

  pub upto-get_or : (f : ℕ → A) (n j : ℕ) (d : A) → j < n → get_or (upto f n) j d ≡ f j
  unfolding upto
  upto-get_or f zero j d h = absurd (omega arith)
  upto-get_or f (suc n) zero d h = refl
  upto-get_or f (suc n) (suc j) d h = upto-get_or (λ i. f (suc i)) n j d (omega arith)

  pub upto-nth : (f : ℕ → A) (n j : ℕ) → j < n → nth (upto f n) j ≡ some (f j)
  unfolding upto nth
  upto-nth f zero j h = absurd (omega arith)
  upto-nth f (suc n) zero h = refl
  upto-nth f (suc n) (suc j) h = upto-nth (λ i. f (suc i)) n j (omega arith)

  pub upto-ext : (f g : ℕ → A) (n : ℕ) → ((j : ℕ) → j < n → f j ≡ g j) → upto f n ≡ upto g n
  unfolding upto
  upto-ext f g zero h = refl
  upto-ext f g (suc n) h = ap₂ (λ (x : A) (xs : List A). x ∷ xs) (h 0 (omega arith)) (upto-ext (λ i. f (suc i)) (λ i. g (suc i)) n (λ j b. h (suc j) (omega arith)))

  pub upto_snoc : (f : ℕ → A) (n : ℕ) → upto f (suc n) ≡ upto f n ++ f n ∷ []
  unfolding upto
  upto_snoc f zero = refl
  upto_snoc f (suc n) = ap (λ (xs : List A). f 0 ∷ xs) (upto_snoc (λ i. f (suc i)) n)

  pub upto-replicate : (a : A) (n : ℕ) → upto (λ i. a) n ≡ replicate n a
  unfolding upto
  upto-replicate a zero = refl
  upto-replicate a (suc n) = ap (λ (xs : List A). a ∷ xs) (upto-replicate a n)

module _ {A : Type 0} where
  -- list k has one more at its end, and the others are as they were
  pub upto-add_at : (f g : ℕ → List A) (n k : ℕ) (x : A) → k < n → g k ≡ f k ++ x ∷ [] → ((j : ℕ) → j < n → (j ≡ k → ⊥) → g j ≡ f j) → upto g n ≡ add_at k x (upto f n)
  unfolding upto add_at
  upto-add_at f g zero k x h e o = absurd (omega arith)
  upto-add_at f g (suc n) zero x h e o = ap₂ (λ (y : List A) (ys : List (List A)). y ∷ ys) e (upto-ext (λ i. g (suc i)) (λ i. f (suc i)) n (λ j b. o (suc j) (omega arith) (λ z. omega arith)))
  upto-add_at f g (suc n) (suc k) x h e o = ap₂ (λ (y : List A) (ys : List (List A)). y ∷ ys) (o 0 (omega arith) (λ z. omega arith))
      (upto-add_at (λ i. f (suc i)) (λ i. g (suc i)) n k x (omega arith) e (λ j b z. o (suc j) (omega arith) (λ y. z (omega arith))))

  pub upto-total : (f : ℕ → List A) (n : ℕ) → total (upto f n) ≡ sum_to (λ i. length (f i)) n
  unfolding upto sum_to total
  upto-total f zero = refl
  upto-total f (suc n) = ap (λ (t : ℕ). length (f 0) + t) (upto-total (λ i. f (suc i)) n)

pub sum-ext : (f g : ℕ → ℕ) (n : ℕ) → ((j : ℕ) → j < n → f j ≡ g j) → sum_to f n ≡ sum_to g n
unfolding sum_to
sum-ext f g zero h = refl
sum-ext f g (suc n) h = ap₂ (λ (a b : ℕ). a + b) (h 0 (omega arith)) (sum-ext (λ i. f (suc i)) (λ i. g (suc i)) n (λ j b. h (suc j) (omega arith)))

pub sum-zero : (n : ℕ) → sum_to (λ i. 0) n ≡ 0
unfolding sum_to
sum-zero zero = refl
sum-zero (suc n) = omega (arith, sum-zero n)

pub sum-snoc : (f : ℕ → ℕ) (n : ℕ) → sum_to f (suc n) ≡ sum_to f n + f n
unfolding sum_to
sum-snoc f zero = omega arith
sum-snoc f (suc n) = omega (arith, sum-snoc (λ i. f (suc i)) n)

pub sum-ge : (f : ℕ → ℕ) (n k : ℕ) → k < n → f k ≤ sum_to f n
unfolding sum_to
sum-ge f zero k h = absurd (omega arith)
sum-ge f (suc n) zero h = omega arith
sum-ge f (suc n) (suc k) h = let i = sum-ge (λ i. f (suc i)) n k (omega arith) in omega arith

-- more by d at k alone
pub sum-at : (f g : ℕ → ℕ) (n k d : ℕ) → k < n → g k ≡ f k + d → ((j : ℕ) → j < n → (j ≡ k → ⊥) → g j ≡ f j) → sum_to g n ≡ sum_to f n + d
unfolding sum_to
sum-at f g zero k d h e o = absurd (omega arith)
sum-at f g (suc n) zero d h e o =
    let i = sum-ext (λ i. g (suc i)) (λ i. f (suc i)) n (λ j b. o (suc j) (omega arith) (λ z. omega arith)) in
    omega arith
sum-at f g (suc n) (suc k) d h e o =
    let i = sum-at (λ i. f (suc i)) (λ i. g (suc i)) n k d (omega arith) e (λ j b z. o (suc j) (omega arith) (λ y. z (omega arith))) in
    omega (arith, o 0 (omega arith) (λ z. omega arith))

-- of numbers that are at most 1
pub sum-most : (f : ℕ → ℕ) (n : ℕ) → ((j : ℕ) → f j ≤ 1) → sum_to f n ≤ n
unfolding sum_to
sum-most f zero b = omega arith
sum-most f (suc n) b = let i = sum-most (λ i. f (suc i)) n (λ j. b (suc j)) in omega (arith, b 0)

-- and 0 at k
pub sum_room : (f : ℕ → ℕ) (n k : ℕ) → ((j : ℕ) → f j ≤ 1) → k < n → f k ≡ 0 → sum_to f n < n
unfolding sum_to
sum_room f zero k b h e = absurd (omega arith)
sum_room f (suc n) zero b h e = let i = sum-most (λ i. f (suc i)) n (λ j. b (suc j)) in omega arith
sum_room f (suc n) (suc k) b h e = let i = sum_room (λ i. f (suc i)) n k (λ j. b (suc j)) (omega arith) e in omega (arith, b 0)

pub sum-pages : (f : ℕ → ℕ) (n : ℕ) → 64 * sum_to (λ k. (f k + 63) / 64) n ≤ sum_to f n + 63 * n
unfolding sum_to
sum-pages f zero = omega arith
sum-pages f (suc n) = let i = sum-pages (λ i. f (suc i)) n in omega arith
