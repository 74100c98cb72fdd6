-- The literals of a key among those of all keys, and where links stand.
use mathlib.Core.Path.{◌≡◌, refl, ap}
use mathlib.Core.Bool.{cond}
use mathlib.Core.List.{List, [], ◌∷◌, ◌++◌}
use mathlib.Core.Option.{some, some-injective}
use Prim.Native.Nat.{ℕ, zero, suc, ◌+◌, ◌*◌, ◌/◌, ◌%◌, ◌<◌, ◌≤◌}
use native.Mathlib.Omega.{arith}
use lib.Dec.{eqb}
use lib.ListN.{length}
use borrow.Author.Tests.{eq-eqb, ne_eqb}
use Rattle.format.specs.Read.{nth}
use Rattle.laws.specs.Facts.{by-eq}
use Rattle.store.specs.Words.{word}
use Rattle.write_literals.specs.Store.{Literal}
use Rattle.write_literals.specs.Words.{literal_at, key_at, bucket, key_literals, link_at, lane, head_of, link_of}

pub bucket-small : (k s : ℕ) → bucket k s < 4096
unfolding bucket
bucket-small k s = omega arith

pub bucket-is : (k s : ℕ) → (s / 131072 + 977 * (s % 131072) + 131 * k) % 4096 ≡ bucket k s
unfolding bucket
bucket-is k s = refl

pub link-first : (b : ℕ) → link_at b 0 ≡ 2048 + b / 2
unfolding link_at
link-first b = refl

pub link-next : (b i : ℕ) → 0 < i → link_at b i ≡ 4095 + 3 * i
unfolding link_at
link-next b zero h = absurd (omega arith)
link-next b (suc g) h = omega arith

pub link-in : (b i t : ℕ) → b < 4096 → i ≤ t → (2048 ≤ link_at b i) × (link_at b i < 4096 + 3 * t)
unfolding link_at
link-in b zero t h l = omega arith
link-in b (suc g) t h l = omega arith

pub leads-first : (w : List ℕ) (b : ℕ) → link_of w b 0 ≡ head_of w b (lane (b % 2) (word w (2048 + b / 2)))
unfolding link_of
leads-first w b = refl

pub leads-next : (w : List ℕ) (b i : ℕ) → 0 < i → link_of w b i ≡ word w (4095 + 3 * i) % 8192
unfolding link_of
leads-next w b zero h = absurd (omega arith)
leads-next w b (suc g) h = let e : 4096 + 3 * g + 2 ≡ 4095 + 3 * suc g = omega arith in rw e (omega arith)

-- ---- the literals of a key

nth-first : {X : Type 0} (xs ys : List X) (m : ℕ) {x : X} → nth xs m ≡ some x → nth (xs ++ ys) m ≡ some x
unfolding nth
nth-first [] ys m e = let z : ◌≡◌ {A = ℕ} 0 1 = cc in absurd (omega arith)
nth-first (y ∷ xs) ys zero e = e
nth-first (y ∷ xs) ys (suc m) e = nth-first xs ys m e

nth_last : {X : Type 0} (xs : List X) (x : X) → nth (xs ++ x ∷ []) (length xs) ≡ some x
unfolding nth
nth_last [] x = refl
nth_last (y ∷ xs) x = nth_last xs x

module _ (w : List ℕ) where
  pub key-literals-more : (k t : ℕ) → key_at w t ≡ k → key_literals w k (suc t) ≡ key_literals w k t ++ literal_at w t ∷ []
  unfolding key_literals
  key-literals-more k t e = rw (eq-eqb (key_at w t) k e)

  pub key-literals-other : (k t : ℕ) → (key_at w t ≡ k → ⊥) → key_literals w k (suc t) ≡ key_literals w k t ++ []
  unfolding key_literals
  key-literals-other k t e = rw (ne_eqb (key_at w t) k e)

  key-literals-still : (k t m : ℕ) {x : Literal} → nth (key_literals w k t) m ≡ some x → nth (key_literals w k (suc t)) m ≡ some x
  unfolding key_literals
  key-literals-still k t m i = nth-first (key_literals w k t) (cond (eqb (key_at w t) k) (literal_at w t ∷ []) []) m i

  -- literal g among those of its key
  pub key-literals-nth : (g t : ℕ) → g < t → nth (key_literals w (key_at w g) t) (length (key_literals w (key_at w g) g)) ≡ some (literal_at w g)
  key-literals-nth g zero h = absurd (omega arith)
  key-literals-nth g (suc t) h = by-eq g t
      (λ e. rw (e, key-literals-more (key_at w t) t refl) (nth_last (key_literals w (key_at w t) t) (literal_at w t)))
      (λ d. key-literals-still (key_at w g) t (length (key_literals w (key_at w g) g)) (key-literals-nth g t (omega arith)))

-- literal m of the key is literal g of all
pub record From (w : List ℕ) (k t m : ℕ) (x : Literal) : Type 0 where
  pub g : ℕ
  pub below : g < t
  pub owned : key_at w g ≡ k
  pub number : m ≡ length (key_literals w k g)
  pub is : literal_at w g ≡ x

pub append-none : {X : Type 0} (xs : List X) → xs ++ [] ≡ xs
append-none [] = refl
append-none (x ∷ xs) = ap (λ (ys : List _). x ∷ ys) (append-none xs)

nth-snoc : {X P : Type 0} (xs : List X) (x : X) (m : ℕ) {y : X} → nth (xs ++ x ∷ []) m ≡ some y → (nth xs m ≡ some y → P) → (m ≡ length xs → x ≡ y → P) → P
unfolding nth
nth-snoc [] x zero {y} e f h = h refl (some-injective x y e)
nth-snoc [] x (suc m) e f h = let z : ◌≡◌ {A = ℕ} 0 1 = cc in absurd (omega arith)
nth-snoc (a ∷ xs) x zero e f h = f e
nth-snoc (a ∷ xs) x (suc m) e f h = nth-snoc xs x m e f (λ q r. h (ap suc q) r)

module _ (w : List ℕ) (k : ℕ) where
  key-literals-none : (m : ℕ) (x : Literal) → nth (key_literals w k 0) m ≡ some x → ⊥
  unfolding key_literals nth
  key-literals-none m x e = let z : ◌≡◌ {A = ℕ} 0 1 = cc in omega arith

  pub key-literals-from : (t m : ℕ) (x : Literal) → nth (key_literals w k t) m ≡ some x → From w k t m x
  key-literals-from zero m x e = absurd (key-literals-none m x e)
  key-literals-from (suc t) m x e = by-eq (key_at w t) k
      (λ q. nth-snoc (key_literals w k t) (literal_at w t) m (rw (key-literals-more w k t q) at e)
      (λ f. up (key-literals-from t m x f))
      (λ n r. record { g = t; below = omega arith; owned = q; number = n; is = r }))
      (λ d. up (key-literals-from t m x (rw (key-literals-other w k t d, append-none) at e)))
    where
      up : From w k t m x → From w k (suc t) m x
      up f = record { g = f.g; below = omega (arith, f.below); owned = f.owned; number = f.number; is = f.is }
