-- How many links a walk along a chain follows: one for each literal of its bucket. A literal is of one bucket only, so that walks along different chains follow no more links together than there are literals.
use Rattle.std.specs.Prelude.{◌≡◌, refl, cond, List, eqb}
use Prim.Native.Nat.{ℕ, zero, suc, ◌+◌, ◌-◌, ◌%◌, ◌<◌, ◌≤◌}
use native.Mathlib.Omega.{arith}
use Rattle.std.proofs.Common.{eq-eqb, ne_eqb}
use Rattle.laws.specs.Facts.{by-eq, by-lt}
use Rattle.store.specs.Lists.{sum_to, sum-zero, sum-ext, sum-at}
use Rattle.store.specs.Words.{all_of}
use Rattle.write_literals.specs.Words.{bucket, bucket_of, link_of, On, First, Linked}

-- the links that are followed from i on, n at most
unfoldable pub links : List ℕ → ℕ → ℕ → ℕ → ℕ
links w b zero i = 0
links w b (suc n) i = cond (eqb (link_of w b i) 0) 0 (suc (links w b n (link_of w b i)))

-- All links of the chain of bucket b. The number of all literals is no limit here: with a larger one the walk is the same (`chain-short`, `chain-whole`).
abbrev pub chain : List ℕ → ℕ → ℕ
chain w b = links w b (all_of w) 0

-- how many of the first t literals are of bucket b
unfoldable pub members : List ℕ → ℕ → ℕ → ℕ
members w b zero = 0
members w b (suc t) = members w b t + cond (eqb (bucket_of w t) b) 1 0

module _ (w : List ℕ) where
  -- ---- members

  members-one : (b t : ℕ) → bucket_of w t ≡ b → members w b (suc t) ≡ members w b t + 1
  unfolding members
  members-one b t e = rw (eq-eqb (bucket_of w t) b e)

  members-same : (b t : ℕ) → (bucket_of w t ≡ b → ⊥) → members w b (suc t) ≡ members w b t
  unfolding members
  members-same b t d = rw (ne_eqb (bucket_of w t) b d) (omega arith)

  members-grow : (b i t : ℕ) → i ≤ t → members w b i ≤ members w b t
  unfolding members
  members-grow b i zero h = let e : i ≡ 0 = omega arith in rw e (omega arith)
  members-grow b i (suc t) h = by-eq i (suc t) (λ e. rw e (omega arith)) (λ d. omega (arith, members-grow b i t (omega arith)))

  -- where none from i up to t is of the bucket
  members-none : (b i t : ℕ) → i ≤ t → ((g : ℕ) → i ≤ g → g < t → bucket_of w g ≡ b → ⊥) → members w b t ≤ members w b i
  members-none b i zero h none = let e : i ≡ 0 = omega arith in rw e (omega arith)
  members-none b i (suc t) h none = by-eq i (suc t) (λ e. rw e (omega arith))
      (λ d. omega (arith, members-none b i t (omega arith) (λ g l s. none g l (omega arith)), members-same b t (none t (omega arith) (omega arith))))

  -- Different buckets share no literal.
  pub members-shared : (c n t : ℕ) → n ≤ 4096 → sum_to (λ i. members w ((i + c) % 4096) t) n ≤ t
  unfolding members bucket
  members-shared c n zero h = omega (arith, sum-zero n)
  members-shared c n (suc t) h =
      let m = members-shared c n t h in
      by-lt k n
      (λ l. omega (arith, sum-at (of t) (of (suc t)) n k 1 l (members-one _ t (omega arith)) (λ j z d. members-same _ t (λ e. d (omega arith)))))
      (λ l. omega (arith, sum-ext (of (suc t)) (of t) n (λ j z. members-same _ t (λ e. omega arith))))
    where
      -- the only one whose bucket is that of literal t
      k : ℕ
      k = (bucket_of w t + (4096 - c % 4096)) % 4096

      of : ℕ → ℕ → ℕ
      of s i = members w ((i + c) % 4096) s

  -- ---- walks

  -- k links from i on are no more than the literals of bucket b from there on; and as many, where n is enough
  abbrev Passed : ℕ → ℕ → ℕ → ℕ → Type 0
  Passed b n i k = (members w b i + k ≤ members w b (all_of w)) × (all_of w ≤ i + n → members w b (all_of w) ≤ members w b i + k)

  module _ (linked : Linked w (all_of w)) (b : ℕ) (small : b < 4096) where
    passed : (n i : ℕ) → i ≤ all_of w → On w b i → Passed b n i (links w b n i)
    unfolding links
    passed zero i l on = (omega (arith, members-grow b i (all_of w) l), λ e. let q : all_of w ≡ i = omega arith in rw q (omega arith))
    passed (suc n) i l on = go (link_of w b i) (linked b i small l on) (passed n (link_of w b i))
      where
        go : (r : ℕ) → First w b i (all_of w) r → (r ≤ all_of w → On w b r → Passed b n r (links w b n r)) → Passed b (suc n) i (cond (eqb r 0) 0 (suc (links w b n r)))
        go zero f p = (omega (arith, members-grow b i (all_of w) l), λ e. omega (arith, members-none b i (all_of w) l (f.none refl)))
        go (suc g) f p =
            let s : i ≤ g = omega (arith, f.least (omega arith)) in
            let q = p f.most f.here in
            let o = members-one b g (f.here g refl) in
            rw (ne_eqb (suc g) 0 (λ z. omega arith)) (omega (arith, members-grow b i g s, q.0), λ e. omega (arith, members-none b i g s (λ j a z. f.before j a (omega arith)), q.1 (omega arith)))

    from-head : (n : ℕ) → Passed b n 0 (links w b n 0)
    from-head n = passed n 0 (omega arith) (λ g e. absurd (omega arith))

    -- However far a walk goes, it passes no literal of another bucket, and none twice.
    pub chain-short : (n : ℕ) → links w b n 0 ≤ members w b (all_of w)
    unfolding members
    chain-short n = omega (arith, (from-head n).0)

    -- To its end, it passes each literal of its bucket.
    pub chain-whole : chain w b ≡ members w b (all_of w)
    unfolding members
    chain-whole = omega (arith, chain-short (all_of w), (from-head (all_of w)).1 (omega arith))
