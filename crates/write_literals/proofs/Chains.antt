-- The way along a chain to its end, its measure, and what a head leads to.
use mathlib.Core.Path.{◌≡◌, refl, sym, ap, ap₂, ◌∙◌}
use mathlib.Core.List.{List}
use Prim.Native.Nat.{ℕ, zero, suc, ◌+◌, ◌-◌, ◌*◌, ◌/◌, ◌%◌, ◌<◌, ◌≤◌}
use native.Mathlib.Omega.{arith}
use Rattle.store.specs.Words.{word, all_of}
use Rattle.write_literals.specs.Words.{bucket, bucket_of, link_at, lane, head_of, link_of, On, First, GoodLiterals}
use Rattle.write_literals.specs.Laws.{head-none, head-on, head-off, head-beyond}
use Rattle.write_literals.proofs.Places.{link-first, link-next, leads-first, leads-next}

-- ---- heads

module _ (w : List ℕ) (b : ℕ) {x r : ℕ} (e : x ≡ word w (2048 + b / 2)) (l : r ≡ lane (b % 2) x) where
  lead : link_of w b 0 ≡ head_of w b r
  lead = leads-first w b ∙ ap (head_of w b) (ap (lane (b % 2)) (sym e) ∙ sym l)

  pub head-is : r ≤ all_of w → (r ≤ all_of w) × (link_of w b 0 ≡ head_of w b r)
  head-is h = (h, lead)

  pub head-not : all_of w < r → (0 ≤ all_of w) × (link_of w b 0 ≡ head_of w b 0)
  head-not h = (omega arith, lead ∙ head-beyond w b r h ∙ sym (head-none w b))

-- the bucket of a literal, from its words
pub bucket-read : (w : List ℕ) {at size link r : ℕ} → (at ≡ 0 → ⊥) → size ≡ word w (4096 - 3 + 3 * at + 1) → link ≡ word w (4096 - 3 + 3 * at + 2) → r ≡ bucket (link / 8192 / 4096) size → r ≡ bucket_of w (at - 1)
bucket-read w {at} d es el er =
    let c : 4096 - 3 + 3 * at ≡ 4096 + 3 * (at - 1) = omega arith in
    er ∙ ap₂ (λ (l s : ℕ). bucket (l / 8192 / 4096) s) (el ∙ ap (λ (a : ℕ). word w (a + 2)) c) (es ∙ ap (λ (a : ℕ). word w (a + 1)) c)

module _ (w : List ℕ) (b r : ℕ) (leads : link_of w b 0 ≡ head_of w b r) where
  pub start_none : r ≡ 0 → 0 ≡ link_of w b 0
  start_none e = sym (leads ∙ ap (head_of w b) e ∙ head-none w b)

  pub start-off : (bucket_of w (r - 1) ≡ b → ⊥) → 0 ≡ link_of w b 0
  start-off d = sym (leads ∙ head-off w b r d)

  pub start-on : (r ≡ 0 → ⊥) → r ≤ all_of w → bucket_of w (r - 1) ≡ b → r ≡ link_of w b 0
  start-on d h e = sym (leads ∙ head-on w b r (omega arith) h e)

-- ---- along a chain

-- how many literals may still come, with the one that is next
unfoldable pub left : ℕ → ℕ → ℕ
left t zero = 0
left t (suc g) = t + 1 - suc g

pub left_less : (t a a' : ℕ) → (a ≡ 0 → ⊥) → a ≤ t → a' ≤ t → (0 < a' → a < a') → left t a' < left t a
unfolding left
left_less t zero a' d h h' l = absurd (d refl)
left_less t (suc g) zero d h h' l = omega arith
left_less t (suc g) (suc g') d h h' l = omega (arith, l (omega arith))

pub record Going (w : List ℕ) (b at next : ℕ) : Type 0 where
  pub i : ℕ
  pub is : at ≡ link_at b i
  pub inside : i ≤ all_of w
  pub on : On w b i
  pub leads : next ≡ link_of w b i

pub going_start : (w : List ℕ) (b : ℕ) {next : ℕ} → next ≡ link_of w b 0 → Going w b (2048 + b / 2) next
going_start w b e = record { i = 0; is = sym (link-first b); inside = omega arith; on = λ g z. absurd (omega arith); leads = e }

module _ {w : List ℕ} {b at next : ℕ} (c : GoodLiterals w) (hb : b < 4096) (g : Going w b at next) where
  pub going-first : First w b g.i (all_of w) next
  going-first = rw g.leads (c.linked b g.i hb g.inside g.on)

  pub going-most : next ≤ 4096
  going-most = omega (arith, going-first.most, c.most)

  pub going_more : (next ≡ 0 → ⊥) → {x next' : ℕ} → x ≡ word w (4096 - 1 + 3 * next) → next' ≡ x % 8192 → Going w b (4096 - 1 + 3 * next) next'
  going_more d e f = record {
    i = next;
    is = sym (link-next b next (omega arith));
    inside = going-first.most;
    on = going-first.here;
    leads = f ∙ ap (λ (m : ℕ). m % 8192) e ∙ sym (leads-next w b next (omega arith));
  }

  pub going_less : (next ≡ 0 → ⊥) → {x next' : ℕ} → x ≡ word w (4096 - 1 + 3 * next) → next' ≡ x % 8192 → left (all_of w) next' < left (all_of w) next
  going_less d {x} {next'} e f =
      let a = going-first in
      let q : next' ≡ link_of w b next = f ∙ ap (λ (m : ℕ). m % 8192) e ∙ sym (leads-next w b next (omega arith)) in
      let z : First w b next (all_of w) next' = rw q (c.linked b next hb a.most a.here) in
      left_less (all_of w) next next' d a.most z.most z.least
