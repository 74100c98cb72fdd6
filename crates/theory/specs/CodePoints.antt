-- The texts are the encodings of code points, one after the other: `Claims.Texts` is proved.
use Rattle.std.specs.Prelude.{◌≡◌, Bool, true, ◌||◌, leb, ltb}
use Rattle.std.proofs.Math.Path.{refl}
use Rattle.std.proofs.Common.{◌∙◌, arith}
use mathlib.Core.List.{List, [], ◌∷◌, ◌++◌}
use Prim.Native.Nat.{ℕ, zero, suc, ◌+◌, ◌-◌, ◌*◌, ◌/◌, ◌%◌, ◌≤◌, ◌<◌}
use borrow.Author.Tests.{ltb-true, leb-true, lt-ltb, le-ltb, le-leb}
use Rattle.format.specs.Utf8.{Range, Form, range, form, tail, forms, within, behind_lead, goes_on, text_from, is_text, is_scalar, encoding, are_scalar, encodings}
use Rattle.format.specs.Claims.{Texts}
use Rattle.laws.specs.Facts.{absurd-bool, by_bool, by-lt, and-true, true-and, or-true}
use Rattle.laws.specs.Utf8.{inside, above}
use Rattle.theory.specs.Inside.{Each, none_left, one_more}

bounds : (r : Range) (b : ℕ) → within r b ≡ true → (r.first ≤ b) × (b ≤ r.last)
unfolding within
bounds r b e =
    let (h, k) = and-true (leb r.first b) (leb b r.last) e in
    (leb-true r.first b h, leb-true b r.last k)

-- ---- a code point

scalar : (c : ℕ) → (0xd800 ≤ c → 0xe000 ≤ c) → c ≤ 0x10ffff → is_scalar c ≡ true
unfolding is_scalar
scalar c h k = by-lt c 0xd800
    (λ l. simp (lt-ltb c 0xd800 l, le-leb c 0x10ffff k))
    (λ l. simp (le-ltb c 0xd800 l, le-leb 0xe000 c (h l), le-leb c 0x10ffff k))

scalar-bounds : (c : ℕ) → is_scalar c ≡ true → (0xd800 ≤ c → 0xe000 ≤ c) × (c ≤ 0x10ffff)
unfolding is_scalar
scalar-bounds c e =
    let (h, k) = and-true (ltb c 0xd800 || leb 0xe000 c) (leb c 0x10ffff) e in
    (λ l. or-true (ltb c 0xd800) (leb 0xe000 c) h (λ t. omega (arith, ltb-true c 0xd800 t)) (λ t. leb-true 0xe000 c t), leb-true c 0x10ffff k)

-- its encoding, by the number of bytes
module _ (c : ℕ) where
  one_byte : c < 0x80 → encoding c ≡ c ∷ []
  unfolding encoding
  one_byte h = simp (lt-ltb c 0x80 h)

  two_bytes : 0x80 ≤ c → c < 0x800 → encoding c ≡ (0xc0 + c / 64) ∷ (0x80 + c % 64) ∷ []
  unfolding encoding
  two_bytes h k = simp (le-ltb c 0x80 h, lt-ltb c 0x800 k)

  three-bytes : 0x800 ≤ c → c < 0x10000 → encoding c ≡ (0xe0 + c / 4096) ∷ (0x80 + c / 64 % 64) ∷ (0x80 + c % 64) ∷ []
  unfolding encoding
  three-bytes h k = simp (le-ltb c 0x80 (omega arith), le-ltb c 0x800 h, lt-ltb c 0x10000 k)

  four_bytes : 0x10000 ≤ c → encoding c ≡ (0xf0 + c / 262144) ∷ (0x80 + c / 4096 % 64) ∷ (0x80 + c / 64 % 64) ∷ (0x80 + c % 64) ∷ []
  unfolding encoding
  four_bytes h = simp (le-ltb c 0x80 (omega arith), le-ltb c 0x800 (omega arith), le-ltb c 0x10000 h)

-- ---- from code points to text

-- each byte is within its range
abbrev Follow : List Range → List ℕ → Type 0
Follow [] [] = Unit {0}
Follow [] (b ∷ bs) = ⊥
Follow (r ∷ rs) [] = ⊥
Follow (r ∷ rs) (b ∷ bs) = (r.first ≤ b) × (b ≤ r.last) × Follow rs bs

-- the n-th form is the first whose lead b may be, and ts follow it
abbrev Spelled : List Form → ℕ → ℕ → List ℕ → Type 0
Spelled [] n b ts = ⊥
Spelled (f ∷ fs) zero b ts = (f.lead.first ≤ b) × (b ≤ f.lead.last) × Follow f.behind ts
Spelled (f ∷ fs) (suc n) b ts = (f.lead.last < b) × Spelled fs n b ts

module _ (bs : List ℕ) where
  follow-text : (rs : List Range) (ts : List ℕ) → Follow rs ts → text_from rs (ts ++ bs) ≡ text_from [] bs
  unfolding text_from
  follow-text [] [] h = refl
  follow-text [] (t ∷ ts) h = absurd h
  follow-text (r ∷ rs) [] h = absurd h
  follow-text (r ∷ rs) (t ∷ ts) h = rw (inside r t h.0 h.1) (follow-text rs ts h.2)

  spelled-text : (fs : List Form) (n b : ℕ) (ts : List ℕ) → Spelled fs n b ts → goes_on (behind_lead fs b) (λ rs. text_from rs (ts ++ bs)) ≡ text_from [] bs
  unfolding behind_lead goes_on
  spelled-text [] n b ts h = absurd h
  spelled-text (f ∷ fs) zero b ts h = rw (inside f.lead b h.0 h.1) (follow-text f.behind ts h.2)
  spelled-text (f ∷ fs) (suc n) b ts h = rw (above f.lead b h.0) (spelled-text fs n b ts h.1)

  module _ (c : ℕ) where
    row-text : {b : ℕ} {ts : List ℕ} (n : ℕ) → encoding c ≡ b ∷ ts → Spelled forms n b ts → text_from [] (encoding c ++ bs) ≡ text_from [] bs
    unfolding text_from
    row-text {b} {ts} n e h = rw e (spelled-text forms n b ts h)

    encoding-text : is_scalar c ≡ true → text_from [] (encoding c ++ bs) ≡ text_from [] bs
    encoding-text e =
        let (gap, most) = scalar-bounds c e in
        by-lt c 0x80 (λ h. row-text 0 (one_byte c h) (omega arith)) λ h₁.
        by-lt c 0x800 (λ h. row-text 1 (two_bytes c h₁ h) (omega arith)) λ h₂.
        by-lt c 0x1000 (λ h. row-text 2 (three-bytes c h₂ (omega arith)) (omega arith)) λ h₃.
        by-lt c 0xd000 (λ h. row-text 3 (three-bytes c h₂ (omega arith)) (omega arith)) λ h₄.
        by-lt c 0xd800 (λ h. row-text 4 (three-bytes c h₂ (omega arith)) (omega arith)) λ h₅.
        by-lt c 0x10000 (λ h. row-text 5 (three-bytes c h₂ h) (omega (arith, gap h₅))) λ h₆.
        by-lt c 0x40000 (λ h. row-text 6 (four_bytes c h₆) (omega arith)) λ h₇.
        by-lt c 0x100000 (λ h. row-text 7 (four_bytes c h₆) (omega arith)) λ h₈. row-text 8 (four_bytes c h₆) (omega arith)

-- ---- from text to code points

-- bytes that are the encoding of a code point
abbrev Encoded : List ℕ → Type 0
Encoded bs = (c : ℕ) × (is_scalar c ≡ true) × (encoding c ≡ bs)

-- P holds of all bytes within these ranges
abbrev Tails : List Range → (List ℕ → Type 0) → Type 0
Tails [] P = P []
Tails (r ∷ rs) P = (t : ℕ) → r.first ≤ t → t ≤ r.last → Tails rs (λ ts. P (t ∷ ts))

-- every character of the form encodes a code point
abbrev RowEncoded : Form → Type 0
RowEncoded f = (b : ℕ) → f.lead.first ≤ b → b ≤ f.lead.last → Tails f.behind (λ ts. Encoded (b ∷ ts))

-- What the bytes hold beside the bits of the code point is a constant, m.
by-rest : {P : Type 0} (m n : ℕ) → m ≤ n → ((c : ℕ) → c + m ≡ n → P) → P
by-rest m n h f = f (n - m) (omega arith)

one-byte-row : RowEncoded (form 0x00 0x7f [])
one-byte-row b l h = (b, scalar b (omega arith) (omega arith), one_byte b (omega arith))

two-byte-row : RowEncoded (form 0xc2 0xdf (tail ∷ []))
two-byte-row b l h t l₁ h₁ = by-rest 0x3080 (64 * b + t) (omega arith) λ c e.
    let x : 0xc0 + c / 64 ≡ b = omega arith in
    let y : 0x80 + c % 64 ≡ t = omega arith in
    (c, scalar c (omega arith) (omega arith), rw (two_bytes c (omega arith) (omega arith), x, y))

-- The leads are from low to high, the bytes right behind from first to last, and the code points from least to most.
module _ (low high first last least most : ℕ) where
  three-byte-row : (0xe0 ≤ low) × (0x80 ≤ first) × (last ≤ 0xbf)
      × (least + 0xe2000 ≡ 4096 * low + 64 * first) × (most + 0xe2000 ≡ 4096 * high + 64 * last + 63)
      × (0x800 ≤ least) × (most < 0x10000) × (0xd800 ≤ most → 0xe000 ≤ least)
      → RowEncoded (form low high (range first last ∷ tail ∷ []))
  three-byte-row g b l h t l₁ h₁ u l₂ h₂ = by-rest 0xe2080 (4096 * b + 64 * t + u) (omega arith) λ c e.
      let x : 0xe0 + c / 4096 ≡ b = omega arith in
      let y : 0x80 + c / 64 % 64 ≡ t = omega arith in
      let z : 0x80 + c % 64 ≡ u = omega arith in
      (c, scalar c (λ k. omega (arith, g.7 (omega arith))) (omega arith), rw (three-bytes c (omega arith) (omega arith), x, y, z))

  four-byte-row : (0xf0 ≤ low) × (0x80 ≤ first) × (last ≤ 0xbf)
      × (least + 0x3c80000 ≡ 262144 * low + 4096 * first) × (most + 0x3c80000 ≡ 262144 * high + 4096 * last + 4095)
      × (0x10000 ≤ least) × (most ≤ 0x10ffff)
      → RowEncoded (form low high (range first last ∷ tail ∷ tail ∷ []))
  four-byte-row g b l h t l₁ h₁ u l₂ h₂ v l₃ h₃ = by-rest 0x3c82080 (262144 * b + 4096 * t + 64 * u + v) (omega arith) λ c e.
      let w : 0xf0 + c / 262144 ≡ b = omega arith in
      let x : 0x80 + c / 4096 % 64 ≡ t = omega arith in
      let y : 0x80 + c / 64 % 64 ≡ u = omega arith in
      let z : 0x80 + c % 64 ≡ v = omega arith in
      (c, scalar c (omega arith) (omega arith), rw (four_bytes c (omega arith), w, x, y, z))

rows : Each RowEncoded forms
rows =
    one_more one-byte-row
    (one_more two-byte-row
    (one_more (three-byte-row 0xe0 0xe0 0xa0 0xbf 0x800 0xfff (omega arith))
    (one_more (three-byte-row 0xe1 0xec 0x80 0xbf 0x1000 0xcfff (omega arith))
    (one_more (three-byte-row 0xed 0xed 0x80 0x9f 0xd000 0xd7ff (omega arith))
    (one_more (three-byte-row 0xee 0xef 0x80 0xbf 0xe000 0xffff (omega arith))
    (one_more (four-byte-row 0xf0 0xf0 0x90 0xbf 0x10000 0x3ffff (omega arith))
    (one_more (four-byte-row 0xf1 0xf3 0x80 0xbf 0x40000 0xfffff (omega arith))
    (one_more (four-byte-row 0xf4 0xf4 0x80 0x8f 0x100000 0x10ffff (omega arith))
    none_left))))))))

lead-encoded : (fs : List Form) → Each RowEncoded fs → (b : ℕ) (rest : List Range → Bool) → goes_on (behind_lead fs b) rest ≡ true
    → (rs : List Range) × Tails rs (λ ts. Encoded (b ∷ ts)) × (rest rs ≡ true)
unfolding behind_lead goes_on
lead-encoded [] none_left b rest e = absurd-bool e
lead-encoded (f ∷ fs) (one_more p ps) b rest e = by_bool (within f.lead b)
    (λ t. let (l, h) = bounds f.lead b t in (f.behind, p b l h, rw t at e))
    (λ t. lead-encoded fs ps b rest (rw t at e))

-- ts are the rest of a character, and cs the code points behind it
code-points : (rs : List Range) (bs : List ℕ) → text_from rs bs ≡ true → (P : List ℕ → Type 0) → Tails rs P
    → (ts : List ℕ) × (cs : List ℕ) × P ts × (are_scalar cs ≡ true) × (ts ++ encodings cs ≡ bs)
unfolding text_from goes_on are_scalar encodings
code-points [] [] e P p = ([], [], p, refl, refl)
code-points (r ∷ rs) [] e P p = absurd-bool e
code-points [] (b ∷ bs) e P p =
    let (rs, q, g) = lead-encoded forms rows b (λ rs. text_from rs bs) e in
    let (ts, cs, (c, s, d), a, h) = code-points rs bs g (λ ts. Encoded (b ∷ ts)) q in
    ([], c ∷ cs, p, true-and s a, rw (d, h))
code-points (r ∷ rs) (b ∷ bs) e P p =
    let (i, g) = and-true (within r b) (text_from rs bs) e in
    let (l, k) = bounds r b i in
    let (ts, cs, x, a, h) = code-points rs bs g (λ ts. P (b ∷ ts)) (p b l k) in
    (b ∷ ts, cs, x, a, rw h)

encodings-text : (cs : List ℕ) → are_scalar cs ≡ true → text_from [] (encodings cs) ≡ true
unfolding are_scalar encodings
encodings-text [] e = unfold text_from in refl
encodings-text (c ∷ cs) e =
    let (s, a) = and-true (is_scalar c) (are_scalar cs) e in
    encoding-text (encodings cs) c s ∙ encodings-text cs a

pub texts : Texts
unfolding is_text
texts bs = (
  λ e.
      let (ts, cs, n, a, h) = code-points [] bs e (λ ts. ts ≡ []) refl in
      (cs, a, rw n at h),
  λ q. rw (← q.2) (encodings-text q.0 q.1),
)
