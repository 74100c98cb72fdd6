-- Which bytes are text.
--
-- «UTF-8: 00–7F alone; C0–DF and one byte 80–BF; E0–EF and two; F0–F7 and three; nothing else.» «It becomes RFC 3629's: no C0 or C1, none above F4, after E0 the next byte is A0–BF, after ED 80–9F, after F0 90–BF, after F4 80–8F.»
use Rattle.std.specs.Prelude.{Bool, true, false, cond, ◌&&◌, ◌||◌, List, [], ◌∷◌, ◌++◌, ℕ, ◌+◌, ◌/◌, ◌%◌, leb, ltb}
use Rattle.std.proofs.Math.Option.{Option, none, some}

-- the bytes from `first` to `last`
pub record Range : Type 0 where
  pub first : ℕ
  pub last : ℕ

-- the bytes that may lead a character, and those that have to follow
pub record Form : Type 0 where
  pub lead : Range
  pub behind : List Range

abbrev pub range : ℕ → ℕ → Range
range first last = record { first = first; last = last }

abbrev pub form : ℕ → ℕ → List Range → Form
form first last behind = record { lead = range first last; behind = behind }

abbrev pub tail : Range
tail = range 0x80 0xbf

-- RFC 3629, section 4, row by row. Only the byte right after the lead has bounds of its own.
abbrev pub forms : List Form
forms =
    form 0x00 0x7f []
    ∷ form 0xc2 0xdf (tail ∷ [])
    ∷ form 0xe0 0xe0 (range 0xa0 0xbf ∷ tail ∷ [])
    ∷ form 0xe1 0xec (tail ∷ tail ∷ [])
    ∷ form 0xed 0xed (range 0x80 0x9f ∷ tail ∷ [])
    ∷ form 0xee 0xef (tail ∷ tail ∷ [])
    ∷ form 0xf0 0xf0 (range 0x90 0xbf ∷ tail ∷ tail ∷ [])
    ∷ form 0xf1 0xf3 (tail ∷ tail ∷ tail ∷ [])
    ∷ form 0xf4 0xf4 (range 0x80 0x8f ∷ tail ∷ tail ∷ [])
    ∷ []

unfoldable pub within : Range → ℕ → Bool
within r b = leb r.first b && leb b r.last

-- what has to follow b, if it may lead
unfoldable pub behind_lead : List Form → ℕ → Option (List Range)
behind_lead [] b = none
behind_lead (f ∷ fs) b = cond (within f.lead b) (some f.behind) (behind_lead fs b)

unfoldable pub goes_on : Option (List Range) → (List Range → Bool) → Bool
goes_on none rest = false
goes_on (some rs) rest = rest rs

-- the rest of a character, and whole characters behind it
unfoldable pub text_from : List Range → List ℕ → Bool
text_from [] [] = true
text_from (r ∷ rs) [] = false
text_from [] (b ∷ bs) = goes_on (behind_lead forms b) (λ rs. text_from rs bs)
text_from (r ∷ rs) (b ∷ bs) = within r b && text_from rs bs

unfoldable pub is_text : List ℕ → Bool
is_text bs = text_from [] bs

-- ---- the same by code points (`Claims.Texts`)

-- the code points 0 to 10FFFF without the halves of surrogate pairs, D800 to DFFF
unfoldable pub is_scalar : ℕ → Bool
is_scalar c = (ltb c 0xd800 || leb 0xe000 c) && leb c 0x10ffff

-- RFC 3629, section 3: six bits in each byte behind the first, and as few bytes as hold the number
unfoldable pub encoding : ℕ → List ℕ
encoding c = cond (ltb c 0x80) (c ∷ [])
    (cond (ltb c 0x800) ((0xc0 + c / 64) ∷ (0x80 + c % 64) ∷ [])
    (cond (ltb c 0x10000) ((0xe0 + c / 4096) ∷ (0x80 + c / 64 % 64) ∷ (0x80 + c % 64) ∷ [])
    ((0xf0 + c / 262144) ∷ (0x80 + c / 4096 % 64) ∷ (0x80 + c / 64 % 64) ∷ (0x80 + c % 64) ∷ [])))

unfoldable pub are_scalar : List ℕ → Bool
are_scalar [] = true
are_scalar (c ∷ cs) = is_scalar c && are_scalar cs

unfoldable pub encodings : List ℕ → List ℕ
encodings [] = []
encodings (c ∷ cs) = encoding c ++ encodings cs
