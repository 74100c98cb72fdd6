-- What a search answers in the format's terms, and what it asks of the literals.
use Rattle.std.specs.Prelude.{◌≡◌, refl, true, List, [], ◌∷◌, ◌++◌, map, ◌⊎◌, ℕ, zero, suc, ◌+◌, ◌-◌, ◌*◌, ◌/◌, ◌%◌, ◌<◌, ◌≤◌, ◌^◌, length, get_or}
use Rattle.std.proofs.Common.{sym, ap, ◌∙◌, inl, inr, ⊎_elim, arith}
use Rattle.std.proofs.lemmas.List.{map-append, length-map}
use Rattle.std.proofs.Math.Option.{Option, none, some}
use Rattle.format.specs.Row.{Place, Text, bytes_at}
use Rattle.format.specs.Read.{nth}
use Rattle.format.specs.Write.{same_text}
use Rattle.write_literals.specs.Store.{Literal}
use Rattle.write_search.specs.Front.{Front, front, front-before, front-again}
use Rattle.write_search.specs.declared.Found.{Found}
use Rattle.write_search.specs.declared.Found.TheVariants.{Number, Nothing}

-- A literal is kept as two words. Their lower 17 bits are its place, and the upper ones its front behind the literals before it: in the second word
-- 12 bits of `near` and the lowest 3 of `pairs`, which nearly always tell two fronts apart, and in the first word the rest of `pairs`.
abbrev pub place_of : Literal → Place
place_of x = record { start = x.first % 131072; size = x.second % 131072 }

abbrev pub front_of : Literal → Front
front_of x = record { near = x.second / 131072 % 4096; pairs = 8 * (x.first / 131072) + x.second / 131072 / 4096 }

abbrev pub second_word : ℕ → ℕ → ℕ → ℕ
second_word size near pairs = size + 131072 * (near + 4096 * (pairs % 8))

abbrev pub text_of : List ℕ → Literal → Text
text_of pool x = bytes_at pool (place_of x)

abbrev pub texts_of : List ℕ → List Literal → List Text
texts_of pool xs = map (text_of pool) xs

-- x is literal j of a key whose literals have these texts: its place is inside the pool, and its front is that of its text behind those before it
pub record IsLiteral (pool : List ℕ) (ts : List Text) (j : ℕ) (x : Literal) : Type 0 where
  pub inside : x.first % 131072 + x.second % 131072 ≤ length pool
  pub front : front_of x ≡ front (text_of pool x) ts j

-- each key's literals are such
pub record AreLiterals (pool : List ℕ) (literals : List (List Literal)) : Type 0 where
  pub inside : (k j : ℕ) (x : Literal) → nth (get_or literals k []) j ≡ some x → IsLiteral pool (texts_of pool (get_or literals k [])) j x

-- x has the words to keep the text at p by, as the next literal of a key that has these
pub record KeepsText (pool : List ℕ) (ts : List Text) (p : Place) (x : Literal) : Type 0 where
  pub place : place_of x ≡ p
  pub front : front_of x ≡ front (bytes_at pool p) ts (length ts)

abbrev pub number : Found → Option ℕ
number (Number j) = some j
number (Nothing first second) = none

-- there are at most 4,096 literals, and a word has 32 bits
abbrev pub InWords : Found → Type 0
InWords (Number j) = j < 4096
InWords (Nothing first second) = (first < 2 ^ 32) × (second < 2 ^ 32)

-- where no literal is equal, the answer has these words
abbrev pub KeepAs : List ℕ → List Text → Place → Found → Type 0
KeepAs pool ts p (Number j) = Unit {0}
KeepAs pool ts p (Nothing first second) = KeepsText pool ts p (record { first = first; second = second })

-- ---- a text that one of the literals equals, written out once more

small-parts : (m n : ℕ) → n < 4096 → m ≡ n → (m % 4096 ≡ n) × (m / 4096 ≡ 0)
small-parts m n h e = (omega arith, omega arith)

again-parts : (start size n : ℕ) → start < 131072 → size < 131072 → n < 4096
    → ((start + 1610612736) % 131072 ≡ start) × ((start + 1610612736) / 131072 ≡ 12288) × ((size + 131072 * n) % 131072 ≡ size) × ((size + 131072 * n) / 131072 ≡ n)
again-parts start size n a b c = (omega arith, omega arith, omega arith, omega arith)

-- its words are at hand: nothing of a search is in them but how many literals there are
pub keeps-again : (pool : List ℕ) (ts : List Text) (p : Place) (m : ℕ) → p.start < 131072 → p.size < 131072 → length ts ≤ 4096 → m < length ts → same_text (bytes_at pool p) (get_or ts m []) ≡ true
    → KeepsText pool ts p (record { first = p.start + 1610612736; second = p.size + 131072 * (length ts - 1) })
keeps-again pool ts p m hp hs few h e =
    let n : ℕ = length ts - 1 in
    let l : n < 4096 = omega arith in
    let a = again-parts p.start p.size n hp hs l in
    let d = small-parts ((p.size + 131072 * n) / 131072) n l a.3 in
    let g : 8 * ((p.start + 1610612736) / 131072) + (p.size + 131072 * n) / 131072 / 4096 ≡ 98304 = omega (arith, a.1, d.1) in
    record { place = rw (a.0, a.2); front = rw (d.0, g) (sym (front-again ts (bytes_at pool p) m (length ts) h e)) }

-- ---- one more literal

last_or : (l : List Literal) {x y : Literal} (j : ℕ) → nth (l ++ x ∷ []) j ≡ some y → ((nth l j ≡ some y) × (j < length l)) ⊎ ((x ≡ y) × (j ≡ length l))
unfolding nth
last_or [] zero e = inr (cc, refl)
last_or [] (suc j) e = let z : ◌≡◌ {A = ℕ} 0 1 = cc in absurd (omega arith)
last_or (a ∷ l) zero e = inl (e, omega arith)
last_or (a ∷ l) (suc j) e = ⊎_elim (λ h. inl (h.0, omega arith)) (λ h. inr (h.0, ap suc h.1)) (last_or l j e)

-- with the one that keeps the text at p, a key's literals are such again
pub last-stands : (pool : List ℕ) (l : List Literal) (p : Place) (x : Literal) → p.start + p.size ≤ length pool → KeepsText pool (texts_of pool l) p x
    → ((j : ℕ) (y : Literal) → nth l j ≡ some y → IsLiteral pool (texts_of pool l) j y)
    → (j : ℕ) (y : Literal) → nth (l ++ x ∷ []) j ≡ some y → IsLiteral pool (texts_of pool (l ++ x ∷ [])) j y
last-stands pool l p x given k stands j y e = rw (map-append (text_of pool) l (x ∷ [])) (go (last_or l j e))
  where
    ts : List Text
    ts = texts_of pool l ++ text_of pool x ∷ []

    before : (v : Text) (i : ℕ) → i ≤ length l → front v (texts_of pool l) i ≡ front v ts i
    before v i h = sym (front-before (texts_of pool l) (text_of pool x) v i (rw (length-map l (text_of pool)) h))

    last : IsLiteral pool ts (length l) x
    last =
        let a : x.first % 131072 ≡ p.start = ap (λ (q : Place). q.start) k.place in
        let b : x.second % 131072 ≡ p.size = ap (λ (q : Place). q.size) k.place in
        record { inside = omega arith; front = k.front ∙ rw (length-map l (text_of pool), ← k.place) (before (text_of pool x) (length l) (omega arith)) }

    go : ((nth l j ≡ some y) × (j < length l)) ⊎ ((x ≡ y) × (j ≡ length l)) → IsLiteral pool ts j y
    go (inl h) = let s = stands j y h.0 in record { inside = s.inside; front = s.front ∙ before (text_of pool y) j (omega (arith, h.1)) }
    go (inr h) = rw (← h.0, h.1) last
