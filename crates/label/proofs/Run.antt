-- A number's bytes before its last one, each of which says that more follow. Assumes nothing.
use Rattle.std.proofs.Common.{Some, None, ◌≡◌, ℕ, zero, suc, ◌+◌, ◌-◌, ◌*◌, ◌%◌, ◌^◌, ◌<◌, ◌≤◌, List, [], ◌∷◌, ◌++◌, length, get_or, take, sym, refl, ap, ◌∙◌, add-one, arith, drop_of_length-le, length-take-le, take-suc}
use mathlib.Core.List.{foldr, foldr-append}
use mathlib.Core.Option.{Option, none, some}
use lib.Seq.{slice, slice_empty, slice-cons, length-slice, drop-append-le}
use Rattle.format.specs.Label.{continued, read_septets, within64, read_varint}
use Rattle.laws.specs.Facts.{some_pair, absurd-some}
use Rattle.label.specs.Cursor.{answer, cursor, up_to}
use Rattle.label.specs.Laws.{read-nil, read_small, read-big, within-some, within-over, continued-some, continued-parts}

-- what is read is none, or over 64 bits
abbrev Over : Option (ℕ × List ℕ) → Type 0
Over o = (z : ℕ) (rest : List ℕ) → o ≡ some (z, rest) → 2 ^ 64 ≤ z

over_none : Over none
over_none z rest e = absurd-some e

over-within : (o : Option (ℕ × List ℕ)) → Over o → within64 o ≡ none
unfolding within64
over-within none h = refl
over-within (some (z, rest)) h = within-over z rest (h z rest refl)

over-run : (o : Option (ℕ × List ℕ)) (xs : List ℕ) → Over o → Over (foldr continued o xs)
over-run o [] h z rest e = h z rest e
over-run o (x ∷ xs) h z rest e =
    let c = continued-parts x (foldr continued o xs) z rest e in
    omega (arith, c.is, over-run o xs h c.h rest c.behind)

-- seven bits for each byte
large-run : (k : ℕ) (o : Option (ℕ × List ℕ)) (xs : List ℕ) → length xs ≡ k → (z : ℕ) (rest : List ℕ) → foldr continued o xs ≡ some (z, rest) → 0 < z → 128 ^ k ≤ z
large-run zero o xs n z rest e p = omega arith
large-run (suc k) o [] n z rest e p = absurd (omega arith)
large-run (suc k) o (x ∷ xs) n z rest e p =
    let c = continued-parts x (foldr continued o xs) z rest e in
    omega (arith, c.is, large-run k o xs (omega arith) c.h rest c.behind c.above)

-- ten bytes with more to follow hold 70 bits
long-run : (o : Option (ℕ × List ℕ)) (xs : List ℕ) → length xs ≡ 10 → Over (foldr continued o xs)
long-run o [] n z rest e = absurd (omega arith)
long-run o (x ∷ xs) n z rest e =
    let c = continued-parts x (foldr continued o xs) z rest e in
    omega (arith, c.is, large-run 9 o xs (omega arith) c.h rest c.behind c.above)

-- a 0 behind a byte is one too many, and a large number gets larger
over-next : (b acc : ℕ) (rest : List ℕ) → (0 < acc → 2 ^ 64 ≤ b % 128 + 128 * acc) → Over (continued b (some (acc, rest)))
over-next b acc rest f z r e =
    let c = continued-parts b (some (acc, rest)) z r e in
    let q : acc ≡ c.h = (some_pair c.behind).0 in
    omega (arith, c.is, c.above, f (omega (arith, c.above)))

-- The same from a place in s.

-- upwards: from `at` to i each byte says that more follow
abbrev pub Ran : List ℕ → ℕ → ℕ → ℕ → Type 0
Ran s at end i = read_septets (slice at end s) ≡ foldr continued (read_septets (slice i end s)) (slice at i s)

-- downwards: the bytes from `last` down to i have been joined to acc
abbrev pub Joined : List ℕ → ℕ → ℕ → ℕ → ℕ → ℕ → Type 0
Joined s at last end i acc = up_to s at last end ≡ foldr continued (some (acc, slice (last + 1) end s)) (slice at i s)

module _ (s : List ℕ) where
  slice-past : (at end : ℕ) → end ≤ at → end ≤ length s → slice at end s ≡ []
  slice-past at end h k = drop_of_length-le (take end s) {i = at} (omega (arith, length-take-le end s k))

  slice-next : (at i : ℕ) → at ≤ i → i < length s → slice at (i + 1) s ≡ slice at i s ++ (get_or s i 0 ∷ [])
  slice-next at i h k =
      let l : at ≤ length (take i s) = omega (arith, length-take-le i s (omega arith)) in
      rw (add-one i, take-suc s i 0) (drop-append-le at (take i s) (get_or s i 0 ∷ []) l)

  run-next : (at i : ℕ) (o : Option (ℕ × List ℕ)) → at ≤ i → i < length s → foldr continued o (slice at (i + 1) s) ≡ foldr continued (continued (get_or s i 0) o) (slice at i s)
  run-next at i o h k = rw slice-next (foldr-append continued o (slice at i s) (get_or s i 0 ∷ []))

  module _ (end : ℕ) (within : end ≤ length s) where
    read_past : (i : ℕ) → end ≤ i → read_septets (slice i end s) ≡ none
    read_past i h = rw slice-past read-nil

    read-last : (i : ℕ) → i < end → get_or s i 0 < 128 → read_septets (slice i end s) ≡ some (get_or s i 0, slice (i + 1) end s)
    read-last i h b = rw (slice-cons i end s 0, add-one i) (read_small (slice (suc i) end s) b)

    read_more : (i : ℕ) → i < end → 128 ≤ get_or s i 0 → read_septets (slice i end s) ≡ continued (get_or s i 0) (read_septets (slice (i + 1) end s))
    read_more i h b = rw (slice-cons i end s 0, add-one i) (read-big (slice (suc i) end s) b)

    module _ (at : ℕ) where
      pub ran-none : Ran s at end at
      ran-none = rw (slice_empty at s)

      pub ran-next : (i : ℕ) → at ≤ i → i < end → 128 ≤ get_or s i 0 → Ran s at end i → Ran s at end (i + 1)
      ran-next i a h b r =
          r ∙ ap (λ o. foldr continued o (slice at i s)) (read_more i h b) ∙ sym (run-next at i (read_septets (slice (i + 1) end s)) a (omega arith))

      pub ran-last : (i : ℕ) → i < end → get_or s i 0 < 128 → Ran s at end i → read_septets (slice at end s) ≡ up_to s at i end
      ran-last i h b r = r ∙ ap (λ o. foldr continued o (slice at i s)) (read-last i h b)

      pub ran-past : (i : ℕ) → end ≤ i → Ran s at end i → read_varint (slice at end s) ≡ none
      unfolding read_varint
      ran-past i h r = rw (r, read_past i h) (over-within _ (over-run none (slice at i s) over_none))

      pub ran-long : (i : ℕ) → i ≡ at + 10 → i ≤ end → Ran s at end i → read_varint (slice at end s) ≡ none
      unfolding read_varint
      ran-long i e h r = rw r (over-within _ (long-run (read_septets (slice i end s)) (slice at i s) (length-slice at i s (omega arith) ∙ omega arith)))

    module _ (at last : ℕ) where
      module _ (i acc : ℕ) (a : at < i) (k : i ≤ last) (j : Joined s at last end i acc) (inside : last < end) where
        lower : up_to s at last end ≡ foldr continued (continued (get_or s (i - 1) 0) (some (acc, slice (last + 1) end s))) (slice at (i - 1) s)
        lower =
            let e : i - 1 + 1 ≡ i = omega arith in
            j ∙ ap (λ (n : ℕ). foldr continued (some (acc, slice (last + 1) end s)) (slice at n s)) (sym e)
            ∙ run-next at (i - 1) (some (acc, slice (last + 1) end s)) (omega arith) (omega arith)

        pub joined-next : 0 < acc → Joined s at last end (i - 1) (get_or s (i - 1) 0 % 128 + 128 * acc)
        joined-next p = lower ∙ ap (λ o. foldr continued o (slice at (i - 1) s)) (continued-some (get_or s (i - 1) 0) acc (slice (last + 1) end s) p)

        pub joined-over : (0 < acc → 2 ^ 64 ≤ get_or s (i - 1) 0 % 128 + 128 * acc) → None ≡ answer end (within64 (up_to s at last end))
        unfolding answer
        joined-over f =
            let o : Over (foldr continued (continued (get_or s (i - 1) 0) (some (acc, slice (last + 1) end s))) (slice at (i - 1) s)) = over-run _ (slice at (i - 1) s) (over-next (get_or s (i - 1) 0) acc (slice (last + 1) end s) f) in
            rw (lower, over-within _ o)

      pub joined-all : (acc : ℕ) → Joined s at last end at acc → acc < 2 ^ 64 → last < end → Some (acc, cursor (last + 1) end) ≡ answer end (within64 (up_to s at last end))
      unfolding answer
      joined-all acc j h inside =
          let l : end - length (slice (last + 1) end s) ≡ last + 1 = omega (arith, length-slice (last + 1) end s within) in
          let e : up_to s at last end ≡ some (acc, slice (last + 1) end s) = j ∙ ap (λ xs. foldr continued (some (acc, slice (last + 1) end s)) xs) (slice_empty at s) in
          rw (e, within-some acc (slice (last + 1) end s) h, l)
