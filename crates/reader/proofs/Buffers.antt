-- What the buffers hold at the end: the rows and zeros after them, or zeros.
use mathlib.Core.Path.{◌≡◌, refl, ap, ◌∙◌}
use mathlib.Core.List.{List, [], ◌++◌, append-nil}
use Prim.Native.Nat.{ℕ, ◌+◌, ◌-◌, ◌*◌, ◌≤◌}
use native.Mathlib.Nat.{sub-zero}
use native.Mathlib.Omega.{arith}
use lib.ListN.{length, take, drop, length-append, length-drop, drop_of_length-le}
use lib.Seq.{sets, sets-eq, take_at, drop_at, take-length}
use Rattle.std.specs.Prelude.{Result, Ok, Err}
use Rattle.format.specs.Answer.{Answer, output, zeros, padded}
use Rattle.format.specs.declared.refusal.Refusal.{Refusal}
use Rattle.format.specs.Row.{Place, Row, row_width, words}
use Rattle.laws.specs.Rows.{words-length}
use Rattle.reader.specs.Reader.{Gives, used_by}

-- what stands behind the first n is set to 0
rest-zeroed : (vs rest part : List ℕ) (n : ℕ) → length vs ≡ n → part ≡ zeros (length (take (length (vs ++ rest) - n) (drop n (vs ++ rest))))
    → take n (vs ++ rest) ++ (part ++ drop (length (vs ++ rest) - n) (drop n (vs ++ rest))) ≡ vs ++ zeros (length (vs ++ rest) - n)
rest-zeroed vs rest part n e z =
    let b : length (vs ++ rest) - n ≡ length rest = omega (arith, length-append vs rest) in
    let p : part ≡ zeros (length rest) = z ∙ rw (b, drop_at vs rest n e, take-length rest) refl in
    let h : length rest ≤ length rest = omega arith in
    let d : drop (length rest) rest ≡ [] = drop_of_length-le rest h in
    rw (b, take_at vs rest n e, drop_at vs rest n e, p, d, append-nil) refl

-- rows stored from the first on, and zeros after them
rows-padded : (l part : List ℕ) (rs : List (Row Place)) → row_width * length rs ≤ length l
    → part ≡ zeros (length (take (length (sets l 0 (words rs)) - row_width * length rs) (drop (row_width * length rs) (sets l 0 (words rs)))))
    → take (row_width * length rs) (sets l 0 (words rs)) ++ (part ++ drop (length (sets l 0 (words rs)) - row_width * length rs) (drop (row_width * length rs) (sets l 0 (words rs)))) ≡ padded (length l) (words rs)
rows-padded l part rs h z =
    let k : length (words rs) ≡ row_width * length rs = words-length rs in
    let s : sets l 0 (words rs) ≡ words rs ++ drop (0 + length (words rs)) l = sets-eq (words rs) l 0 (omega arith) in
    let b : length (words rs ++ drop (0 + length (words rs)) l) - row_width * length rs ≡ length l - length (words rs) = omega (arith, length-append (words rs) (drop (0 + length (words rs)) l), length-drop (0 + length (words rs)) l) in
    rw s (rest-zeroed (words rs) (drop (0 + length (words rs)) l) part (row_width * length rs) k (rw s at z) ∙ ap (λ i. words rs ++ zeros i) b)

-- what is left behind the answer is set to 0
abbrev cleared : List ℕ → List ℕ → ℕ → List ℕ
cleared l part used = take used l ++ (part ++ drop (length l - used) (drop used l))

module _ (table l l₁ w part : List ℕ) (a : Answer (List (Row Place))) (k : length l₁ ≡ length l) where
  by-step : (r : Result ℕ Refusal) → Gives table l l₁ w r a → part ≡ zeros (length (take (length l₁ - used_by r) (drop (used_by r) l₁))) → cleared l₁ part (used_by r) ≡ output words (length l) a
  unfolding output
  by-step (Err e) (g, t) z = rw g (rest-zeroed [] l₁ part 0 refl z ∙ rw (k, sub-zero) refl)
  by-step (Ok n) (rs, e, q, s, f, t) z = rw e (rw (q, s) (rows-padded l part rs f (rw (q, s) at z)))

  pub left-zero : {used : ℕ} (r : Result ℕ Refusal) → Gives table l l₁ w r a → used ≡ used_by r → part ≡ zeros (length (take (length l₁ - used) (drop used l₁))) → cleared l₁ part used ≡ output words (length l) a
  left-zero r g u z = rw u (by-step r g (rw u at z))
