-- Bytes stored, and the 00 behind a part.
use mathlib.Core.Path.{◌≡◌, refl, sym, ap, ◌∙◌}
use mathlib.Core.Bool.{Bool, true, false}
use mathlib.Core.List.{List, [], ◌++◌, append-nil}
use Prim.Native.Nat.{ℕ, ◌+◌, ◌-◌, ◌<◌, ◌≤◌}
use Rattle.std.proofs.Math.Nat.{div-div-eq-div-mul}
use native.Mathlib.Nat.{add-suc}
use native.Mathlib.Numerals.{add-one}
use native.Mathlib.Omega.{arith}
use lib.ListN.{length, length-append, get_or, set, take, drop, drop_of_length-le}
use lib.Seq.{sets, drop-cons, take-length, length-sets}
use borrow.Rule.Slice.PartMut.{put_mid}
use mir.Syntax.{w64}
use Rattle.std.specs.Int.{to_le_bytes}
use Rattle.std.proofs.lemmas.List.Edits.{sets-eq}
use Rattle.std.proofs.lemmas.Slice.{put_mid-paste}
use Rattle.format.specs.Row.{Place, bytes_at}
use Rattle.format.specs.Read.{ending}
use Rattle.format.specs.Write.{little_endian_bytes}
use Rattle.laws.specs.Lists.{sets-append}

-- so many bytes of the output are overwritten
pub written : (out : List ℕ) (at n : ℕ) {ys bs : List ℕ} → ys ≡ bs → length bs ≡ n → at + n ≤ length out → put_mid at (at + n - at) out ys ≡ sets out at bs
written out at n {ys} {bs} e l h =
    let a : at + length bs ≤ length out = omega arith in
    let k : length bs ≡ at + n - at = omega arith in
    put_mid-paste at (at + n - at) out ys bs (length bs) e k refl ∙ rw (take-length bs) (sym (sets-eq bs out at a))

-- a word's bytes
pub word-bytes : (word : ℕ) → to_le_bytes w64 word ≡ little_endian_bytes 8 word
unfolding little_endian_bytes
word-bytes word = simp div-div-eq-div-mul

-- ---- a part, and the 00 behind it where it is ended by one

pub one-ending : (ended : Bool) → ended ≡ true → length (ending ended) ≡ 1
unfolding ending
one-ending ended b = rw b

-- the first bytes are stored, and the others go behind them
module _ (out bs : List ℕ) (at i : ℕ) where
  pub copied_more : i < length bs → sets (set out (at + i) (get_or bs i 0)) (at + (i + 1)) (drop (i + 1) bs) ≡ sets out (at + i) (drop i bs)
  copied_more h = rw (drop-cons bs i 0 h, add-one i, add-suc at i)

  pub copied : length bs ≤ i → sets out (at + i) (drop i bs) ≡ out
  copied h = let e : drop i bs ≡ [] = drop_of_length-le bs {i = i} h in rw e

module _ (out : List ℕ) (at : ℕ) (bs : List ℕ) (ended : Bool) {ys : List ℕ} (after : ys ≡ sets out at bs) (room : at + length (bs ++ ending ended) ≤ length out) where
  pub part_plain : ended ≡ false → ys ≡ sets out at (bs ++ ending ended)
  unfolding ending
  part_plain b = after ∙ rw (b, append-nil)

  pub part-room : ended ≡ true → at + length bs < length ys
  part-room b = rw after (omega (arith, length-sets out at bs, length-append bs (ending ended), one-ending ended b))

  pub part_ended : ended ≡ true → set ys (at + length bs) 0 ≡ sets out at (bs ++ ending ended)
  unfolding ending
  part_ended b = ap (λ l. set l (at + length bs) 0) after ∙ an-ending b ∙ sets-append out at bs (ending ended)
    where
      an-ending : ended ≡ true → set (sets out at bs) (at + length bs) 0 ≡ sets (sets out at bs) (at + length bs) (ending ended)
      an-ending b = rw b

-- the pool's part as a slice of it
pub part-slice : (pool : List ℕ) (p : Place) → take (p.start + p.size - p.start) (drop p.start pool) ≡ bytes_at pool p
part-slice pool p = ap (λ n. take n (drop p.start pool)) (omega arith)
