-- A number of 27 bits from the bytes of a text. Equal texts have equal numbers, since it is a function of the bytes; nothing else is asked of it but that it is small.
use Rattle.std.specs.Prelude.{cond, ℕ, zero, suc, ◌+◌, ◌-◌, ◌*◌, ◌/◌, ◌%◌, ◌<◌, eqb, ltb, length, get_or}
use Rattle.std.proofs.Common.{arith}
use Rattle.format.specs.Row.{Text}

-- four bytes, and eight, the lowest first
abbrev pub word4 : Text → ℕ → ℕ
word4 v i = get_or v i 0 + 256 * get_or v (i + 1) 0 + 65536 * get_or v (i + 2) 0 + 16777216 * get_or v (i + 3) 0

unfoldable pub word8 : Text → ℕ → ℕ
word8 v i = word4 v i + 4294967296 * word4 v (i + 4)

-- the first and last bytes of a text of fewer than eight
unfoldable pub few : Text → ℕ
few v = cond (ltb (length v) 4)
    (cond (eqb (length v) 0) 0 (get_or v 0 0 + 256 * get_or v (length v / 2) 0 + 65536 * get_or v (length v - 1) 0))
    (word4 v 0 + 4294967296 * word4 v (length v - 4))

abbrev pub spread : ℕ → ℕ
spread w = w % 4294967296 * 2246822519 + w / 4294967296 * 1540483477

unfoldable pub mixed : ℕ → ℕ → ℕ
mixed h w = (31 * h + spread w / 4294967296 + spread w % 4294967296) % 4294967296

-- from one word to the next: all bytes of a text of up to 64, and nine words of a longer one
unfoldable pub stride : ℕ → ℕ
stride size = cond (ltb 64 size) ((size - 8) / 7) 8

-- the words at 0, step, 2 * step, .. that end before the text does, t of them at most
unfoldable pub folded : Text → ℕ → ℕ → ℕ
folded v step zero = 0
folded v step (suc t) = cond (ltb (step * t + 8) (length v)) (mixed (folded v step t) (word8 v (step * t))) (folded v step t)

-- and the last eight bytes
unfoldable pub whole : Text → ℕ
whole v = mixed (folded v (stride (length v)) (length v)) (word8 v (length v - 8))

unfoldable pub ended : ℕ → ℕ
ended h = h * 3266489917 / 65536 % 134217728

unfoldable pub hash : Text → ℕ
hash v = ended (cond (ltb (length v) 8) (mixed 0 (few v)) (whole v))

pub hash-small : (v : Text) → hash v < 134217728
unfolding hash ended
hash-small v = omega arith
