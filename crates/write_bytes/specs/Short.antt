-- How many bytes a value has: no more than a slice's and a 00, and where it is short, 65,537.
use Rattle.std.specs.Prelude.{Bool, List, ℕ, ℤ, ◌++◌, ◌<◌, ◌≤◌, ◌^◌, length}
use native.Mathlib.Omega.{arith}
use lib.ListN.{take, drop, length-append, length-take, length-drop}
use Rattle.format.specs.Label.{label}
use Rattle.format.specs.Read.{ending}
use Rattle.format.specs.Write.{little_endian_bytes}
use Rattle.label.specs.Laws.{label-most}
use Rattle.laws.specs.Lists.{little-length}
use Rattle.write_passes.specs.Moves.{ending-most}

pub ended-most : (bs : List ℕ) (ended : Bool) → length bs ≤ 65536 → length (bs ++ ending ended) ≤ 65537
ended-most bs ended h = omega (arith, length-append bs (ending ended), ending-most ended)

-- a slice of the pool, n bytes from `start` on
pub slice-short : (pool : List ℕ) (start n : ℕ) → length pool ≤ 65536 → length (take n (drop start pool)) ≤ 65536
slice-short pool start n h = simp (length-take, length-drop) (omega arith)

pub label-short : (n : ℤ) → length (label n) ≤ 65537
label-short n = omega (arith, label-most n)

pub word-short : (word : ℕ) → length (little_endian_bytes 8 word) ≤ 65537
word-short word = omega (arith, little-length 8 word)

pub ended-bounded : (bs : List ℕ) (ended : Bool) → length bs < 2 ^ 63 → length (bs ++ ending ended) ≤ 2 ^ 63
ended-bounded bs ended h = omega (arith, length-append bs (ending ended), ending-most ended)

pub short-bounded : (bs : List ℕ) → length bs ≤ 65537 → length bs ≤ 2 ^ 63
short-bounded bs h = omega arith

pub label-bounded : (n : ℤ) → length (label n) ≤ 2 ^ 63
label-bounded n = omega (arith, label-short n)

pub word-bounded : (word : ℕ) → length (little_endian_bytes 8 word) ≤ 2 ^ 63
word-bounded word = omega (arith, word-short word)
