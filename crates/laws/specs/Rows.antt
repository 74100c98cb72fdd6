-- How many words rows are.
use Rattle.std.specs.Prelude.{◌≡◌, refl, List, [], ◌∷◌, ◌*◌, length}
use Rattle.std.proofs.Common.{arith, length-append}
use Rattle.format.specs.Row.{Place, Says, bare, placed, Row, row_width, says_words, row_words, words}

says-length : (x : Says Place) → length (says_words x) ≡ 3
unfolding says_words
says-length (bare k a) = refl
says-length (placed k p) = refl

pub row-length : (r : Row Place) → length (row_words r) ≡ row_width
unfolding row_words
row-length r = omega (arith, length-append (says_words r.says) (r.node ∷ []), says-length r.says)

pub words-length : (rs : List (Row Place)) → length (words rs) ≡ row_width * length rs
unfolding words
words-length [] = refl
words-length (r ∷ rs) = omega (arith, length-append (row_words r) (words rs), row-length r, words-length rs)
