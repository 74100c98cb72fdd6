-- What the C interface answers of a row: words of their own in place of an enum, and a place in place of a part of the lent bytes.
use Rattle.std.specs.Prelude.{◌≡◌, cond, List, [], ◌∷◌, ℕ, ◌+◌, ◌≤◌, eqb, length, Float, Result}
use Rattle.format.specs.Answer.{Answer, ok, refuse, number as number_of, second as second_of, zeros}
use Rattle.format.specs.Refusal.{answered}
use Rattle.format.specs.declared.refusal.Refusal.{Refusal}
use Rattle.format.specs.Row.{Says, bare, placed, Row, Place, row_width, row_words, float_row, float_of, bytes_at, found, part as part_of}
use Rattle.argo.specs.declared.Answer.{Answer as Numbered}
use Rattle.argo.specs.declared.Seen.{Seen}
use Rattle.argo.specs.declared.Place.{Place as Start}

-- The two numbers of what a call of the library answers.
pub record Numbers (r : Result ℕ Refusal) (a : Numbered) : Type 0 where
  pub number : a.number ≡ number_of (answered r)
  pub second : a.second ≡ second_of (λ count. count) (answered r)

-- the row's four words; zeros where it is refused
unfoldable pub words_of : Answer (Row Place) → List ℕ
words_of (ok r) = row_words r
words_of (refuse n i) = zeros row_width

-- the float of a float's row; 0 for any other, and where it is refused
unfoldable pub float_in : Says Place → Float
float_in (bare kind a) = cond (eqb kind float_row) (float_of a) (float_of 0)
float_in (placed kind p) = float_of 0

unfoldable pub value_of : Answer (Row Place) → Float
value_of (ok r) = float_in r.says
value_of (refuse n i) = float_of 0

-- What the call that looks at a row answers, field by field. «looking at a row has 0 there»
pub record Shows (r : Seen) (a : Answer (Row Place)) : Type 0 where
  pub number : r.number ≡ number_of a
  pub second : r.second ≡ second_of (λ row. 0) a
  pub words : (r.kind ∷ r.a ∷ r.b ∷ r.node ∷ []) ≡ words_of a
  pub value : r.value ≡ value_of a

-- where the part of a row stands; a row that names none has the empty part, whose start these papers leave free: it is 0
unfoldable pub place_in : Says Place → Place
place_in (bare kind a) = record { start = 0; size = 0 }
place_in (placed kind p) = p

unfoldable pub place_of : Answer (Row Place) → Place
place_of (ok r) = place_in r.says
place_of (refuse n i) = record { start = 0; size = 0 }

abbrev pub as_place : Start → Place
as_place r = record { start = r.start; size = r.len }

-- What the call for a row's part answers: what stands there is the part, and it is inside the lent bytes.
pub record Stands (rows bytes : List ℕ) (index : ℕ) (r : Start) : Type 0 where
  pub place : as_place r ≡ place_of (found rows (length bytes) index)
  pub part : bytes_at bytes (as_place r) ≡ part_of rows bytes index
  pub inside : r.start + r.len ≤ length bytes
