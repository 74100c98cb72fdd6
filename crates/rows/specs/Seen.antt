-- What looking at a row answers, case by case, and what looking at three words gives.
use Rattle.std.specs.Prelude.{◌≡◌, Bool, true, false, List, ℕ, eqb}
use Rattle.std.proofs.Math.Option.{Option, none, some}
use Rattle.format.specs.Answer.{Answer, ok, ◌>>=◌, ◌>>◌, need, or_refuse}
use Rattle.format.specs.Label.{word}
use Rattle.format.specs.Part.{place_of}
use Rattle.format.specs.Row.{Says, bare, placed, Row, row, Place, null_row, absent_row, false_row, true_row, integer_row, float_row, string_row, bytes_row, fixed_row, record_row, array_row, from_words, is_inside, row_node, found, float_of}
use Rattle.rows.specs.declared.Seen.{Seen}
use Rattle.rows.specs.declared.Seen.TheVariants as case

-- «null, absent, a truth, an integer, a 64-bit float with those bits, a place, or a count»: what a row says in each case. A refusal in its place is one of format's, with its number; «looking at a row has 0 there» as its second.
unfoldable pub seen : Seen → Says Place
seen case.Null = bare null_row 0
seen case.Absent = bare absent_row 0
seen (case.Truth false) = bare false_row 0
seen (case.Truth true) = bare true_row 0
seen (case.Integer n) = bare integer_row (word n)
seen (case.Float f bits) = bare float_row bits
seen (case.String p) = placed string_row (place_of p)
seen (case.Bytes p) = placed bytes_row (place_of p)
seen (case.Fixed p) = placed fixed_row (place_of p)
seen (case.Record count) = bare record_row count
seen (case.Array count) = bare array_row count

-- the same with the row's node
abbrev pub seen_under : ℕ → Seen → Row Place
seen_under node s = row node (seen s)

-- What this alone does not tell: the float is the one with those bits.
unfoldable pub RightCase : Seen → Type 0
RightCase case.Null = Unit {0}
RightCase case.Absent = Unit {0}
RightCase (case.Truth t) = Unit {0}
RightCase (case.Integer n) = Unit {0}
RightCase (case.Float f bits) = f ≡ float_of bits
RightCase (case.String p) = Unit {0}
RightCase (case.Bytes p) = Unit {0}
RightCase (case.Fixed p) = Unit {0}
RightCase (case.Record count) = Unit {0}
RightCase (case.Array count) = Unit {0}

-- Three words, looked at where so many bytes are lent: «row's kind or words not as above, or its place outside the lent bytes»
unfoldable pub inside : ℕ → Says Place → Answer (Says Place)
inside count x = do
  need (is_inside count x) 51
  ok x

unfoldable pub look_at_words : ℕ → ℕ → ℕ → ℕ → Answer (Says Place)
look_at_words kind a b count = or_refuse (from_words kind a b) 51 0 >>= inside count

-- What row i says, if it is under this node: «the writer requires it». The writer answers 42 to whatever is refused here.
unfoldable pub found_under : ℕ → List ℕ → ℕ → ℕ → Answer (Says Place)
found_under node ws count i = do
  need (eqb (row_node ws i) node) 51
  r ← found ws count i
  ok r.says

-- whether there is one
unfoldable pub is_some : {A : Type 0} → Option A → Bool
is_some none = false
is_some (some a) = true
