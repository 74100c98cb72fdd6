-- The place of a row, of any kind or of a wanted one.
use Rattle.std.specs.Prelude.{cond, ℕ, ◌+◌, ◌≤◌, eqb, leb, Option as Optional, Some, None}
use Rattle.std.proofs.Math.Option.{Option, none, some}
use Rattle.format.specs.Answer.{Answer, ok, refuse, ◌>>◌, need}
use Rattle.format.specs.Part as part
use Rattle.format.specs.Row.{Says, bare, placed, Row, Place}
use Rattle.format.specs.declared.place.Place as code

-- of what a row says, if its kind is this one; `none` too where that is refused
unfoldable pub place_in : ℕ → Answer (Says Place) → Option Place
place_in kind (ok (bare k x)) = none
place_in kind (ok (placed k p)) = cond (eqb k kind) (some p) none
place_in kind (refuse e j) = none

-- of a row of any kind
unfoldable pub place_of : Says Place → Option Place
place_of (bare k x) = none
place_of (placed k p) = some p

unfoldable pub place_found : Answer (Row Place) → Option Place
place_found (ok r) = place_of r.says
place_found (refuse e j) = none

-- of two words, where so many bytes are lent: «51: .. its place outside the lent bytes»
unfoldable pub place_inside : ℕ → Place → Answer Place
place_inside count p = do
  need (leb (p.start + p.size) count) 51
  ok p

-- The code's answer.
abbrev pub place : Optional code.Place → Option Place
place (Some p) = some (part.place_of p)
place None = none

-- inside so many bytes
abbrev pub IsInside : ℕ → code.Place → Type 0
IsInside count p = p.start + p.size ≤ count
