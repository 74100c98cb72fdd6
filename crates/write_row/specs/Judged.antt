-- What a row shows, where it is a row of the kind that is wanted, and what the code answers of it.
use Rattle.std.specs.Prelude.{Some, None, Bool, true, false, cond, ◌&&◌, ℕ, ◌^◌, ◌<◌, eqb, ℤ, pos}
use Rattle.std.proofs.Math.Option.{Option, none, some}
use Rattle.format.specs.Answer.{Answer, ok, refuse}
use Rattle.format.specs.Row.{Says, bare, placed, Place, Text, absent_row, null_row}
use Rattle.format.specs.Read.{absent_label, null_label}
use Rattle.format.specs.Write.{is_bare, truth_in}
use Rattle.std.specs.Prelude as code
unfoldable pub use Rattle.rows.specs.Words.{value_in}
pub use Rattle.rows.specs.Words.{word, Small}
use Rattle.write_row.specs.declared.row.Presence.{Presence}
use Rattle.write_row.specs.declared.row.Presence.TheVariants.{Absent, Null, Here}

-- The label of a truth; `none` too where looking at it is refused.
unfoldable pub truth_of : Answer (Says Place) → Option ℤ
truth_of (ok (bare k x)) = truth_in (bare k x)
truth_of (ok (placed k p)) = none
truth_of (refuse e j) = none

-- The label that is written in the place of a value that is absent or null, where it may be; else the value is here.
unfoldable pub gone : Bool → Bool → Says Text → Option ℤ
gone omittable nullable c = cond (omittable && is_bare absent_row 0 c) (some absent_label) (cond (nullable && is_bare null_row 0 c) (some null_label) none)

unfoldable pub front_of : Bool → Bool → Answer (Says Place) → Option (Option ℤ)
front_of omittable nullable (ok (bare k x)) = some (gone omittable nullable (bare k x))
front_of omittable nullable (ok (placed k p)) = some none
front_of omittable nullable (refuse e j) = none

-- The code's answers.
abbrev pub truth : code.Option Bool → Option ℤ
truth (Some false) = some (pos 0)
truth (Some true) = some (pos 1)
truth None = none

abbrev pub front : code.Option Presence → Option (Option ℤ)
front (Some Absent) = some (some absent_label)
front (Some Null) = some (some null_label)
front (Some Here) = some none
front None = none
