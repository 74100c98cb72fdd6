-- The refusals by name, for the code's answers: the number that the sheet gives each, and its second number.
use Rattle.std.specs.Prelude.{ℕ, Option, Some, None, Result, Ok, Err}
use Rattle.format.specs.Answer.{Answer, ok, refuse}
use Rattle.format.specs.declared.refusal.Refusal.{Refusal}
use Rattle.format.specs.declared.refusal.Refusal.TheVariants as refusal

abbrev pub number_of : Refusal → ℕ
number_of refusal.WorkShort = 1
number_of refusal.TableMark = 10
number_of refusal.TableVersion = 11
number_of refusal.TableSize = 12
number_of (refusal.TableNode i) = 13
number_of (refusal.TableTree i) = 14
number_of (refusal.TableKey i) = 15
number_of refusal.MessageSize = 20
number_of refusal.Header = 21
number_of refusal.Pieces = 22
number_of refusal.Label = 23
number_of refusal.LabelPlace = 24
number_of refusal.Error = 25
number_of refusal.Backreference = 26
number_of refusal.Cut = 27
number_of (refusal.Text i) = 28
number_of refusal.NoBlock = 29
number_of refusal.Unused = 30
number_of refusal.ManyRows = 31
number_of refusal.ManyLiterals = 32
number_of refusal.Terminator = 35
number_of refusal.Modes = 40
number_of refusal.RowsSize = 41
number_of (refusal.Unfit i) = 42
number_of refusal.NoRoom = 43
number_of refusal.NoRow = 50
number_of refusal.BadRow = 51

-- «else 0»
abbrev pub second_of : Refusal → ℕ
second_of (refusal.TableNode i) = i
second_of (refusal.TableTree i) = i
second_of (refusal.TableKey i) = i
second_of (refusal.Text i) = i
second_of (refusal.Unfit i) = i
second_of refusal.WorkShort = 0
second_of refusal.TableMark = 0
second_of refusal.TableVersion = 0
second_of refusal.TableSize = 0
second_of refusal.MessageSize = 0
second_of refusal.Header = 0
second_of refusal.Pieces = 0
second_of refusal.Label = 0
second_of refusal.LabelPlace = 0
second_of refusal.Error = 0
second_of refusal.Backreference = 0
second_of refusal.Cut = 0
second_of refusal.NoBlock = 0
second_of refusal.Unused = 0
second_of refusal.ManyRows = 0
second_of refusal.ManyLiterals = 0
second_of refusal.Terminator = 0
second_of refusal.Modes = 0
second_of refusal.RowsSize = 0
second_of refusal.NoRoom = 0
second_of refusal.NoRow = 0
second_of refusal.BadRow = 0

-- What a function of the code answers, in the sheet's terms.
abbrev pub refused : {A : Type 0} → Refusal → Answer A
refused r = refuse (number_of r) (second_of r)

abbrev pub answered : {A : Type 0} → Result A Refusal → Answer A
answered (Ok a) = ok a
answered (Err r) = refused r

-- the same, where the code makes its answer's value another way
abbrev pub answered_by : {A B : Type 0} → (A → B) → Result A Refusal → Answer B
answered_by f (Ok a) = ok (f a)
answered_by f (Err r) = refused r

-- one that a function answers in place of `none`
abbrev pub needed : {A B : Type 0} → (A → B) → Option A → Refusal → Answer B
needed f (Some a) r = ok (f a)
needed f None r = refused r
