-- `argo::shown` meets its contract: each case's words are those of the row that it tells of.
use mathlib.Core.Path.{refl, ap, subst, ◌∙◌}
use mir.Syntax.{w64}
use mir.ValLaws.{to_z-of_z}
use Rattle.format.specs.Answer.{ok}
use Rattle.format.specs.Label.{word}
use mathlib.Core.List.{[], ◌∷◌}
use Prim.Native.Nat.{ℕ}
use Rattle.format.specs.Row.{Says, bare, placed, Place, row, null_row, absent_row, integer_row, float_row, says_words, record_row, array_row}
use Rattle.rows.specs.Seen.{seen, RightCase}
use Rattle.argo.specs.Exported.{Shows, float_in}
use Rattle.argo.proofs.Laws.{shows, no_word}
use borrow.Author.Rules.{rules}
use Rattle.argo.proofs.shown.Goals as goal

pub returns-in-Null : goal.returns-in-Null
unfolding seen says_words float_in
returns-in-Null c = rw c.in-Null.is (shows (bare null_row 0) c.row.ensures refl refl)

pub returns-in-Absent : goal.returns-in-Absent
unfolding seen says_words float_in
returns-in-Absent c = rw c.in-Absent.is (shows (bare absent_row 0) c.row-in-Absent.ensures refl refl)

pub returns-in-Truth : goal.returns-in-Truth
unfolding seen says_words
returns-in-Truth c = rw c.in-Truth.is (subst (Shows _) (ap (λ (x : Says Place). ok (row c.args.node x)) c.truth_kind.ensures) (shows (bare _ 0) c.row-in-Truth.ensures refl (no_word _)))

pub returns-in-Integer : goal.returns-in-Integer
unfolding seen says_words float_in
returns-in-Integer c = rw c.in-Integer.is (shows (bare integer_row _) c.row-in-Integer.ensures (ap (λ (n : ℕ). integer_row ∷ n ∷ 0 ∷ []) (c.word_of.ensures ∙ ap word (to_z-of_z w64 _ (search rules)))) refl)

pub returns-in-Float : goal.returns-in-Float
unfolding seen says_words float_in RightCase
returns-in-Float c = rw c.in-Float.is (shows (bare float_row _) c.row-in-Float.ensures refl (subst RightCase c.in-Float.is c.requires))

pub returns-in-String : goal.returns-in-String
unfolding seen says_words float_in
returns-in-String c = rw c.in-String.is (shows (placed _ _) c.placed.ensures refl refl)

pub returns-in-Bytes : goal.returns-in-Bytes
unfolding seen says_words float_in
returns-in-Bytes c = rw c.in-Bytes.is (shows (placed _ _) c.placed-in-Bytes.ensures refl refl)

pub returns-in-Fixed : goal.returns-in-Fixed
unfolding seen says_words float_in
returns-in-Fixed c = rw c.in-Fixed.is (shows (placed _ _) c.placed-in-Fixed.ensures refl refl)

pub returns-in-Record : goal.returns-in-Record
unfolding seen says_words float_in
returns-in-Record c = rw c.in-Record.is (shows (bare record_row _) c.row-in-Record.ensures refl refl)

pub returns-in-Array : goal.returns-in-Array
unfolding seen says_words float_in
returns-in-Array c = rw c.in-Array.is (shows (bare array_row _) c.row-in-Array.ensures refl refl)
