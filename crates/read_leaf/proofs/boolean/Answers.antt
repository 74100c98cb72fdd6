-- `read_leaf::boolean` meets its contract.
use mathlib.Core.Path.{◌≡◌}
use mir.Syntax.{w64}
use mir.ValLaws.{to_z-of_z}
use borrow.Author.Rules.{rules}
use Rattle.std.specs.Prelude.{Err}
use Rattle.format.specs.Row.{false_row, true_row}
use Rattle.read_leaf.proofs.Leaves.{boolean-not, boolean-24, boolean-row, truth-false, truth-true, truth-24}
use Rattle.read_leaf.proofs.boolean.Goals as goal

pub returns-in_err-l : goal.returns-in_err-l
returns-in_err-l c =
    let q : c.from_residual.result ≡ Err c.in_err-l.field-0.0 = search rules in
    rw q (boolean-not c.own_label.ensures c.in_err-l.was)

pub returns-then-is_label : goal.returns-then-is_label
returns-then-is_label c =
    boolean-row c.own_label.ensures false_row c.in_ok-l.was (truth-false _ (to_z-of_z w64 _ (search rules)) c.is_label.ensures c.if-is_label.true)
    c.row.ensures

pub returns-then-is_label-2 : goal.returns-then-is_label-2
returns-then-is_label-2 c =
    boolean-row c.own_label.ensures true_row c.in_ok-l.was
    (truth-true _ (to_z-of_z w64 _ (search rules)) c.is_label.ensures c.if-is_label.false c.is_label-2.ensures c.if-is_label-2.true) c.row-then-is_label-2.ensures

pub returns : goal.returns
returns c =
    boolean-24 c.own_label.ensures c.in_ok-l.was
    (truth-24 _ (to_z-of_z w64 _ (search rules)) c.is_label.ensures c.if-is_label.false c.is_label-2.ensures c.if-is_label-2.false)
