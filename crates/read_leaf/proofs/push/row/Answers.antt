-- `read_leaf::push::row` meets its contract.
use mathlib.Core.Path.{◌≡◌}
use borrow.Author.Rules.{rules}
use Rattle.std.specs.Prelude.{Err}
use Rattle.read_leaf.specs.Does.{row_put, row-not}
use Rattle.read_leaf.proofs.push.row.Goals as goal

pub returns-in_err-next : goal.returns-in_err-next
returns-in_err-next c =
    let q : c.from_residual.result ≡ Err c.in_err-next.field-0.0 = search rules in
    let h = c.from_residual.ensures.1 in
    record { does = λ m w j x v g i. rw q (row-not c.args.c j x c.push.ensures.value c.in_err-next.was) }

pub returns : goal.returns
returns c = record { does = λ m w j x v g i. row_put c.args.c j x g i c.push.ensures.value c.push.ensures.rows_after c.in_ok-next.was v }
