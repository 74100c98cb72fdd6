-- `rows::place_under` meets its contract: the row's words against the kind, where it is there under the node.
use mathlib.Core.Path.{ap, ◌∙◌}
use lib.ListN.{length}
use Rattle.rows.specs.Placed.{place}
use Rattle.rows.proofs.Places.{none-unseen, row_other, row-place, inside-ok}
use Rattle.rows.proofs.place_under.Goals as goal

pub returns-in_err-at : goal.returns-in_err-at
returns-in_err-at c = rw c.from_residual.ensures (record { result_value = none-unseen c.args.kind ((rw c.in_err-at.was at c.start_under.ensures) (length c.args.bytes.now)); inside = tt })

pub returns-then-rows-at : goal.returns-then-rows-at
returns-then-rows-at c = record { result_value = row_other c.args.rows.now (length c.args.bytes.now) c.args.i c.args.node c.args.kind c.in_ok-at.at (rw c.in_ok-at.was at c.start_under.ensures) c.if-rows-at.true; inside = tt }

pub returns : goal.returns
returns c =
    let count = length c.args.bytes.now in
    record {
      result_value = ap place c.ok.ensures.value ∙ row-place c.args.rows.now count c.args.i c.args.node c.args.kind c.in_ok-at.at (rw c.in_ok-at.was at c.start_under.ensures) c.look_at_place.result c.requires c.if-rows-at.false c.look_at_place.ensures;
      inside = rw c.ok.ensures.value (inside-ok count _ c.look_at_place.result c.look_at_place.ensures);
    }
