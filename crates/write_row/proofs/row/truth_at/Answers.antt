-- `write_row::row::truth_at` meets its contract.
use lib.ListN.{length}
use Rattle.write_row.proofs.Rows.{no-truth, truth-not, truth-false, truth-true}
use Rattle.write_row.proofs.row.truth_at.Goals as goal

pub returns-in_err-kind : goal.returns-in_err-kind
returns-in_err-kind c = rw c.from_residual.ensures (no-truth _ c.in_err-kind.ensures)

pub returns-in_default : goal.returns-in_default
returns-in_default c = truth-not _ c.in_ok-kind.kind c.in_ok-kind.ensures c.in_default.not-False c.in_default.not-True

pub returns-in-True : goal.returns-in-True
returns-in-True c = truth-true c.args.node (length c.args.pool.now) c.args.i c.args.rows.now (rw c.in-True.is at c.in_ok-kind.ensures)

pub returns-in-False : goal.returns-in-False
returns-in-False c = truth-false c.args.node (length c.args.pool.now) c.args.i c.args.rows.now (rw c.in-False.is at c.in_ok-kind.ensures)
