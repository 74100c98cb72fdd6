-- `write_row::row::front_at` meets its contract.
use lib.ListN.{length}
use Rattle.write_row.proofs.Rows.{no-front, front-absent, front-null, front-present, front-some, front-here}
use Rattle.write_row.proofs.row.front_at.Goals as goal

pub returns-in_err-kind : goal.returns-in_err-kind
returns-in_err-kind c = rw c.from_residual.ensures (no-front c.args.omittable c.args.nullable _ c.in_err-kind.ensures)

pub returns-then-omittable : goal.returns-then-omittable
returns-then-omittable c = front-absent c.args.node (length c.args.pool.now) c.args.i c.args.rows.now c.args.omittable c.args.nullable (rw c.in-Absent.is at c.in_ok-kind.ensures) c.if-omittable.true

pub returns-then-nullable : goal.returns-then-nullable
returns-then-nullable c = front-null c.args.node (length c.args.pool.now) c.args.i c.args.rows.now c.args.omittable c.args.nullable (rw c.in-Null.is at c.in_ok-kind.ensures) c.if-nullable.true

pub returns-else-omittable : goal.returns-else-omittable
returns-else-omittable c = front-present c.args.node (length c.args.pool.now) c.args.i c.args.rows.now c.args.omittable c.args.nullable (rw c.in-Absent.is at c.in_ok-kind.ensures) c.if-omittable.false

pub returns-else-nullable : goal.returns-else-nullable
returns-else-nullable c = front-some c.args.node (length c.args.pool.now) c.args.i c.args.rows.now c.args.omittable c.args.nullable (rw c.in-Null.is at c.in_ok-kind.ensures) c.if-nullable.false

pub returns-in_default : goal.returns-in_default
returns-in_default c = front-here c.args.omittable c.args.nullable _ c.in_ok-kind.kind c.in_ok-kind.ensures c.in_default.not-Null c.in_default.not-Absent
