-- `rows::look` meets its contract: what is found, unless the node is too large.
use mathlib.Core.Path.{sym, ◌∙◌}
use native.Mathlib.Omega.{arith}
use lib.ListN.{length}
use Rattle.rows.proofs.Laws.{look-small, look-large}
use Rattle.rows.proofs.look.Goals as goal

pub returns-then-node_at : goal.returns-then-node_at
returns-then-node_at c = record { result_value = sym (look-large c.args.rows.now (length c.args.bytes.now) c.args.i (omega (arith, c.node_at.ensures, c.if-node_at.true))); right_case = tt }

pub returns : goal.returns
returns c = record { result_value = c.found.ensures.result_value ∙ sym (look-small c.args.rows.now (length c.args.bytes.now) c.args.i (omega (arith, c.node_at.ensures, c.if-node_at.false))); right_case = c.found.ensures.right_case }
