-- `rows::look_under` meets its contract: what is found, unless it is under another node.
use mathlib.Core.Path.{sym, ◌∙◌}
use lib.ListN.{length}
use Rattle.rows.proofs.Laws.{under-other, under-found}
use Rattle.rows.proofs.look_under.Goals as goal

pub returns-then-node_at-node : goal.returns-then-node_at-node
returns-then-node_at-node c = record { result_value = sym (under-other c.args.rows.now (length c.args.bytes.now) c.args.i c.args.node (λ e. c.if-node_at-node.true (c.node_at.ensures ∙ e))); right_case = tt }

pub returns : goal.returns
returns c = record { result_value = under-found c.args.rows.now (length c.args.bytes.now) c.args.i c.args.node c.found.result (sym c.node_at.ensures ∙ c.if-node_at-node.false) c.found.ensures.result_value; right_case = c.found.ensures.right_case }
