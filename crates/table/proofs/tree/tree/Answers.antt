-- `table::tree::tree` meets its contract.
use Rattle.format.specs.Table.{node_at}
use Rattle.table.specs.Answers.{met}
use Rattle.table.proofs.Trees.{tree-not, tree-left, tree-done}
use Rattle.table.proofs.tree.tree.Goals as goal

pub returns-in_err-j : goal.returns-in_err-j
returns-in_err-j c = rw (met c.from_residual.ensures.1) (tree-not c.args.counted.now.n (node_at c.args.counted.now.table.now) c.node.ensures c.in_err-j.was)

pub returns-then-j-counted : goal.returns-then-j-counted
returns-then-j-counted c = tree-left c.args.counted.now.n (node_at c.args.counted.now.table.now) c.node.ensures c.in_ok-j.was c.if-j-counted.true

pub returns : goal.returns
returns c = tree-done c.args.counted.now.n (node_at c.args.counted.now.table.now) c.node.ensures c.in_ok-j.was c.if-j-counted.false
