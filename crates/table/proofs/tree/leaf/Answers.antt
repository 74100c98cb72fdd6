-- `table::tree::leaf` meets its contract.
use native.Mathlib.Omega.{arith}
use Rattle.format.specs.Table.{node_at}
use Rattle.table.specs.Answers.{met}
use Rattle.table.proofs.Trees.{child-not, child-done, child-inside}
use Rattle.table.proofs.tree.leaf.Goals as goal

pub returns-in_err-stand : goal.returns-in_err-stand
returns-in_err-stand c = rw (met c.from_residual.ensures.1) (child-not c.args.counted.now.n (node_at c.args.counted.now.table.now) c.args.path c.args.i c.deduplicates.ensures c.stand.ensures c.in_err-stand.was)

pub bounds-work-i : goal.bounds-work-i
bounds-work-i c = omega (arith, c.requires, child-inside c.args.counted.now.n (node_at c.args.counted.now.table.now) c.args.path c.args.i c.deduplicates.ensures c.stand.ensures c.in_ok-stand.was)

pub returns : goal.returns
returns c = child-done c.args.counted.now.n (node_at c.args.counted.now.table.now) c.args.path c.args.i c.deduplicates.ensures c.stand.ensures c.in_ok-stand.was
