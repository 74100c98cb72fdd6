-- `table::passes` meets its contract.
use native.Mathlib.Omega.{arith}
use Rattle.table.specs.Answers.{met}
use Rattle.table.proofs.Chain.{header-refuses, count-is, alone-refuses, tree-refuses, keys-may, keys-refuse, all-kept}
use Rattle.table.proofs.passes.Goals as goal

pub returns-in_err-n : goal.returns-in_err-n
returns-in_err-n c = rw (met c.from_residual.ensures.1) (header-refuses c.args.table.now c.header.ensures c.in_err-n.was)

pub returns-in_err-alone : goal.returns-in_err-alone
returns-in_err-alone c = rw (met c.from_residual-in_err-alone.ensures.1) (alone-refuses c.args.table.now c.header.ensures c.in_ok-n.was c.alone.ensures c.in_err-alone.was)

pub returns-in_err-tree : goal.returns-in_err-tree
returns-in_err-tree c = rw (met c.from_residual-in_err-tree.ensures.1) (tree-refuses c.args.table.now c.header.ensures c.in_ok-n.was c.alone.ensures c.in_ok-alone.was c.tree.ensures c.in_err-tree.was)

pub invariant_of-counted : goal.invariant_of-counted
invariant_of-counted c = let e = count-is c.args.table.now c.header.ensures c.in_ok-n.was in record { inside = omega arith; most = e.1 }

pub tree-requires : goal.tree-requires
tree-requires c = omega (arith, count-is c.args.table.now c.header.ensures c.in_ok-n.was, c.requires)

pub keys-requires : goal.keys-requires
keys-requires c = (keys-may c.args.table.now c.header.ensures c.in_ok-n.was c.alone.ensures c.in_ok-alone.was c.tree.ensures c.in_ok-tree.was, omega (arith, c.tree.auto.work, c.requires))

pub returns-in_err-keys : goal.returns-in_err-keys
returns-in_err-keys c = rw (met c.from_residual-in_err-keys.ensures.1) (keys-refuse c.args.table.now c.header.ensures c.in_ok-n.was c.alone.ensures c.in_ok-alone.was c.tree.ensures c.in_ok-tree.was c.keys.ensures.value c.in_err-keys.was)

pub returns : goal.returns
returns c = all-kept c.args.table.now c.header.ensures c.in_ok-n.was c.alone.ensures c.in_ok-alone.was c.tree.ensures c.in_ok-tree.was c.keys.ensures.value c.in_ok-keys.was c.keys.ensures.beside c.requires
