-- `table::header::right_count` meets its contract.
use Rattle.std.proofs.Common.{arith}
use Rattle.std.proofs.lemmas.Bool.Decides.{nat_tests}
use Rattle.format.specs.Table.{right_count}
use Rattle.table.proofs.header.right_count.Goals as goal

pub returns-then-n-le-MOST_NODES : goal.returns-then-n-le-MOST_NODES
unfolding right_count
returns-then-n-le-MOST_NODES c = grind (arith, nat_tests)

pub returns-else-n-le-MOST_NODES : goal.returns-else-n-le-MOST_NODES
unfolding right_count
returns-else-n-le-MOST_NODES c = grind (arith, nat_tests)
