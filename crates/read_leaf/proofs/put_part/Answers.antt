-- `read_leaf::put_part` meets its contract.
use Rattle.read_leaf.proofs.Leaves.{part-row}
use Rattle.read_leaf.proofs.put_part.Goals as goal

pub returns : goal.returns
returns c = part-row c.row.ensures
