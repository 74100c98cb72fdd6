-- `read_walk::root` meets its contract: one entry.
use Rattle.read_walk.proofs.Several.{one_entry}
use Rattle.read_walk.proofs.root.Goals as goal

pub returns : goal.returns
returns c = one_entry c.values.ensures
