-- `write_walk::root` meets its contract: one entry.
use Rattle.write_walk.proofs.Several.{one_entry}
use Rattle.write_walk.proofs.root.Goals as goal

pub returns : goal.returns
returns c = one_entry c.values.ensures
