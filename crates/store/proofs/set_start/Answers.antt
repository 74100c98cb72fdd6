-- `store::set_start` meets its contract.
use Rattle.store.proofs.Slots.{begun-is}
use Rattle.store.proofs.set_start.Goals as goal

pub returns : goal.returns
returns c = begun-is c.args.work.now c.args.key c.args.start c.requires.0 c.requires.1
