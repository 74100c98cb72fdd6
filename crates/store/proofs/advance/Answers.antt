-- `store::advance` meets its contract. One store moves the slot of the key, or nothing where it has none.
use Rattle.store.proofs.Slots.{advance-is}
use Rattle.store.proofs.advance.Goals as goal

pub returns : goal.returns
returns c = advance-is c.args.work.now c.requires.0 c.args.key c.args.at c.requires.1
