-- `store::set_rest` meets its contract. Neither a slot nor a literal stands in the two words.
use Rattle.store.proofs.Slots.{rest-is}
use Rattle.store.proofs.set_rest.Goals as goal

pub returns : goal.returns
returns c = rest-is c.args.work.now c.requires.0 c.args.at c.args.end
