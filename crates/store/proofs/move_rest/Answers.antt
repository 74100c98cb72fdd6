-- `store::move_rest` meets its contract. Neither a slot nor a literal stands in the word.
use Rattle.store.proofs.Slots.{rest-moved}
use Rattle.store.proofs.move_rest.Goals as goal

pub returns : goal.returns
returns c = rest-moved c.args.work.now c.requires.0 c.args.at
