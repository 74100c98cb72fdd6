-- `store::touch` meets its contract. The stores make a slot at the end.
use Rattle.store.proofs.Slots.{touch_is}
use Rattle.store.proofs.touch.Goals as goal

pub returns : goal.returns
returns c = touch_is c.args.work.now c.requires.0 c.args.key c.args.at c.args.end c.requires.1 c.requires.2 c.next_slot-n.result c.next_slot-n.ensures.0
