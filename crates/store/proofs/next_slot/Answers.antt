-- `store::next_slot` meets its contract. The slots are fewer than the keys, one of which has none.
use mathlib.Core.Path.{sym}
use Rattle.store.proofs.Slots.{slots_length, slot-room}
use Rattle.store.proofs.next_slot.Goals as goal

pub returns : goal.returns
returns c = (sym (slots_length c.args.work.now), slot-room c.args.work.now c.requires.0 c.args.key c.requires.1 c.requires.2)
