-- `store::slot_count` meets its contract.
use mathlib.Core.Path.{sym}
use Rattle.store.specs.Slots.{slot-most}
use Rattle.store.proofs.Slots.{slots_length}
use Rattle.store.proofs.slot_count.Goals as goal

pub returns : goal.returns
returns c = record { value = sym (slots_length c.args.work.now); upper_bound = slot-most c.args.work.now c.requires }
