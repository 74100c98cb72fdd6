-- `store::slot_at` meets its contract.
use mathlib.Core.Path.{refl}
use native.Mathlib.Omega.{arith}
use Rattle.store.proofs.Slots.{slot-in, slot_is}
use Rattle.store.proofs.slot_at.Goals as goal

pub overflow_add-key : goal.overflow_add-key
overflow_add-key c = omega (arith, slot-in c.args.work.now c.requires.0 c.args.i c.requires.1)

pub offset_bounds-work-i : goal.offset_bounds-work-i
offset_bounds-work-i c = omega (arith, slot-in c.args.work.now c.requires.0 c.args.i c.requires.1)

pub bounds-work-i : goal.bounds-work-i
bounds-work-i c = omega (arith, slot-in c.args.work.now c.requires.0 c.args.i c.requires.1)

pub bounds-work-key : goal.bounds-work-key
bounds-work-key c = omega (arith, slot-in c.args.work.now c.requires.0 c.args.i c.requires.1)

pub bounds-work-key-2 : goal.bounds-work-key-2
bounds-work-key-2 c = omega (arith, slot-in c.args.work.now c.requires.0 c.args.i c.requires.1)

pub returns-clause-i_value : goal.returns-clause-i_value
returns-clause-i_value c = slot_is c.args.work.now c.requires.0 c.args.i c.requires.1 refl refl refl

pub returns-clause-key_bound : goal.returns-clause-key_bound
returns-clause-key_bound c = ((slot-in c.args.work.now c.requires.0 c.args.i c.requires.1).1, (c.type_inv.work _).fits, (c.type_inv.work _).fits)
