-- `reader::done::all_read` meets its contract.
use native.Mathlib.Omega.{arith}
use Rattle.reader.proofs.Unused.{left-next, left_not, left-none}
use Rattle.reader.proofs.done.all_read.Goals as goal

pub returns-then-slot : goal.returns-then-slot
returns-then-slot c = left_not c.args.work.now c.loop-i.i _ c.loop-i.invariant c.slot_at-slot.ensures.i_value (omega (arith, c.slot_count-i-end.ensures.value)) c.if-slot.true

pub loop-i-preserved : goal.loop-i-preserved
loop-i-preserved c = left-next c.args.work.now c.loop-i.i _ c.loop-i.invariant c.slot_at-slot.ensures.i_value (omega (arith, c.slot_count-i-end.ensures.value)) c.if-slot.false

pub returns : goal.returns
returns c = left-none c.args.work.now c.loop-i.i c.loop-i.invariant (omega (arith, c.slot_count-i-end.ensures.value))
