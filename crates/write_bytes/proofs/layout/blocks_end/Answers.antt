-- `write_bytes::layout::blocks_end` meets its contract: what has been added up and what is left make the whole.
use native.Mathlib.Omega.{arith}
use Rattle.write_bytes.specs.State.{slots_of}
use Rattle.write_bytes.proofs.Layouts.{slot-there, slots_length, space-next, space-end}
use Rattle.write_bytes.proofs.layout.blocks_end.Goals as goal

pub loop-i-preserved : goal.loop-i-preserved
loop-i-preserved c =
    let e = space-next (slots_of c.args.work.now) c.loop-i.i (slot-there c.args.work.now c.loop-i.i c.slot_at-slot.ensures.i_value) in
    (omega (arith, c.framed-at.ensures.0, c.loop-i.invariant.0), omega (arith, c.framed-at.ensures.1, c.slot_at-slot.ensures.key_bound.1, c.loop-i.invariant.1))

pub returns : goal.returns
returns c =
    let e = space-end (slots_of c.args.work.now) c.loop-i.i (omega (arith, slots_length c.args.work.now, c.slot_count-n.ensures.value)) in
    (omega (arith, c.loop-i.invariant.0), omega (arith, c.loop-i.auto.i-end, c.loop-i.invariant.1, c.slot_count-n.ensures.upper_bound))
