-- `write_bytes::layout::lay_blocks` meets its contract.
use mathlib.Core.Path.{sym, ◌∙◌}
use native.Mathlib.Omega.{arith}
use Rattle.write_literals.specs.Laws.{moved-advanced}
use Rattle.write_bytes.proofs.Facts.{signed_is}
use Rattle.write_bytes.proofs.Layouts.{laying-start, laying-room, laying-more, laying-end, slot-there, slots_length}
use Rattle.write_bytes.proofs.layout.lay_blocks.Goals as goal

pub loop-i-init : goal.loop-i-init
loop-i-init c = (c.slot_count-n.ensures.value ∙ sym (slots_length c.args.work.now), laying-start c.args.work.now c.args.out.now c.requires.0 c.requires.1)

pub slot_at-slot-requires : goal.slot_at-slot-requires
slot_at-slot-requires c = (c.loop-i.invariant.1.good.slots, omega (arith, c.loop-i.invariant.1.all, slots_length c.loop-i.work, c.loop-i.invariant.0, c.loop-i-test.true))

pub put_label-start-requires : goal.put_label-start-requires
put_label-start-requires c =
    rw (signed_is (record { sfits = c.count_label.type_inv }) c.count_label.ensures) (omega (arith, laying-room c.loop-i.invariant.1 (slot-there _ _ c.slot_at-slot.ensures.i_value), c.loop-i.invariant.1.size, c.requires.2))

pub advance-requires : goal.advance-requires
advance-requires c =
    let e = signed_is (record { sfits = c.count_label.type_inv }) c.count_label.ensures in
    (c.loop-i.invariant.1.good.slots, c.slot_at-slot.ensures.key_bound.0, omega (arith, rw e at c.put_label-start.ensures.value, laying-room c.loop-i.invariant.1 (slot-there _ _ c.slot_at-slot.ensures.i_value), c.requires.3))

pub overflow_add-at : goal.overflow_add-at
overflow_add-at c =
    let e = signed_is (record { sfits = c.count_label.type_inv }) c.count_label.ensures in
    omega (arith, rw e at c.put_label-start.ensures.value, laying-room c.loop-i.invariant.1 (slot-there _ _ c.slot_at-slot.ensures.i_value), c.requires.3)

pub loop-i-preserved : goal.loop-i-preserved
loop-i-preserved c =
    let e = signed_is (record { sfits = c.count_label.type_inv }) c.count_label.ensures in
    (c.loop-i.invariant.0, laying-more c.loop-i.invariant.1 (slot-there _ _ c.slot_at-slot.ensures.i_value) _ (rw e at c.put_label-start.ensures.value) (moved-advanced _ _ c.loop-i.invariant.1.good c.advance.ensures) (rw e at c.put_label-start.ensures.out_after))

pub returns : goal.returns
returns c = laying-end c.loop-i.invariant.1 (omega (arith, c.loop-i.invariant.1.all, c.loop-i.invariant.0, c.loop-i-test.false))
