-- `label::put::put_varint` meets its contract. The loop's invariant: with the bytes of v stored from i, the buffer is what it is to be.
-- The measure is v.
use Rattle.std.proofs.Common.{ℕ, ◌+◌, ◌/◌, ◌%◌, length, set, sym, ap, ◌∙◌, add-one, arith, length-set, rules}
use lib.Seq.{sets}
use Rattle.format.specs.Label.{varint}
use Rattle.label.specs.Laws.{varint-small, varint-big, varint-least}
use Rattle.label.proofs.put.put_varint.Goals as goal

pub bounds-out-i : goal.bounds-out-i
bounds-out-i c = omega (arith, varint-least c.loop-v.v)

pub loop-v-preserved : goal.loop-v-preserved
loop-v-preserved c =
    let b = 128 + c.loop-v.v % 128 in
    let big = varint-big {z = c.loop-v.v} c.loop-v-test.true c.loop-v.invariant.0 in (
      search rules,
      length-set c.loop-v.out c.loop-v.i b ∙ c.loop-v.invariant.1,
      omega (arith, ap length big),
      ap (λ (n : ℕ). sets (set c.loop-v.out c.loop-v.i b) n (varint (c.loop-v.v / 128))) (add-one c.loop-v.i) ∙ sym (ap (sets c.loop-v.out c.loop-v.i) big) ∙ c.loop-v.invariant.3,
    )

pub bounds-out-i-2 : goal.bounds-out-i-2
bounds-out-i-2 c = omega (arith, varint-least c.loop-v.v)

pub returns : goal.returns
returns c =
    let small = varint-small {z = c.loop-v.v} c.loop-v-test.false in
    record { out_after = sym (ap (sets c.loop-v.out c.loop-v.i) small) ∙ c.loop-v.invariant.3; value = omega (arith, ap length small) }
