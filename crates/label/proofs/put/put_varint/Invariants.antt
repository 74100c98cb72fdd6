-- `label::put::put_varint` meets its contract. The loop's invariant: with the bytes of v stored from i, the buffer is what it is to be.
-- The measure is v.
use Rattle.std.proofs.Common.{◌≡◌, ◌+◌, ◌^◌, ◌<◌, length}
use lib.Seq.{sets}
use Rattle.format.specs.Label.{varint}
use Rattle.label.proofs.put.put_varint.Given as goal

abbrev pub invariant-loop-v : goal.invariant-loop-v
invariant-loop-v l = (l.v < 2 ^ 64) × (length l.out ≡ length l.initial.out) × (l.i + length (varint l.v) ≡ l.at + length (varint l.z)) × (sets l.out l.i (varint l.v) ≡ sets l.initial.out l.at (varint l.z))

abbrev pub decreases-loop-v : goal.decreases-loop-v
decreases-loop-v l = l.v
