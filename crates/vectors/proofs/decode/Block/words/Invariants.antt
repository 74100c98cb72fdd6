-- What was put is inside the buffer.
use Rattle.std.proofs.Common.{◌≤◌, length}
use Rattle.vectors.proofs.decode.Block.words.Given as goal

abbrev pub invariant-loop-3 : goal.invariant-loop-3
invariant-loop-3 l = l.size ≤ length l.into

abbrev pub invariant-loop-2 : goal.invariant-loop-2
invariant-loop-2 l = l.size ≤ length l.into

abbrev pub invariant-loop : goal.invariant-loop
invariant-loop l = l.size ≤ length l.into
