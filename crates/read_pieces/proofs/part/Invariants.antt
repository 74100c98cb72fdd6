-- The loop's invariant: the label at `at` is reached, piece by piece, and more is to come.
-- The measure is what is left of the message.
use Prim.Native.Nat.{◌-◌}
use lib.ListN.{length}
use Rattle.read_pieces.proofs.Reach.{Reached}
use Rattle.read_pieces.proofs.part.Given as goal

abbrev pub invariant-loop-core : goal.invariant-loop-core
invariant-loop-core l = Reached l.m l.at

abbrev pub decreases-loop-core : goal.decreases-loop-core
decreases-loop-core l = length l.m - l.at
