-- `reader::done::all_read` meets its contract.
use Rattle.reader.proofs.Unused.{LeftAt}
use Rattle.reader.proofs.done.all_read.Given as goal

abbrev pub invariant-loop-i : goal.invariant-loop-i
invariant-loop-i l = LeftAt l.work l.i
