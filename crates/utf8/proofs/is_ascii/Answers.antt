-- `utf8::is_ascii` meets its contract. The loop's invariant: the flag, and the bytes still to come, decide as the whole does.
use Rattle.std.proofs.Common.{sym, ◌∙◌, drop_of_length-le}
use Rattle.std.proofs.Math.Bool.{and_assoc, and-true}
use Rattle.utf8.specs.Ascii.{is_ascii}
use Rattle.utf8.proofs.Laws.{drop-next}
use Rattle.utf8.proofs.is_ascii.Goals as goal

pub loop-b-preserved : goal.loop-b-preserved
unfolding is_ascii
loop-b-preserved c = rw and_assoc (rw (drop-next c.args.part.now c.loop-b.b-index c.loop-b-test.true) at c.loop-b.invariant)

pub returns : goal.returns
unfolding is_ascii
returns c = sym (and-true c.loop-b.all) ∙ rw (drop_of_length-le c.args.part.now c.loop-b-test.false) at c.loop-b.invariant
