-- `write_search::alike_to` meets its contract. The loop's invariant: the bytes so far are equal.
use native.Mathlib.Omega.{arith}
use Rattle.write_search.proofs.Hashing.{alike-more}
use Rattle.write_search.proofs.alike_to.Goals as goal

pub loop-k-preserved : goal.loop-k-preserved
loop-k-preserved c = (omega arith, omega arith, alike-more c.args.pool.now c.args.a c.args.b c.args.from c.loop-k.k c.loop-k.invariant.2 (c.same8.ensures c.if-same8.true))
