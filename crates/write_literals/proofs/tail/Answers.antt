-- `write_literals::tail` meets its contract. The loop's invariant: `at` is a link of the chain, and leads to `next`.
use mathlib.Core.Path.{refl}
use native.Mathlib.Omega.{arith}
use Rattle.write_literals.proofs.Chains.{going_start, going-most, going_more, going_less}
use Rattle.write_literals.proofs.tail.Goals as goal

pub loop-next-init : goal.loop-next-init
loop-next-init c =
    let g = going_start _ _ c.start-next.ensures in
    (omega (arith, going-most c.requires.0.literals c.requires.1 g), g)

pub loop-next-smaller : goal.loop-next-smaller
loop-next-smaller c = going_less c.requires.0.literals c.requires.1 c.loop-next.invariant.1 c.loop-next-test.true refl refl

pub loop-next-preserved : goal.loop-next-preserved
loop-next-preserved c = (omega arith, going_more c.requires.0.literals c.requires.1 c.loop-next.invariant.1 c.loop-next-test.true refl refl)
