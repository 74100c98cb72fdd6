-- `write_literals::head` meets its contract.
use mathlib.Core.Path.{refl}
use native.Mathlib.Omega.{arith}
use Rattle.write_literals.proofs.Chains.{head-is, head-not}
use Rattle.write_literals.proofs.head.Goals as goal

pub returns-then-total-at : goal.returns-then-total-at
returns-then-total-at c = head-not c.args.work.now c.args.b refl refl (omega (arith, c.if-total-at.true, c.total.ensures.0))

pub returns : goal.returns
returns c = head-is c.args.work.now c.args.b refl refl (omega (arith, c.if-total-at.false, c.total.ensures.0))
