-- `write_bytes::text::keep` meets its contract.
use native.Mathlib.Omega.{arith}
use Rattle.write_literals.specs.Laws.{total-is}
use Rattle.write_bytes.proofs.Texts.{keeps-none, keeps-over, keeps-more}
use Rattle.write_bytes.proofs.text.keep.Goals as goal

pub returns-then-not-numbered : goal.returns-then-not-numbered
returns-then-not-numbered c = keeps-none _ _ _ c.if-not-numbered.true c.requires.0

pub returns-then-total-ge4096 : goal.returns-then-total-ge4096
returns-then-total-ge4096 c = keeps-over _ _ _ c.if-not-numbered.false (omega (arith, c.total.ensures.0, total-is c.args.work.now c.requires.0.literals)) c.set_over.ensures

pub add-requires : goal.add-requires
add-requires c = (c.requires.0, c.requires.1, omega (arith, c.total.ensures.0, total-is c.args.work.now c.requires.0.literals), c.requires.2, c.requires.3)

pub returns : goal.returns
returns c = keeps-more _ _ _ c.if-not-numbered.false (omega (arith, c.total.ensures.0, total-is c.args.work.now c.requires.0.literals)) c.add.ensures
