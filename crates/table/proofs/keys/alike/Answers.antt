-- `table::keys::alike` meets its contract.
use borrow.Author.Tests.{eq-eqb, ne_eqb}
use Rattle.format.specs.Table.{alike}
use Rattle.table.proofs.keys.alike.Goals as goal

pub returns-then-number_at : goal.returns-then-number_at
unfolding alike
returns-then-number_at c = simp (← c.number_at.ensures, ← c.number_at-2.ensures, ne_eqb _ _ c.if-number_at.true)

pub returns-then-argument_at : goal.returns-then-argument_at
unfolding alike
returns-then-argument_at c = simp (← c.number_at.ensures, ← c.number_at-2.ensures, eq-eqb _ _ c.if-number_at.false, ← c.argument_at.ensures.0, ← c.argument_at-2.ensures.0, ne_eqb _ _ c.if-argument_at.true)

pub returns : goal.returns
unfolding alike
returns c = simp (← c.number_at.ensures, ← c.number_at-2.ensures, eq-eqb _ _ c.if-number_at.false, ← c.argument_at.ensures.0, ← c.argument_at-2.ensures.0, eq-eqb _ _ c.if-argument_at.false, c.flags_at.ensures, c.flags_at-2.ensures)
