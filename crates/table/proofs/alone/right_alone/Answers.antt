-- `table::alone::right_alone` meets its contract.
use borrow.Author.Tests.{le-leb, lt-leb}
use mathlib.Core.Path.{sym, ◌∙◌}
use Rattle.format.specs.Table.{node_at}
use Rattle.table.proofs.Tests.{alone-none, alone-named}
use Rattle.table.proofs.alone.right_alone.Goals as goal

pub returns-in_default : goal.returns-in_default
returns-in_default c = alone-none (node_at c.args.table.now c.args.i) (sym c.kind_at.ensures ∙ c.in_default.is)

pub returns-then-flags-gt3 : goal.returns-then-flags-gt3
returns-then-flags-gt3 c = simp (alone-named (node_at c.args.table.now c.args.i) (sym c.kind_at.ensures ∙ c.in-Some.is), ← c.flags_at-flags.ensures, lt-leb _ _ c.if-flags-gt3.true)

pub returns-then-not-flags_may_stand : goal.returns-then-not-flags_may_stand
returns-then-not-flags_may_stand c = simp (alone-named (node_at c.args.table.now c.args.i) (sym c.kind_at.ensures ∙ c.in-Some.is), ← c.flags_at-flags.ensures, le-leb _ _ c.if-flags-gt3.false, sym c.flags_may_stand.ensures ∙ c.if-not-flags_may_stand.true)

pub returns : goal.returns
returns c = simp (alone-named (node_at c.args.table.now c.args.i) (sym c.kind_at.ensures ∙ c.in-Some.is), ← c.flags_at-flags.ensures, le-leb _ _ c.if-flags-gt3.false, sym c.flags_may_stand.ensures ∙ c.if-not-flags_may_stand.false, ← c.argument_at.ensures.0, ← c.most_argument.ensures)
