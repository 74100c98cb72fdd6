-- `read_walk::parent::count_of` meets its contract.
use mathlib.Core.Path.{◌∙◌}
use mir.Syntax.{w64}
use mir.ValLaws.{to_z-of_z}
use Rattle.table.specs.Answers.{met}
use Rattle.read_walk.proofs.Parents.{array-bad, array-low, array-holds, record-labelled, record-holds}
use borrow.Author.Rules.{rules}
use Rattle.read_walk.proofs.parent.count_of.Goals as goal

pub returns-in_err-l : goal.returns-in_err-l
returns-in_err-l c = rw (met c.from_residual.ensures.1) (array-bad c.args.table.now c.args.m.now c.args.node c.args.repeated c.args.front c.args.c c.requires.2 c.if-repeated.true _ c.own_label.ensures c.in_err-l.was)

pub returns-in_default : goal.returns-in_default
returns-in_default c = array-low c.args.table.now c.args.m.now c.args.node c.args.repeated c.args.front c.args.c c.requires.2 c.if-repeated.true _ c.own_label.ensures c.in_ok-l.was _ (c.size_of.ensures ∙ to_z-of_z w64 c.in_ok-l.l (search rules)) c.in_default.is

pub returns-then-repeated : goal.returns-then-repeated
returns-then-repeated c = array-holds c.args.table.now c.args.m.now c.args.node c.args.repeated c.args.front c.args.c c.requires.2 c.if-repeated.true _ c.own_label.ensures c.in_ok-l.was _ (c.size_of.ensures ∙ to_z-of_z w64 c.in_ok-l.l (search rules)) c.in-Of.is

pub returns-then-not-is_bare : goal.returns-then-not-is_bare
returns-then-not-is_bare c = record-labelled c.args.table.now c.args.m.now c.args.node c.args.repeated c.args.front c.args.c c.requires.2 c.if-repeated.false _ c.is_bare.ensures c.if-not-is_bare.true

pub returns : goal.returns
returns c = record-holds c.args.table.now c.args.m.now c.args.node c.args.repeated c.args.front c.args.c c.requires.2 c.if-repeated.false _ c.is_bare.ensures c.requires.0 c.if-not-is_bare.false c.argument_at.ensures.0
