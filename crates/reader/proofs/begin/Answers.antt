-- `reader::begin` meets its contract.
use mathlib.Core.Path.{sym, ◌∙◌}
use native.Mathlib.Omega.{arith}
use Rattle.store.specs.Keeping.{cleared}
use Rattle.read_literals.specs.Laws.{keeping}
use Rattle.table.specs.Answers.{met}
use Rattle.reader.proofs.Starts.{or-some, begin-inline, begin-bad, begin-found, rest-small}
use Rattle.reader.proofs.begin.Goals as goal

pub set_rest-requires : goal.set_rest-requires
set_rest-requires c = ((cleared keeping c.requires.0 c.clear.ensures).good.slots, omega (arith, c.requires.2), omega (arith, c.requires.2))

pub returns-then-inline_everything : goal.returns-then-inline_everything
returns-then-inline_everything c = begin-inline c.args.message.now.bytes.now c.args.work.now _ c.args.message.now.modes c.requires.2 c.requires.0 c.clear.ensures c.requires.1 (sym c.inline_everything.ensures ∙ c.if-inline_everything.true) c.set_rest.ensures

pub returns-in_err-parts : goal.returns-in_err-parts
returns-in_err-parts c = rw (met c.from_residual.ensures.1) (begin-bad c.args.message.now.bytes.now c.args.work.now _ c.args.message.now.modes c.requires.2 c.requires.0 c.clear.ensures (sym c.inline_everything.ensures ∙ c.if-inline_everything.false) _ c.part.ensures c.ok_or.ensures.value c.in_err-parts.was)

pub set_rest-requires-2 : goal.set_rest-requires-2
set_rest-requires-2 c =
    let b = rest-small c.args.message.now.bytes.now c.args.work.now _ c.args.message.now.modes c.requires.2 c.requires.0 c.clear.ensures (sym c.inline_everything.ensures ∙ c.if-inline_everything.false) _ c.part.ensures (or-some _ _ c.ok_or.ensures.value c.in_ok-parts.was) in
    ((cleared keeping c.requires.0 c.clear.ensures).good.slots, omega arith, omega arith)

pub returns : goal.returns
returns c = begin-found c.args.message.now.bytes.now c.args.work.now _ c.args.message.now.modes c.requires.2 c.requires.0 c.clear.ensures (sym c.inline_everything.ensures ∙ c.if-inline_everything.false) _ c.part.ensures (or-some _ _ c.ok_or.ensures.value c.in_ok-parts.was) c.set_rest-2.ensures
