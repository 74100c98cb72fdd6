-- `read_literals::next_page` meets its contract.
use mathlib.Core.Path.{sym}
use native.Mathlib.Omega.{arith}
use Rattle.read_literals.specs.Laws.{count_most}
use Rattle.read_literals.proofs.Literals.{page-new, page-old}
use Rattle.read_literals.proofs.next_page.Goals as goal

pub returns-then-n-eq0 : goal.returns-then-n-eq0
returns-then-n-eq0 c = sym (page-new c.args.work.now c.args.key c.if-n-eq0.true)

pub bounds-work-key-2 : goal.bounds-work-key-2
bounds-work-key-2 c = omega (arith, count_most c.args.work.now c.requires.0.literals c.args.key c.requires.1, c.requires.0.literals.most, c.requires.0.slots.whole)

pub returns : goal.returns
returns c = sym (page-old c.args.work.now c.args.key c.if-n-eq0.false)
