-- `utf8::more` meets its contract.
use native.Mathlib.Omega.{arith}
use Rattle.utf8.proofs.Laws.{more-short, more-bad, three-all, four-not, four-room, four-all, four-bad}
use Rattle.utf8.proofs.more.Goals as goal

pub returns-then-end-at-lt3 : goal.returns-then-end-at-lt3
returns-then-end-at-lt3 c = more-short c.args.s.now c.args.at c.args.end c.requires.0 c.requires.1 c.requires.2 c.requires.3 c.if-end-at-lt3.true

pub returns-then-not-is_second-is_tail : goal.returns-then-not-is_second-is_tail
returns-then-not-is_second-is_tail c = more-bad c.args.s.now c.args.at c.args.end c.requires.0 c.requires.1 c.requires.2 c.requires.3 c.if-end-at-lt3.false (rw (c.is_second.ensures, c.is_tail.ensures) at c.if-not-is_second-is_tail.true)

pub returns-then-b-lt240 : goal.returns-then-b-lt240
returns-then-b-lt240 c = three-all c.args.s.now c.args.at c.args.end c.requires.0 c.requires.1 c.requires.2 c.requires.3 c.if-b-lt240.true c.if-end-at-lt3.false (rw (c.is_second.ensures, c.is_tail.ensures) at c.if-not-is_second-is_tail.false)

pub returns-then-end-at : goal.returns-then-end-at
returns-then-end-at c = four-not c.args.s.now c.args.at c.args.end c.requires.0 c.requires.1 c.requires.2 c.if-b-lt240.false c.if-end-at.true

pub bounds-s-at-3 : goal.bounds-s-at-3
bounds-s-at-3 c = omega (arith, four-room c.args.s.now c.args.at c.args.end c.requires.0 c.requires.1 c.requires.2 c.if-end-at.false, c.requires.1)

pub returns-then-is_tail : goal.returns-then-is_tail
returns-then-is_tail c = four-all c.args.s.now c.args.at c.args.end c.requires.0 c.requires.1 c.requires.2 c.if-b-lt240.false c.if-end-at.false (rw (c.is_second.ensures, c.is_tail.ensures) at c.if-not-is_second-is_tail.false) (rw c.is_tail-2.ensures at c.if-is_tail.true)

pub returns : goal.returns
returns c = four-bad c.args.s.now c.args.at c.args.end c.requires.0 c.requires.1 c.requires.2 c.if-b-lt240.false c.if-end-at.false (rw (c.is_second.ensures, c.is_tail.ensures) at c.if-not-is_second-is_tail.false) (rw c.is_tail-2.ensures at c.if-is_tail.false)
