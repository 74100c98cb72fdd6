-- `utf8::two` meets its contract.
use Rattle.utf8.proofs.Laws.{two-short, two-all, two-bad}
use Rattle.utf8.proofs.two.Goals as goal

pub returns-then-end-at-lt2 : goal.returns-then-end-at-lt2
returns-then-end-at-lt2 c = two-short c.args.s.now c.args.at c.args.end c.requires.0 c.requires.1 c.requires.2 c.requires.3 c.requires.4 c.if-end-at-lt2.true

pub returns-then-b-is_tail : goal.returns-then-b-is_tail
returns-then-b-is_tail c = two-all c.args.s.now c.args.at c.args.end c.requires.0 c.requires.1 c.requires.2 c.requires.4 c.if-end-at-lt2.false (rw c.is_tail.ensures at c.if-b-is_tail.true)

pub returns : goal.returns
returns c = two-bad c.args.s.now c.args.at c.args.end c.requires.0 c.requires.1 c.requires.2 c.requires.3 c.requires.4 c.if-end-at-lt2.false (rw c.is_tail.ensures at c.if-b-is_tail.false)
