-- `read_leaf::text::is_ending` meets its contract.
use Rattle.read_leaf.proofs.Texts.{ending-inside, ending-is, ending-none}
use Rattle.read_leaf.proofs.text.is_ending.Goals as goal

pub bounds-m-at : goal.bounds-m-at
bounds-m-at c = ending-inside c.args.m.now c.args.at c.if-not-ended.false c.requires

pub returns-else-not-ended : goal.returns-else-not-ended
returns-else-not-ended c = ending-is c.args.m.now c.args.at c.if-not-ended.false

pub returns-then-not-ended : goal.returns-then-not-ended
returns-then-not-ended c = ending-none c.args.m.now c.args.at c.if-not-ended.true
