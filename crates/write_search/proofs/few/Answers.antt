-- `write_search::few` meets its contract.
use Rattle.write_search.proofs.Hashing.{few-none, few-short, few-more}
use borrow.Author.Rules.{rules}
use Rattle.write_search.proofs.few.Goals as goal

pub returns-then-size-eq0 : goal.returns-then-size-eq0
returns-then-size-eq0 c = (few-none c.args.pool.now (record { start = c.args.start; size = c.args.size }) c.requires.0 c.if-size-eq0.true, search rules)

pub returns-then-size-lt4 : goal.returns-then-size-lt4
returns-then-size-lt4 c = (few-short c.args.pool.now (record { start = c.args.start; size = c.args.size }) c.requires.0 c.if-size-eq0.false c.if-size-lt4.true c.from.ensures c.from-then-size-lt4.ensures c.from-then-size-lt4-2.ensures, search rules)

pub returns : goal.returns
returns c = (few-more c.args.pool.now (record { start = c.args.start; size = c.args.size }) c.requires.0 c.if-size-lt4.false c.word4.ensures.0 c.word4-2.ensures.0, search rules)
