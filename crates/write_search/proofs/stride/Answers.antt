-- `write_search::stride` meets its contract.
use Rattle.write_search.proofs.Hashing.{stride-long, stride-short}
use borrow.Author.Rules.{rules}
use Rattle.write_search.proofs.stride.Goals as goal

pub returns-then-size-gt64 : goal.returns-then-size-gt64
returns-then-size-gt64 c = (stride-long c.args.size c.if-size-gt64.true, search rules, search rules)

pub returns : goal.returns
returns c = (stride-short c.args.size c.if-size-gt64.false, search rules, search rules)
