-- `write_search::ended` meets its contract.
use Rattle.write_search.proofs.Hashing.{ended_is}
use borrow.Author.Rules.{rules}
use Rattle.write_search.proofs.ended.Goals as goal

pub returns : goal.returns
returns c = (ended_is c.args.h, search rules)
