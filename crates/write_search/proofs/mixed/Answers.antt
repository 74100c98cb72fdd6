-- `write_search::mixed` meets its contract.
use Rattle.write_search.proofs.Hashing.{mixed-is}
use borrow.Author.Rules.{rules}
use Rattle.write_search.proofs.mixed.Goals as goal

pub returns : goal.returns
returns c = (mixed-is c.args.h c.args.w, search rules)
