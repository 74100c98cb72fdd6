-- `write_literals::bucket` meets its contract.
use borrow.Author.Rules.{rules}
use Rattle.write_literals.proofs.Places.{bucket-is}
use Rattle.write_literals.proofs.bucket.Goals as goal

pub returns : goal.returns
returns c = (bucket-is c.args.key c.args.second, search rules)
