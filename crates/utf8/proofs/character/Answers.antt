-- `utf8::character` meets its contract.
use Rattle.utf8.proofs.Laws.{passes-one}
use Rattle.utf8.proofs.character.Goals as goal

pub returns-then-b-lt128 : goal.returns-then-b-lt128
returns-then-b-lt128 c = passes-one c.args.s.now c.args.at c.args.end c.requires.0 c.requires.1 c.if-b-lt128.true
