-- `read_literals::write` meets its contract.
use mathlib.Core.Path.{refl}
use Rattle.read_literals.proofs.Literals.{written}
use Rattle.read_literals.proofs.write.Goals as goal

pub returns : goal.returns
returns c = written c.args.work.now c.args.key c.args.n c.args.page c.args.next _ c.args.start c.args.size c.requires.0 c.requires.1 c.requires.2 c.requires.3 refl
