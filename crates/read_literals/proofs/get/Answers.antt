-- `read_literals::get` meets its contract.
use mathlib.Core.Path.{refl}
use Rattle.read_literals.proofs.Literals.{get-is}
use Rattle.read_literals.proofs.get.Goals as goal

pub returns-clause-j_value : goal.returns-clause-j_value
returns-clause-j_value c = get-is c.args.work.now c.requires.0 c.args.key c.args.j c.requires.1 c.requires.2 c.cell-at.ensures.0 refl refl
