-- `write_literals::relinked` meets its contract.
use mathlib.Core.Path.{refl}
use Rattle.write_literals.specs.Words.{relinked}
use Rattle.write_literals.proofs.Lanes.{relinked-small}
use Rattle.write_literals.proofs.relinked.Goals as goal

pub returns : goal.returns
unfolding relinked
returns c = (refl, relinked-small c.args.side c.args.link c.args.v c.requires.1 c.requires.2 c.requires.0)
