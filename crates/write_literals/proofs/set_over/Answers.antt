-- `write_literals::set_over` meets its contract.
use Rattle.write_literals.proofs.Over.{over-set}
use Rattle.write_literals.proofs.set_over.Goals as goal

pub returns : goal.returns
returns c = over-set _ c.requires
