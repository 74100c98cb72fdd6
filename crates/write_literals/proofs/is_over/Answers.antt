-- `write_literals::is_over` meets its contract.
use mathlib.Core.Path.{refl}
use Rattle.write_literals.specs.Words.{store_of}
use Rattle.write_literals.proofs.is_over.Goals as goal

pub returns : goal.returns
unfolding store_of
returns c = refl
