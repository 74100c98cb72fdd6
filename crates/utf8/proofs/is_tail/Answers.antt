-- `utf8::is_tail` meets its contract.
use mathlib.Core.Path.{refl}
use Rattle.format.specs.Utf8.{within}
use Rattle.utf8.proofs.is_tail.Goals as goal

pub returns : goal.returns
unfolding within
returns c = refl
