-- `utf8::is_second` meets its contract.
use Rattle.format.specs.Utf8.{within}
use Rattle.utf8.proofs.is_second.Goals as goal

pub returns : goal.returns
unfolding within
returns c = rw (c.lowest.ensures, c.highest.ensures)
