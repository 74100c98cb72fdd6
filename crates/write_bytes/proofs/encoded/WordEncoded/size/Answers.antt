-- `Word::size` meets its contract.
use mathlib.Core.Path.{sym}
use Rattle.laws.specs.Lists.{little-length}
use Rattle.write_bytes.proofs.encoded.WordEncoded.size.Goals as goal

pub returns-clause-value : goal.returns-clause-value
returns-clause-value c = sym (little-length 8 _)
