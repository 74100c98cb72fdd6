-- `Slice::size` meets its contract.
use native.Mathlib.Omega.{arith}
use Rattle.write_passes.specs.Moves.{ending-most}
use Rattle.write_bytes.proofs.as_bytes.SliceAsBytes.size.Goals as goal

pub returns-clause-upper_bound : goal.returns-clause-upper_bound
returns-clause-upper_bound c = omega (arith, ending-most c.args.self.ended)
