-- `Part::size` meets its contract.
use native.Mathlib.Omega.{arith}
use Rattle.write_bytes.specs.Short.{ended-most}
use Rattle.write_bytes.proofs.encoded.PartEncoded.size.Goals as goal

pub returns-clause-upper_bound : goal.returns-clause-upper_bound
returns-clause-upper_bound c = omega (arith, c.size.ensures.value, ended-most c.args.self.bytes.now c.args.self.ended c.args.self.short)
