-- A word has eight bytes.
use native.Mathlib.Omega.{arith}
use Rattle.laws.specs.Lists.{little-length}
use Rattle.write_bytes.proofs.tests.sizes_and_bytes.Goals as goal

pub write-requires : goal.write-requires
write-requires c = omega (arith, little-length 8 258)
