-- `write_search::word8` meets its contract.
use native.Mathlib.Omega.{arith}
use Rattle.write_search.proofs.Hashing.{word8-is}
use Rattle.write_search.proofs.word8.Goals as goal

pub returns : goal.returns
returns c = (word8-is c.args.pool.now c.args.i (omega (arith, c.from_le_bytes.ensures)), c.from_le_bytes.type_inv)
