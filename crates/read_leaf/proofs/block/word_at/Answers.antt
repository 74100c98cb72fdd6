-- `read_leaf::block::word_at` meets its contract.
use native.Mathlib.Omega.{arith}
use Rattle.read_leaf.proofs.LittleEndian.{word-is}
use Rattle.read_leaf.proofs.block.word_at.Goals as goal

pub returns : goal.returns
returns c = word-is c.args.m.now c.args.at c.requires (omega (arith, c.from_le_bytes.ensures))
