-- `Word::write` meets its contract.
use mathlib.Core.Path.{◌∙◌}
use native.Mathlib.Omega.{arith}
use Rattle.laws.specs.Lists.{little-length}
use Rattle.write_bytes.proofs.Stores.{written, word-bytes}
use Rattle.write_bytes.proofs.encoded.WordEncoded.write.Goals as goal

pub slice_bounds-copy_from_slice-end : goal.slice_bounds-copy_from_slice-end
slice_bounds-copy_from_slice-end c = omega (arith, little-length 8 c.args.self.0)

pub returns : goal.returns
returns c = written c.args.out.now c.args.at 8 (c.copy_from_slice.ensures.after ∙ c.to_le_bytes.ensures ∙ word-bytes c.args.self.0) (little-length 8 c.args.self.0) (omega (arith, little-length 8 c.args.self.0))
