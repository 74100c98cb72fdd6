-- `label::put::varint_size` meets its contract: the formula is the count of the seven-bit rule's bytes.
use Rattle.std.proofs.Common.{arith}
use Rattle.format.specs.Label.{size_of_zeros}
use Rattle.label.specs.Sizes.{varint-sizes}
use Rattle.label.proofs.put.varint_size.Goals as goal

pub returns : goal.returns
unfolding size_of_zeros
returns c = varint-sizes c.args.z (omega arith)
