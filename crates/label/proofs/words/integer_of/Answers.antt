-- `label::words::integer_of` meets its contract: the integer that the bits stand for.
use Rattle.std.proofs.Common.{◌∙◌, w64}
use mir.ValLaws.{to_z-of_z}
use Rattle.label.proofs.Signed.{bits-integer}
use Rattle.label.proofs.words.integer_of.Goals as goal

pub returns : goal.returns
returns c = to_z-of_z w64 _ (record { sfits = c.cast_signed.type_inv }) ∙ c.cast_signed.ensures ∙ bits-integer c.args.w
