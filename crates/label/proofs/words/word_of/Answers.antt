-- `label::words::word_of` meets its contract: the word is the bits.
use Rattle.std.proofs.Common.{◌∙◌, ap, w64, of_z}
use mir.ValLaws.{to_z-of_z}
use Rattle.label.proofs.Signed.{bits-word}
use Rattle.label.proofs.words.word_of.Goals as goal

pub returns : goal.returns
returns c = c.cast_unsigned.ensures ∙ ap (of_z w64) (to_z-of_z w64 c.args.n c.ranges.n) ∙ bits-word c.args.n
