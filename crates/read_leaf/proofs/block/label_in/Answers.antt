-- `read_leaf::block::label_in` meets its contract.
use mathlib.Core.Path.{◌∙◌}
use Rattle.read_leaf.proofs.Reading.{label-within}
use Rattle.read_leaf.proofs.block.label_in.Goals as goal

pub returns : goal.returns
returns c = c.label_at.ensures ∙ label-within c.args.m.now c.args.place c.requires
