-- `read_leaf::block::take_number` meets its contract: in the block, or in the core.
use mathlib.Core.Path.{sym, ap, ◌∙◌}
use Rattle.std.specs.Option.{ok_or}
use Rattle.format.specs.declared.refusal.Refusal.TheVariants.{Label}
use Rattle.format.specs.Read.{in_message, read_number}
use Rattle.read_leaf.proofs.Blocks.{takes-in}
use Rattle.read_leaf.proofs.Labels.{number-takes}
use Rattle.read_leaf.proofs.block.take_number.Goals as goal

pub returns : goal.returns
returns c =
    let f = read_number (in_message c.args.message.now.bytes.now) in
    takes-in c.args.key f (sym c.if-not-inline_everything.false ∙ c.inline_everything.ensures)
    (number-takes c.args.message.now.bytes.now c.args.key c.args.c c.args.work.now c.requires.0 c.requires.2 (c.ok_or.ensures.value ∙ ap (λ o. ok_or o Label) c.label_in.ensures))
