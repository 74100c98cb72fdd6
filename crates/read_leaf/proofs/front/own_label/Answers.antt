-- `read_leaf::front::own_label` meets its contract: the label is read, or it was read before.
use mathlib.Core.Path.{ap, ◌∙◌}
use mir.Syntax.{w64}
use mir.ValLaws.{to_z-of_z}
use borrow.Author.Rules.{rules}
use Rattle.std.specs.Option.{ok_or}
use Rattle.format.specs.declared.refusal.Refusal.TheVariants.{Label}
use Rattle.read_leaf.proofs.Labels.{owns-read, owns-front}
use Rattle.read_leaf.proofs.front.own_label.Goals as goal

pub returns-in-None : goal.returns-in-None
returns-in-None c = owns-read c.args.m.now c.args.c c.requires c.in-None.is (c.ok_or.ensures.value ∙ ap (λ o. ok_or o Label) c.label.ensures)

pub returns-in-Some : goal.returns-in-Some
returns-in-Some c = owns-front c.args.m.now c.args.c c.requires c.in-Some.l c.in-Some.is (to_z-of_z w64 c.in-Some.l (search rules))
