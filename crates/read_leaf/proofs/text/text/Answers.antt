-- `read_leaf::text::text` meets its contract: the label says which it is.
use mathlib.Core.Path.{◌≡◌, sym, ap, ◌∙◌}
use lib.IntN.{pos, negsuc}
use mir.Syntax.{w64}
use mir.ValLaws.{to_z-of_z}
use borrow.Author.Rules.{rules}
use Rattle.std.specs.Prelude.{Err}
use Rattle.format.specs.Refusal.{answered}
use Rattle.read_leaf.specs.Meaning.{front_of, held_leaf, held_of, size_label}
use Rattle.read_leaf.proofs.Texts.{takes-inside, text-not, text-is}
use Rattle.read_leaf.proofs.text.text.Goals as goal

pub returns-in_err-l : goal.returns-in_err-l
returns-in_err-l c =
    let q : c.from_residual.result ≡ Err c.in_err-l.field-0.0 = search rules in
    rw q (text-not c.args.message.now.bytes.now c.args.message.now.modes c.args.key (held_of c.args.leaf c.args.dedup) (front_of c.args.front) c.args.c (c.own_label.ensures.takes c.args.work.now c.requires.0)
    (ap answered c.in_err-l.was))

pub returns-in-Of : goal.returns-in-Of
returns-in-Of c =
    text-is c.args.message.now.bytes.now c.args.message.now.modes c.args.key (held_of c.args.leaf c.args.dedup) (front_of c.args.front) c.args.c (c.own_label.ensures.takes c.args.work.now c.requires.0)
    (pos c.in-Of.size) (ap answered c.in_ok-l.was)
    (sym (ap size_label c.in-Of.is) ∙ c.size_of-size.ensures ∙ (to_z-of_z w64 _ (search rules))) c.literal.ensures

pub returns-in-Below : goal.returns-in-Below
returns-in-Below c =
    let t = c.own_label.ensures.takes c.args.work.now c.requires.0 in
    let q = ap answered c.in_ok-l.was in
    text-is c.args.message.now.bytes.now c.args.message.now.modes c.args.key (held_of c.args.leaf c.args.dedup) (front_of c.args.front) c.args.c (c.own_label.ensures.takes c.args.work.now c.requires.0)
    (negsuc c.in-Below.k) q (sym (ap size_label c.in-Below.is) ∙ c.size_of-size.ensures ∙ (to_z-of_z w64 _ (search rules)))
    (c.back.ensures.takes c.args.message.now.bytes.now (held_leaf c.args.leaf) c.requires.0 (takes-inside t q))
