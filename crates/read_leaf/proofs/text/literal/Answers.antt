-- `read_leaf::text::literal` meets its contract.
use borrow.Author.Rules.{rules}
use mathlib.Core.Path.{◌≡◌, ap, subst}
use native.Mathlib.Omega.{arith}
use Rattle.read_literals.specs.Laws.{total-is}
use Rattle.read_leaf.specs.Meaning.{part_of, held_leaf, held_of, PartIn}
use Rattle.std.specs.Prelude.{Result, Err}
use Rattle.format.specs.declared.place.Place.{Place}
use Rattle.format.specs.declared.refusal.Refusal.{Refusal}
use Rattle.label.specs.declared.cursor.Cursor.{Cursor}
use Rattle.read_leaf.proofs.Texts.{literal-not, literal-plain, literal-32, literal-noted, takes-good}
use Rattle.read_leaf.proofs.text.literal.Goals as goal

pub returns-in_err-taken : goal.returns-in_err-taken
returns-in_err-taken c =
    let q : c.from_residual.result ≡ Err c.in_err-taken.field-0.0 = search rules in
    rw q (literal-not c.args.message.now.bytes.now c.args.message.now.modes c.args.key (held_of c.args.leaf c.args.dedup) c.args.size c.args.c c.take_literal.ensures.takes (ap part_of c.in_err-taken.was))

pub returns-then-not-numbered : goal.returns-then-not-numbered
returns-then-not-numbered c = literal-plain c.args.message.now.bytes.now c.args.message.now.modes c.args.key (held_of c.args.leaf c.args.dedup) c.args.size c.args.c c.take_literal.ensures.takes (ap part_of c.in_ok-taken.was) (c.is_numbered-numbered.ensures.is (held_leaf c.args.leaf)) c.if-not-numbered.true

pub returns-then-total-ge-MOST_LITERALS : goal.returns-then-total-ge-MOST_LITERALS
returns-then-total-ge-MOST_LITERALS c = literal-32 c.args.message.now.bytes.now c.args.message.now.modes c.args.key (held_of c.args.leaf c.args.dedup) c.args.size c.args.c c.take_literal.ensures.takes (ap part_of c.in_ok-taken.was) (c.is_numbered-numbered.ensures.is (held_leaf c.args.leaf)) c.if-not-numbered.false (omega (arith, c.total.ensures.0, c.if-total-ge-MOST_LITERALS.true))

pub add-requires : goal.add-requires
add-requires c =
    let p = subst (λ (r : Result (Place × Cursor) Refusal). PartIn c.args.message.now.bytes.now c.args.size r) c.in_ok-taken.was c.take_literal.ensures.part_in in
    let g = takes-good c.take_literal.ensures.takes (ap part_of c.in_ok-taken.was) in
    (g, c.requires.1, omega (arith, total-is _ g.literals, c.total.ensures.0, c.if-total-ge-MOST_LITERALS.false), omega (arith, p.1, c.requires.0.small), omega (arith, p.0, p.1, c.requires.0.small))

pub returns : goal.returns
returns c = literal-noted c.args.message.now.bytes.now c.args.message.now.modes c.args.key (held_of c.args.leaf c.args.dedup) c.args.size c.args.c c.take_literal.ensures.takes (ap part_of c.in_ok-taken.was) (c.is_numbered-numbered.ensures.is (held_leaf c.args.leaf)) c.if-not-numbered.false (omega (arith, c.total.ensures.0, c.if-total-ge-MOST_LITERALS.false)) c.add.ensures.changes c.add.ensures.between
