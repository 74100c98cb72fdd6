-- `read_leaf::varint` meets its contract.
use mathlib.Core.Path.{◌≡◌, ap, ◌∙◌}
use mir.Syntax.{w64}
use mir.ValLaws.{to_z-of_z}
use borrow.Author.Rules.{rules}
use Rattle.std.specs.Prelude.{Err}
use Rattle.format.specs.Label.{word}
use Rattle.read_leaf.proofs.Leaves.{varint-24, varint-not, varint-row}
use Rattle.read_leaf.proofs.varint.Goals as goal

pub returns-then-not-is_bare : goal.returns-then-not-is_bare
returns-then-not-is_bare c = varint-24 c.args.message.now.bytes.now c.args.message.now.modes c.args.key c.args.node c.args.work.now c.args.at.core c.args.at.rows c.is_bare.ensures c.if-not-is_bare.true

pub returns-in_err-v : goal.returns-in_err-v
returns-in_err-v c =
    let q : c.from_residual.result ≡ Err c.in_err-v.field-0.0 = search rules in
    rw q (varint-not c.args.message.now.bytes.now c.args.message.now.modes c.args.key c.args.node c.args.work.now c.args.at.core c.args.at.rows c.is_bare.ensures c.if-not-is_bare.false c.take_number.ensures c.in_err-v.was)

pub returns : goal.returns
returns c =
    varint-row c.args.message.now.bytes.now c.args.message.now.modes c.args.key c.args.node c.args.work.now c.args.at.core c.args.at.rows c.is_bare.ensures c.if-not-is_bare.false c.take_number.ensures c.in_ok-v.was
    (c.word_of.ensures ∙ ap word (to_z-of_z w64 _ (search rules))) c.row.ensures
