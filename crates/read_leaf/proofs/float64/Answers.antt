-- `read_leaf::float64` meets its contract.
use borrow.Author.Rules.{rules}
use mathlib.Core.Path.{◌≡◌, subst}
use Rattle.read_leaf.specs.Meaning.{PartIn}
use Rattle.std.specs.Prelude.{Result, Err}
use Rattle.format.specs.declared.place.Place.{Place}
use Rattle.format.specs.declared.refusal.Refusal.{Refusal}
use Rattle.label.specs.declared.cursor.Cursor.{Cursor}
use Rattle.read_leaf.proofs.Leaves.{float-24, float-not, float-row}
use Rattle.read_leaf.proofs.float64.Goals as goal

pub returns-then-not-is_bare : goal.returns-then-not-is_bare
returns-then-not-is_bare c = float-24 c.args.message.now.bytes.now c.args.message.now.modes c.args.key c.args.node c.args.work.now c.args.at.core c.args.at.rows c.is_bare.ensures c.if-not-is_bare.true

pub returns-in_err-part : goal.returns-in_err-part
returns-in_err-part c =
    let q : c.from_residual.result ≡ Err c.in_err-part.field-0.0 = search rules in
    rw q (float-not c.args.message.now.bytes.now c.args.message.now.modes c.args.key c.args.node c.args.work.now c.args.at.core c.args.at.rows c.is_bare.ensures c.if-not-is_bare.false c.take_bytes.ensures.takes c.in_err-part.was)

pub returns : goal.returns
returns c =
    float-row c.args.message.now.bytes.now c.args.message.now.modes c.args.key c.args.node c.args.work.now c.args.at.core c.args.at.rows c.is_bare.ensures c.if-not-is_bare.false c.take_bytes.ensures.takes c.in_ok-part.was
    (subst (λ (r : Result (Place × Cursor) Refusal). PartIn c.args.message.now.bytes.now 8 r) c.in_ok-part.was c.take_bytes.ensures.part_in).0 c.word_at.ensures c.row.ensures
