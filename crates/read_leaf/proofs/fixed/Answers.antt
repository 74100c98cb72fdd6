-- `read_leaf::fixed` meets its contract.
use mathlib.Core.Path.{◌≡◌}
use borrow.Author.Rules.{rules}
use Rattle.std.specs.Prelude.{Err}
use Rattle.read_leaf.proofs.Leaves.{fixed-24, fixed-not, fixed-row}
use Rattle.read_leaf.proofs.fixed.Goals as goal

pub returns-then-not-is_bare : goal.returns-then-not-is_bare
returns-then-not-is_bare c = fixed-24 c.args.message.now.bytes.now c.args.message.now.modes c.args.key c.args.node c.args.work.now c.args.at.core c.args.at.rows c.is_bare.ensures c.args.size c.if-not-is_bare.true

pub returns-in_err-part : goal.returns-in_err-part
returns-in_err-part c =
    let q : c.from_residual.result ≡ Err c.in_err-part.field-0.0 = search rules in
    rw q (fixed-not c.args.message.now.bytes.now c.args.message.now.modes c.args.key c.args.node c.args.work.now c.args.at.core c.args.at.rows c.is_bare.ensures c.if-not-is_bare.false c.args.size c.take_bytes.ensures.takes c.in_err-part.was)

pub returns : goal.returns
returns c =
    fixed-row c.args.message.now.bytes.now c.args.message.now.modes c.args.key c.args.node c.args.work.now c.args.at.core c.args.at.rows c.is_bare.ensures c.if-not-is_bare.false c.args.size c.take_bytes.ensures.takes c.in_ok-part.was c.put_part.ensures
