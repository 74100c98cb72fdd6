-- `read_leaf::read_leaf` meets its contract.
use borrow.Author.Rules.{rules}
use mathlib.Core.Path.{◌≡◌}
use Rattle.std.specs.Prelude.{Err}
use Rattle.read_leaf.specs.Meaning.{front_of, held_of}
use Rattle.read_leaf.proofs.Leaves.{text-not, text-row}
use Rattle.read_leaf.proofs.read_leaf.Goals as goal

pub returns-in_err-part-in-String : goal.returns-in_err-part-in-String
returns-in_err-part-in-String c =
    let q : c.from_residual.result ≡ Err c.in_err-part-in-String.field-0.0 = search rules in
    rw q (text-not c.args.message.now.bytes.now c.args.message.now.modes c.args.key (held_of c.args.leaf c.args.dedup) c.args.node (front_of c.args.front) c.args.work.now c.args.at.core c.args.at.rows c.text.ensures c.args.leaf c.in-String.is c.in_err-part-in-String.was)

pub returns-in_ok-part-in-String : goal.returns-in_ok-part-in-String
returns-in_ok-part-in-String c =
    text-row c.args.message.now.bytes.now c.args.message.now.modes c.args.key (held_of c.args.leaf c.args.dedup) c.args.node (front_of c.args.front) c.args.work.now c.args.at.core c.args.at.rows c.text.ensures c.args.leaf c.in-String.is c.in_ok-part-in-String.was
    c.text_kind.ensures c.put_part.ensures
