-- `read_leaf::text::take_literal` meets its contract.
use borrow.Author.Rules.{rules}
use mathlib.Core.Path.{◌≡◌, ap}
use Rattle.read_leaf.specs.Meaning.{part_of, held_leaf}
use Rattle.std.specs.Prelude.{Err}
use Rattle.read_leaf.proofs.Texts.{bytes-refused, bytes-35, bytes-28, bytes-right}
use Rattle.read_leaf.proofs.text.take_literal.Goals as goal

pub returns-in_err-taken-clause-takes : goal.returns-in_err-taken-clause-takes
returns-in_err-taken-clause-takes c =
    let q : c.from_residual.result ≡ Err c.in_err-taken.field-0.0 = search rules in
    rw q (bytes-refused c.args.message.now.bytes.now c.args.message.now.modes c.args.key (held_leaf c.args.leaf) c.args.size c.args.c c.is_ended-ended.ensures c.size_with_ending-all.ensures c.take_bytes.ensures.takes (ap part_of c.in_err-taken.was))

pub returns-then-not-ends-clause-takes : goal.returns-then-not-ends-clause-takes
returns-then-not-ends-clause-takes c = bytes-35 c.args.message.now.bytes.now c.args.message.now.modes c.args.key (held_leaf c.args.leaf) c.args.size c.args.c c.is_ended-ended.ensures c.size_with_ending-all.ensures c.take_bytes.ensures.takes (ap part_of c.in_ok-taken.was) c.is_ending-ends.ensures c.if-not-ends.true

pub returns-then-not-right-clause-takes : goal.returns-then-not-right-clause-takes
returns-then-not-right-clause-takes c = bytes-28 c.args.message.now.bytes.now c.args.message.now.modes c.args.key (held_leaf c.args.leaf) c.args.size c.args.c c.is_ended-ended.ensures c.size_with_ending-all.ensures c.take_bytes.ensures.takes (ap part_of c.in_ok-taken.was) c.is_ending-ends.ensures c.is_right-right.ensures c.if-not-ends.false c.if-not-right.true

pub returns-clause-takes : goal.returns-clause-takes
returns-clause-takes c = bytes-right c.args.message.now.bytes.now c.args.message.now.modes c.args.key (held_leaf c.args.leaf) c.args.size c.args.c c.is_ended-ended.ensures c.size_with_ending-all.ensures c.take_bytes.ensures.takes (ap part_of c.in_ok-taken.was) c.is_ending-ends.ensures c.is_right-right.ensures c.if-not-ends.false c.if-not-right.false
