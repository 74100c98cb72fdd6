-- `read_leaf::block::take_bytes` meets its contract.
use mathlib.Core.Path.{sym, ◌∙◌}
use Prim.Native.Nat.{◌+◌, ◌-◌, ◌<◌, ◌≤◌}
use native.Mathlib.Omega.{arith}
use Rattle.format.specs.Read.{in_message, read_bytes}
use Rattle.label.specs.Cursor.{cursor}
use Rattle.read_pieces.specs.Pieces.{Inside}
use Rattle.read_leaf.proofs.Blocks.{core-takes, core-not, takes-in}
use Rattle.read_leaf.proofs.Reading.{bytes-got, bytes-not}
use Rattle.read_leaf.proofs.block.take_bytes.Goals as goal

pub returns-then-left_in-size-clause-takes : goal.returns-then-left_in-size-clause-takes
returns-then-left_in-size-clause-takes c =
    let f = read_bytes (in_message c.args.message.now.bytes.now) c.args.size in
    let h : c.args.c.end - c.args.c.at < c.args.size = omega (arith, c.left_in.ensures, c.if-left_in-size.true) in
    takes-in c.args.key f (sym c.if-not-inline_everything.false ∙ c.inline_everything.ensures) (core-not c.args.message.now.bytes.now c.args.key f c.args.c c.args.work.now 27 (bytes-not c.args.message.now.bytes.now c.args.c c.requires.2 c.args.size h))

pub returns-clause-takes : goal.returns-clause-takes
returns-clause-takes c =
    let f = read_bytes (in_message c.args.message.now.bytes.now) c.args.size in
    let h : c.args.size ≤ c.args.c.end - c.args.c.at = omega (arith, c.left_in.ensures, c.if-left_in-size.false) in
    let next : Inside c.args.message.now.bytes.now (cursor (c.args.c.at + c.args.size) c.args.c.end) = record { ordered = omega (arith, c.requires.2.ordered, h); inside = c.requires.2.inside } in
    takes-in c.args.key f (sym c.if-not-inline_everything.false ∙ c.inline_everything.ensures) (core-takes c.args.message.now.bytes.now c.args.key f c.args.c c.args.work.now _ _ c.requires.0 next (bytes-got c.args.message.now.bytes.now c.args.c c.requires.2 c.args.size h))
