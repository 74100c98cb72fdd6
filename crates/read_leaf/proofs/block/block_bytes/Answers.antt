-- `read_leaf::block::block_bytes` meets its contract.
use mathlib.Core.Path.{◌≡◌, refl}
use borrow.Author.Rules.{rules}
use Prim.Native.Nat.{◌+◌, ◌-◌, ◌<◌, ◌≤◌}
use native.Mathlib.Omega.{arith}
use Rattle.std.specs.Prelude.{Some, None, Err}
use Rattle.format.specs.declared.refusal.Refusal.TheVariants.{NoBlock}
use Rattle.format.specs.Read.{in_message, read_bytes}
use Rattle.label.specs.Cursor.{cursor}
use Rattle.read_pieces.specs.Pieces.{Inside}
use Rattle.read_leaf.proofs.Blocks.{block_none, block-not, block-takes, opened_inside, opened-start, opened-good}
use Rattle.read_leaf.proofs.Reading.{bytes-got, bytes-not}
use Rattle.read_leaf.proofs.block.block_bytes.Goals as goal

pub returns-in_err-block-clause-takes : goal.returns-in_err-block-clause-takes
returns-in_err-block-clause-takes c =
    let f = read_bytes (in_message c.args.m.now) c.args.size in
    let q : c.from_residual.result ≡ Err NoBlock = search rules in
    let z : c.block_of.result ≡ None = search rules in
    rw q (block_none c.args.m.now c.args.key f c.args.c c.block_of.ensures c.requires.2 z)

pub left_in-requires : goal.left_in-requires
left_in-requires c =
    let z : c.block_of.result ≡ Some c.in_ok-block.block = search rules in
    let s = opened-start c.block_of.ensures z c.args.c c.requires.2 c.requires.1 in
    (omega (arith, c.start.ensures.0, s), opened_inside c.block_of.ensures z)

pub returns-then-left_in-size-clause-takes : goal.returns-then-left_in-size-clause-takes
returns-then-left_in-size-clause-takes c =
    let z : c.block_of.result ≡ Some c.in_ok-block.block = search rules in
    let f = read_bytes (in_message c.args.m.now) c.args.size in
    let h : c.in_ok-block.block.end - c.in_ok-block.block.at < c.args.size = omega (arith, c.left_in.ensures, c.if-left_in-size.true) in
    block-not c.args.m.now c.args.key f c.args.c c.block_of.ensures c.requires.2 27 z (bytes-not c.args.m.now c.in_ok-block.block (opened_inside c.block_of.ensures z) c.args.size h)

pub advance-requires : goal.advance-requires
advance-requires c =
    let z : c.block_of.result ≡ Some c.in_ok-block.block = search rules in
    let i = opened_inside c.block_of.ensures z in
    (opened-good c.block_of.ensures z c.args.c c.requires.2, c.requires.1, omega (arith, c.requires.0.small, i.ordered, i.inside, c.left_in.ensures, c.if-left_in-size.false))

pub returns-clause-takes : goal.returns-clause-takes
returns-clause-takes c =
    let z : c.block_of.result ≡ Some c.in_ok-block.block = search rules in
    let f = read_bytes (in_message c.args.m.now) c.args.size in
    let i = opened_inside c.block_of.ensures z in
    let h : c.args.size ≤ c.in_ok-block.block.end - c.in_ok-block.block.at = omega (arith, c.left_in.ensures, c.if-left_in-size.false) in
    let next : Inside c.args.m.now (cursor (c.in_ok-block.block.at + c.args.size) c.in_ok-block.block.end) = record { ordered = omega (arith, i.ordered, h); inside = i.inside } in
    let later : c.in_ok-block.block.at ≤ c.in_ok-block.block.at + c.args.size = omega arith in
    block-takes c.args.m.now c.args.key f c.args.c c.block_of.ensures c.requires.2 _ (cursor (c.in_ok-block.block.at + c.args.size) c.in_ok-block.block.end) z (bytes-got c.args.m.now c.in_ok-block.block i c.args.size h) refl later next c.advance.ensures
