-- `read_leaf::block::block_number` meets its contract.
use mathlib.Core.Path.{◌≡◌, sym, ◌∙◌}
use mir.Syntax.{w64}
use mir.ValLaws.{to_z-of_z}
use borrow.Author.Rules.{rules}
use Rattle.std.specs.Prelude.{Some, None, Err}
use Rattle.format.specs.declared.refusal.Refusal.TheVariants.{NoBlock, Label}
use Rattle.format.specs.Read.{in_message, read_number}
use Rattle.read_leaf.proofs.Blocks.{inside-small, block_none, block-not, block-takes, opened_inside, opened-good, takes-number}
use Rattle.read_leaf.proofs.Reading.{number-got, number-bad, number-later, number-inside}
use Rattle.read_leaf.proofs.block.block_number.Goals as goal

pub returns-in_err-block : goal.returns-in_err-block
returns-in_err-block c =
    let f = read_number (in_message c.args.m.now) in
    let q : c.from_residual.result ≡ Err NoBlock = search rules in
    let z : c.block_of.result ≡ None = search rules in
    rw q (block_none c.args.m.now c.args.key f c.args.c c.block_of.ensures c.requires.2 z)

pub returns-in_err-v : goal.returns-in_err-v
returns-in_err-v c =
    let f = read_number (in_message c.args.m.now) in
    let q : c.from_residual-in_err-v.result ≡ Err Label = search rules in
    let z : c.block_of.result ≡ Some c.in_ok-block.block = search rules in
    let y : c.label_in.result ≡ None = search rules in
    rw q (block-not c.args.m.now c.args.key f c.args.c c.block_of.ensures c.requires.2 23 z (number-bad c.args.m.now _ (opened_inside c.block_of.ensures z) (sym c.label_in.ensures ∙ y)))

pub advance-requires : goal.advance-requires
advance-requires c =
    let z : c.block_of.result ≡ Some c.in_ok-block.block = search rules in
    let y : c.label_in.result ≡ Some (c.in_ok-v.v, c.in_ok-v.next) = search rules in
    let (j, x) = number-inside c.args.m.now c.in_ok-block.block (opened_inside c.block_of.ensures z) _ _ (sym c.label_in.ensures ∙ y) in
    (opened-good c.block_of.ensures z c.args.c c.requires.2, c.requires.1, (inside-small c.requires.0.small j).0)

pub returns : goal.returns
returns c =
    let f = read_number (in_message c.args.m.now) in
    let z : c.block_of.result ≡ Some c.in_ok-block.block = search rules in
    let y : c.label_in.result ≡ Some (c.in_ok-v.v, c.in_ok-v.next) = search rules in
    let i = opened_inside c.block_of.ensures z in
    let e = sym c.label_in.ensures ∙ y in
    let (j, x) = number-inside c.args.m.now c.in_ok-block.block i _ _ e in
    takes-number _ (to_z-of_z w64 _ (search rules))
    (block-takes c.args.m.now c.args.key f c.args.c c.block_of.ensures c.requires.2 c.in_ok-v.v c.in_ok-v.next z (number-got c.args.m.now c.in_ok-block.block i _ _ e) x (number-later c.args.m.now c.in_ok-block.block i _ _ e) j c.advance.ensures)
