-- `read_leaf::block::first_block` meets its contract: the first of those that wait, if there is one.
use mathlib.Core.Path.{◌≡◌}
use borrow.Author.Rules.{rules}
use Rattle.std.specs.Prelude.{None}
use Rattle.read_literals.specs.Words.{store_of}
use Rattle.read_leaf.proofs.Blocks.{inside-small, rest-blocks, gave-none, gave_left, gave-first}
use Rattle.read_leaf.proofs.block.first_block.Goals as goal

pub next_block-requires : goal.next_block-requires
next_block-requires c = rest-blocks c.rest-rest.ensures.result_value c.requires.0

pub returns-in_err-block : goal.returns-in_err-block
returns-in_err-block c =
    let q : c.from_residual.result ≡ None = search rules in
    rw q (gave-none c.rest-rest.ensures.result_value c.args.key c.requires.2 c.next_block.ensures c.in_err-block.was)

pub touch-requires : goal.touch-requires
unfolding store_of
touch-requires c =
    let i = (gave_left c.next_block.ensures c.in_ok-block.was).0 in
    let (l, h) = inside-small c.requires.0.small i in
    (c.requires.0.good.slots, c.requires.1, c.requires.2, l, h)

pub returns : goal.returns
returns c = gave-first c.rest-rest.ensures.result_value c.args.key c.requires.2 c.next_block.ensures c.in_ok-block.was c.requires.1 c.requires.0 c.touch.ensures c.move_rest.ensures c.set_start.ensures
