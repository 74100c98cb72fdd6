-- `read_leaf::block::block_of` meets its contract.
use Rattle.store.specs.Laws.{is_none, is-some}
use Rattle.read_literals.specs.Words.{store_of}
use Rattle.read_leaf.proofs.Blocks.{block-known}
use Rattle.read_leaf.proofs.block.block_of.Goals as goal

pub first_block-requires : goal.first_block-requires
unfolding store_of
first_block-requires c = (c.requires.0, c.requires.1, is_none c.find.ensures.result_value c.in_default.is)

pub returns : goal.returns
unfolding store_of
returns c = block-known c.args.key _ c.requires.0 (is-some c.find.ensures.result_value c.in-Some.is)
