-- `read_walk::block` meets its contract.
use Rattle.read_walk.proofs.Steps.{block-does}
use Rattle.read_walk.proofs.block.Goals as goal

pub returns : goal.returns
returns c = block-does c.args.table.now c.args.message.now.bytes.now c.args.work.now _ c.args.rows.now _ c.args.message.now.modes c.args.node c.args.top c.args.at.rows c.args.front c.args.at.core _ _ _ _ c.requires.2 c.argument_at-key.ensures.0 c.leaf_at-leaf.ensures c.deduplicates-dedup.ensures c.read_leaf.ensures
