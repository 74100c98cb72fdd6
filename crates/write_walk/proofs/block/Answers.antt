-- `write_walk::block` meets its contract.
use mathlib.Core.Path.{ap}
use Rattle.write_walk.proofs.ByKind.{block_writes}
use mathlib.Core.Bool.{◌&&◌}
use Rattle.write_walk.proofs.block.Goals as goal

pub returns : goal.returns
returns c = block_writes c.args.how c.args.table.now c.args.pool.now c.args.rows.now c.args.out.now c.args.work.now c.args.at.row c.args.at.core c.args.node c.requires.0 c.args.top c.requires.1 c.argument_at-key.ensures.0 c.leaf_at-leaf.ensures (ap (λ b. b && c.args.how.numbers) c.deduplicates.ensures) c.leaf.ensures
