-- `read_leaf::text::is_numbered` meets its contract.
use Rattle.read_leaf.proofs.Labels.{mode-five, no-numbers}
use Rattle.read_leaf.proofs.text.is_numbered.Goals as goal

pub returns-then-dedup : goal.returns-then-dedup
returns-then-dedup c = mode-five c.args.modes c.if-dedup.true c.no_deduplication.ensures

pub returns-else-dedup : goal.returns-else-dedup
returns-else-dedup c = no-numbers c.args.modes c.if-dedup.false
