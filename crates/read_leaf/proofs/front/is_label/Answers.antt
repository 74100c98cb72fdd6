-- `read_leaf::front::is_label` meets its contract.
use Rattle.read_leaf.proofs.Labels.{label-test}
use Rattle.read_leaf.proofs.front.is_label.Goals as goal

pub returns : goal.returns
returns c = label-test c.args.l c.args.n c.ranges.l c.ranges.n
