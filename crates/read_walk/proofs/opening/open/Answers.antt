-- `read_walk::opening::open` meets its contract.
use Rattle.read_walk.proofs.Fronts.{open-labelled, open-here}
use Rattle.read_walk.proofs.opening.open.Goals as goal

pub returns-then-omittable-nullable : goal.returns-then-omittable-nullable
returns-then-omittable-nullable c = open-labelled c.args.message.now.bytes.now c.args.message.now.modes c.args.omittable c.args.nullable c.args.c _ c.if-omittable-nullable.true c.labelled.ensures

pub returns : goal.returns
returns c = open-here c.args.message.now.bytes.now c.args.message.now.modes c.args.omittable c.args.nullable c.args.c c.if-omittable-nullable.false c.requires
