-- `read_walk::opening::null_or` meets its contract.
use mir.Syntax.{w64}
use mir.ValLaws.{to_z-of_z}
use Rattle.read_walk.proofs.Fronts.{null-none}
use Rattle.read_walk.proofs.opening.null_or.Goals as goal

pub returns : goal.returns
returns c = null-none c.args.modes c.args.l _ (to_z-of_z w64 c.args.l c.ranges.l) c.args.nullable c.if-nullable.false
