-- `read_walk::descent::holds_one` meets its contract.
use Rattle.table.specs.Kind.{kind-true}
use Rattle.table.specs.declared.nodes.Kind.TheVariants as kind
use Rattle.read_walk.proofs.descent.holds_one.Goals as goal

pub holder_of-requires : goal.holder_of-requires
holder_of-requires c = (c.requires.0, c.requires.1, kind-true kind.Record c.is_kind.ensures c.if-is_kind.true)

pub holder_of-requires-then-is_kind-2 : goal.holder_of-requires-then-is_kind-2
holder_of-requires-then-is_kind-2 c = (c.requires.0, c.requires.1, kind-true kind.Array c.is_kind-2.ensures c.if-is_kind-2.true)
