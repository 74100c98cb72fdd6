-- `table::nodes::leaf_at` meets its contract.
use mathlib.Core.Path.{ap}
use Rattle.std.proofs.Common.{rules}
use Rattle.format.specs.Table.{node_at, leaf_of}
use Rattle.table.specs.Held.{leaf_in}
use Rattle.table.specs.Kind.{kind-here, kind-not, kind-none}
use Rattle.table.specs.declared.nodes.Kind.TheVariants as kind
use Rattle.table.proofs.Tests.{leaf-fixed}
use Rattle.table.proofs.nodes.leaf_at.Goals.{in_default-via-in-Some+in_default, in_default-via-in_default}
use Rattle.table.proofs.nodes.leaf_at.Goals as goal

pub returns-in-Some-String : goal.returns-in-Some-String
unfolding leaf_in leaf_of
returns-in-Some-String c = simp (kind-here kind.String c.kind_at.ensures c.in-Some-String.is c.in-Some-String.field-0-is)

pub returns-in-Some-Varint : goal.returns-in-Some-Varint
unfolding leaf_in leaf_of
returns-in-Some-Varint c = simp (kind-here kind.Varint c.kind_at.ensures c.in-Some-Varint.is c.in-Some-Varint.field-0-is)

pub returns-in-Some-Float64 : goal.returns-in-Some-Float64
unfolding leaf_in leaf_of
returns-in-Some-Float64 c = simp (kind-here kind.Float64 c.kind_at.ensures c.in-Some-Float64.is c.in-Some-Float64.field-0-is)

pub returns-in-Some-Bytes : goal.returns-in-Some-Bytes
unfolding leaf_in leaf_of
returns-in-Some-Bytes c = simp (kind-here kind.Bytes c.kind_at.ensures c.in-Some-Bytes.is c.in-Some-Bytes.field-0-is)

pub returns-in_default : goal.returns-in_default
unfolding leaf_in
returns-in_default c = elim c.in_default.branch [
  | in_default-via-in-Some+in_default w ↦
      let x = node_at c.args.table.now c.args.i in
      ap leaf_in (leaf-fixed x c.argument_at.ensures.0
      (kind-not kind.String c.kind_at.ensures w.in_default.is (search rules))
      (kind-not kind.Varint c.kind_at.ensures w.in_default.is (search rules))
      (kind-not kind.Float64 c.kind_at.ensures w.in_default.is (search rules))
      (kind-not kind.Bytes c.kind_at.ensures w.in_default.is (search rules)))
  | in_default-via-in_default w ↦
      let x = node_at c.args.table.now c.args.i in
      ap leaf_in (leaf-fixed x c.argument_at.ensures.0
      (kind-none kind.String c.kind_at.ensures w.in_default.is)
      (kind-none kind.Varint c.kind_at.ensures w.in_default.is)
      (kind-none kind.Float64 c.kind_at.ensures w.in_default.is)
      (kind-none kind.Bytes c.kind_at.ensures w.in_default.is))
]
