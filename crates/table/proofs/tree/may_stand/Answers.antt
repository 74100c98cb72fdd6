-- `table::tree::may_stand` meets its contract.
use mathlib.Core.Path.{sym, ap, ◌∙◌}
use mathlib.Core.Bool.{not}
use Rattle.format.specs.Table.{node_at}
use Rattle.table.specs.Passes.{context_of}
use Rattle.table.proofs.Tests.{kind-not, omittable-may, plain-may}
use Rattle.table.proofs.tree.may_stand.Goals as goal

pub returns-then-not-is_omittable : goal.returns-then-not-is_omittable
returns-then-not-is_omittable c = ap not c.if-not-is_omittable.true ∙ plain-may (context_of c.args.parent) (node_at c.args.table.now c.args.i) c.kind_at.ensures c.kind_may_stand.ensures c.if-kind_may_stand.true (sym c.is_omittable.ensures ∙ c.if-not-is_omittable.true)

pub returns-else-not-is_omittable : goal.returns-else-not-is_omittable
returns-else-not-is_omittable c = c.omittable_may_stand.ensures ∙ omittable-may (context_of c.args.parent) (node_at c.args.table.now c.args.i) c.kind_at.ensures c.kind_may_stand.ensures c.if-kind_may_stand.true (sym c.is_omittable.ensures ∙ c.if-not-is_omittable.false)

pub returns-else-kind_may_stand : goal.returns-else-kind_may_stand
returns-else-kind_may_stand c = kind-not (context_of c.args.parent) (node_at c.args.table.now c.args.i) c.kind_at.ensures c.kind_may_stand.ensures c.if-kind_may_stand.false
