-- `table::tree::stand` meets its contract.
use mathlib.Core.Path.{sym, ◌∙◌}
use Rattle.format.specs.Table.{node_at}
use Rattle.table.specs.Passes.{context_of}
use Rattle.table.proofs.Tests.{stand-missing, stand-deep, stand-not, stand-right}
use Rattle.table.proofs.tree.stand.Goals as goal

pub returns-then-counted-i : goal.returns-then-counted-i
returns-then-counted-i c = stand-missing c.args.counted.now.n (node_at c.args.counted.now.table.now) c.args.path (context_of c.args.parent) c.args.i c.if-counted-i.true

pub returns-then-path-eq0 : goal.returns-then-path-eq0
returns-then-path-eq0 c = stand-deep c.args.counted.now.n (node_at c.args.counted.now.table.now) c.args.path (context_of c.args.parent) c.args.i c.if-counted-i.false c.if-path-eq0.true

pub returns-then-not-may_stand : goal.returns-then-not-may_stand
returns-then-not-may_stand c = stand-not c.args.counted.now.n (node_at c.args.counted.now.table.now) c.args.path (context_of c.args.parent) c.args.i c.if-counted-i.false c.if-path-eq0.false (sym c.may_stand.ensures ∙ c.if-not-may_stand.true)

pub returns : goal.returns
returns c = stand-right c.args.counted.now.n (node_at c.args.counted.now.table.now) c.args.path (context_of c.args.parent) c.args.i c.if-counted-i.false c.if-path-eq0.false (sym c.may_stand.ensures ∙ c.if-not-may_stand.false)
