-- `table::alone::alone` meets its contract. The invariant of the loop: the nodes before i pass.
use native.Mathlib.Omega.{arith}
use mathlib.Core.Path.{sym, ◌∙◌}
use Rattle.format.specs.Table.{node_at, right_alone}
use Rattle.table.proofs.Tests.{passed_none, passed-more, pass-stops, pass-ends}
use Rattle.table.proofs.alone.alone.Goals as goal

pub loop-i-init : goal.loop-i-init
loop-i-init c = passed_none (λ i. right_alone (node_at c.args.counted.now.table.now i)) 13

pub returns-then-not-right_alone : goal.returns-then-not-right_alone
returns-then-not-right_alone c = pass-stops (λ i. right_alone (node_at c.args.counted.now.table.now i)) 13 c.args.counted.now.n c.loop-i.i (omega arith) c.loop-i.invariant (sym c.right_alone.ensures ∙ c.if-not-right_alone.true)

pub loop-i-preserved : goal.loop-i-preserved
loop-i-preserved c = passed-more (λ i. right_alone (node_at c.args.counted.now.table.now i)) 13 c.loop-i.i c.loop-i.invariant (sym c.right_alone.ensures ∙ c.if-not-right_alone.false)

pub returns : goal.returns
returns c = pass-ends (λ i. right_alone (node_at c.args.counted.now.table.now i)) 13 c.args.counted.now.n c.loop-i.i (omega arith) c.loop-i-test.false c.loop-i.invariant
