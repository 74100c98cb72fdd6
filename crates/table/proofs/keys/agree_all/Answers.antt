-- `table::keys::agree_all` meets its contract. The invariant of the loop: the nodes before i agree, and the notes are those of their keys.
use native.Mathlib.Omega.{arith}
use mathlib.Core.Path.{sym, ◌∙◌}
use Rattle.format.specs.Table.{node_at, agrees}
use Rattle.table.proofs.Tests.{passed_none, passed-more, pass-stops, pass-ends}
use Rattle.table.proofs.Notes.{beside-self, beside-then}
use Rattle.table.proofs.keys.agree_all.Goals as goal

pub loop-i-init : goal.loop-i-init
loop-i-init c = (passed_none (λ j. agrees c.args.counted.now.n (node_at c.args.counted.now.table.now) j) 15, c.requires.2, beside-self _)

pub returns-then-not-agree : goal.returns-then-not-agree
returns-then-not-agree c = record { value = pass-stops (λ j. agrees c.args.counted.now.n (node_at c.args.counted.now.table.now) j) 15 c.args.counted.now.n c.loop-i.i c.loop-i-test.true c.loop-i.invariant.0 (sym c.agree.ensures.value ∙ c.if-not-agree.true); beside = beside-then c.loop-i.invariant.2 c.agree.ensures.beside }

pub loop-i-preserved : goal.loop-i-preserved
loop-i-preserved c = (passed-more (λ j. agrees c.args.counted.now.n (node_at c.args.counted.now.table.now) j) 15 c.loop-i.i c.loop-i.invariant.0 (sym c.agree.ensures.value ∙ c.if-not-agree.false), c.agree.ensures.notes, beside-then c.loop-i.invariant.2 c.agree.ensures.beside)

pub returns : goal.returns
returns c = record { value = pass-ends (λ j. agrees c.args.counted.now.n (node_at c.args.counted.now.table.now) j) 15 c.args.counted.now.n c.loop-i.i (omega arith) c.loop-i-test.false c.loop-i.invariant.0; beside = c.loop-i.invariant.2 }
