-- `read_walk::descent::descend` meets its contract. Who reads the value where the loop stands has read the one that it began at;
-- the path that is left falls at each step.
use mathlib.Core.Path.{◌∙◌}
use native.Mathlib.Omega.{arith}
use Rattle.wire_types.specs.Nodes.{node-inside}
use Rattle.table.specs.Answers.{met}
use Rattle.read_walk.proofs.Descents.{holder-is, holder-fits, holder-ends, holder-comes, comes-then, comes-ends, comes-typed, typed-inside}
use Rattle.read_walk.proofs.descent.descend.Goals as goal

pub holds_one-requires : goal.holds_one-requires
holds_one-requires c = (c.loop-absent.invariant.1.inside, (typed-inside (comes-typed c.loop-absent.invariant.1 c.requires.2) c.requires.1).1)

pub returns-in_err-p : goal.returns-in_err-p
returns-in_err-p c = rw (met c.from_residual.ensures.1) (comes-ends c.loop-absent.invariant.1 (holder-ends (holder-is c.holds_one.ensures c.in-Some.is) c.push_row.ensures.value c.loop-absent.invariant.1.inside c.loop-absent-test.true c.in_err-p.was))

pub overflow_add-current : goal.overflow_add-current
overflow_add-current c = omega (arith, (typed-inside (comes-typed c.loop-absent.invariant.1 c.requires.2) c.requires.1).0)

pub overflow_sub-path : goal.overflow_sub-path
overflow_sub-path c = omega (arith, (typed-inside (comes-typed c.loop-absent.invariant.1 c.requires.2) c.requires.1).2)

pub may_be_absent-absent-requires : goal.may_be_absent-absent-requires
may_be_absent-absent-requires c =
    let t = comes-typed c.loop-absent.invariant.1 c.requires.2 in
    (node-inside _ _ _ _ (holder-fits (holder-is c.holds_one.ensures c.in-Some.is) t.fits) c.requires.1).1

pub loop-absent-smaller : goal.loop-absent-smaller
loop-absent-smaller c = omega (arith, (typed-inside (comes-typed c.loop-absent.invariant.1 c.requires.2) c.requires.1).2)

pub loop-absent-preserved : goal.loop-absent-preserved
loop-absent-preserved c =
    let t = comes-typed c.loop-absent.invariant.1 c.requires.2 in
    (c.push_row.auto.rows ∙ c.loop-absent.invariant.0, comes-then c.loop-absent.invariant.1 (holder-comes (holder-is c.holds_one.ensures c.in-Some.is) c.push_row.ensures.value c.loop-absent.invariant.1.inside t (typed-inside t c.requires.1).2 c.loop-absent-test.true c.in_ok-p.was c.push_row.ensures.rows_after c.push_row.auto.rows c.may_be_absent-absent.ensures))
