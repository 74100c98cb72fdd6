-- `write_walk::descent::descend` meets its contract. The nodes that are left fall.
use native.Mathlib.Omega.{arith}
use mathlib.Core.Path.{refl, ◌∙◌, subst}
use Rattle.table.specs.Answers.{met}
use Rattle.wire_types.specs.Nodes.{node-inside}
use Rattle.write_walk.specs.Descent.{Alone}
use Rattle.write_walk.proofs.ByKind.{begins}
use Rattle.write_walk.proofs.Descents.{lone, lone-holder, still-stands, leads-again, leads-not}
use Rattle.write_walk.proofs.descent.descend.Goals as goal

pub holds_one-requires : goal.holds_one-requires
holds_one-requires c =
    let s = still-stands c.args.how.put c.args.table.now c.args.pool.now c.args.rows.now c.args.out.now c.args.at.core c.args.at.row c.args.node c.args.omittable c.loop-absent.out c.loop-absent.so_far.core c.loop-absent.so_far.row c.loop-absent.here c.loop-absent.invariant.1 c.requires.1 in
    (node-inside _ _ _ _ s.fits c.requires.0).1

pub own_row-requires : goal.own_row-requires
own_row-requires c =
    let s = still-stands c.args.how.put c.args.table.now c.args.pool.now c.args.rows.now c.args.out.now c.args.at.core c.args.at.row c.args.node c.args.omittable c.loop-absent.out c.loop-absent.so_far.core c.loop-absent.so_far.row c.loop-absent.here c.loop-absent.invariant.1 c.requires.1 in
    ((begins s.holds).0, (begins s.holds).1, (node-inside _ _ _ _ s.fits c.requires.0).1, lone-holder c.args.table.now c.args.pool.now c.args.rows.now c.loop-absent.here c.loop-absent.so_far.row _ (lone c.args.table.now c.args.pool.now c.args.rows.now c.loop-absent.here c.loop-absent.so_far.row c.in-Some.holder c.is_array-array.ensures (subst (λ h. Alone c.args.table.now c.args.pool.now c.args.rows.now c.loop-absent.here c.loop-absent.so_far.row h) c.in-Some.is c.holds_one.ensures)))

pub returns-in_err-held : goal.returns-in_err-held
returns-in_err-held c = rw (met c.from_residual.ensures.1) (leads-not c.args.how.put c.args.table.now c.args.pool.now c.args.rows.now c.args.out.now c.args.at.core c.args.at.row c.args.node c.args.omittable c.loop-absent.out c.loop-absent.so_far.core c.loop-absent.so_far.row c.loop-absent.here c.loop-absent.invariant.1 c.requires.0 c.loop-absent-test.true _ (lone c.args.table.now c.args.pool.now c.args.rows.now c.loop-absent.here c.loop-absent.so_far.row c.in-Some.holder c.is_array-array.ensures (subst (λ h. Alone c.args.table.now c.args.pool.now c.args.rows.now c.loop-absent.here c.loop-absent.so_far.row h) c.in-Some.is c.holds_one.ensures)) c.in_err-held.ensures)

pub overflow_add-here : goal.overflow_add-here
overflow_add-here c =
    let s = still-stands c.args.how.put c.args.table.now c.args.pool.now c.args.rows.now c.args.out.now c.args.at.core c.args.at.row c.args.node c.args.omittable c.loop-absent.out c.loop-absent.so_far.core c.loop-absent.so_far.row c.loop-absent.here c.loop-absent.invariant.1 c.requires.1 in
    omega (arith, (node-inside _ _ _ _ s.fits c.requires.0).0)

pub may_be_absent-absent-requires : goal.may_be_absent-absent-requires
may_be_absent-absent-requires c =
    let y = leads-again c.args.how.put c.args.table.now c.args.pool.now c.args.rows.now c.args.out.now c.args.at.core c.args.at.row c.args.node c.args.omittable c.loop-absent.out c.loop-absent.so_far.core c.loop-absent.so_far.row c.loop-absent.here c.loop-absent.invariant.1 c.requires.0 c.loop-absent-test.true _ (lone c.args.table.now c.args.pool.now c.args.rows.now c.loop-absent.here c.loop-absent.so_far.row c.in-Some.holder c.is_array-array.ensures (subst (λ h. Alone c.args.table.now c.args.pool.now c.args.rows.now c.loop-absent.here c.loop-absent.so_far.row h) c.in-Some.is c.holds_one.ensures)) c.in_ok-held.ensures refl in
    (node-inside _ _ _ _ (still-stands c.args.how.put c.args.table.now c.args.pool.now c.args.rows.now c.args.out.now c.args.at.core c.args.at.row c.args.node c.args.omittable _ _ _ _ y c.requires.1).fits c.requires.0).1

pub loop-absent-smaller : goal.loop-absent-smaller
loop-absent-smaller c =
    let s = still-stands c.args.how.put c.args.table.now c.args.pool.now c.args.rows.now c.args.out.now c.args.at.core c.args.at.row c.args.node c.args.omittable c.loop-absent.out c.loop-absent.so_far.core c.loop-absent.so_far.row c.loop-absent.here c.loop-absent.invariant.1 c.requires.1 in
    omega (arith, (node-inside _ _ _ _ s.fits c.requires.0).0)

pub loop-absent-preserved : goal.loop-absent-preserved
loop-absent-preserved c = (c.own_row.auto.out ∙ c.loop-absent.invariant.0, leads-again c.args.how.put c.args.table.now c.args.pool.now c.args.rows.now c.args.out.now c.args.at.core c.args.at.row c.args.node c.args.omittable c.loop-absent.out c.loop-absent.so_far.core c.loop-absent.so_far.row c.loop-absent.here c.loop-absent.invariant.1 c.requires.0 c.loop-absent-test.true _ (lone c.args.table.now c.args.pool.now c.args.rows.now c.loop-absent.here c.loop-absent.so_far.row c.in-Some.holder c.is_array-array.ensures (subst (λ h. Alone c.args.table.now c.args.pool.now c.args.rows.now c.loop-absent.here c.loop-absent.so_far.row h) c.in-Some.is c.holds_one.ensures)) c.in_ok-held.ensures c.may_be_absent-absent.ensures)
