-- `write_walk::start::begin` meets its contract.
use native.Mathlib.Omega.{arith}
use mathlib.Core.Path.{refl, sym, ◌∙◌}
use borrow.Author.Tests.{eqb-true}
use Rattle.table.specs.Answers.{met}
use Rattle.wire_types.specs.Nodes.{node-inside}
use Rattle.write_walk.proofs.Starts.{start-alone, start_fits, start-not, start_none, start-fields}
use Rattle.write_walk.proofs.ByKind.{begins}
use Rattle.write_walk.proofs.start.begin.Goals as goal

pub returns-then-omittable : goal.returns-then-omittable
returns-then-omittable c = start-alone c.args.how.put c.args.table.now c.args.pool.now c.args.rows.now c.args.out.now c.args.at.core c.args.at.row c.args.node c.args.omittable

pub is_kind-requires : goal.is_kind-requires
is_kind-requires c = (node-inside _ _ _ _ c.requires.1.fits c.requires.0).1

pub own_row-requires : goal.own_row-requires
own_row-requires c = ((begins c.requires.1.holds).0, (begins c.requires.1.holds).1, (node-inside _ _ _ _ c.requires.1.fits c.requires.0).1, eqb-true _ _ (sym c.is_kind.ensures ∙ c.if-not-is_kind.false))

pub returns-in_err-held : goal.returns-in_err-held
returns-in_err-held c = rw (met c.from_residual.ensures.1) (rw c.if-omittable.false (start-not c.args.how.put c.args.table.now c.args.pool.now c.args.rows.now c.args.out.now c.args.at.core c.args.at.row c.args.node c.requires.0 (eqb-true _ _ (sym c.is_kind.ensures ∙ c.if-not-is_kind.false)) c.in_err-held.ensures))

pub returns-then-held-eq0 : goal.returns-then-held-eq0
returns-then-held-eq0 c = rw c.if-omittable.false (start_none c.args.how.put c.args.table.now c.args.pool.now c.args.rows.now c.args.out.now c.args.at.core c.args.at.row c.args.node c.requires.0 (eqb-true _ _ (sym c.is_kind.ensures ∙ c.if-not-is_kind.false)) c.in_ok-held.ensures c.if-held-eq0.true)

pub overflow_add-node : goal.overflow_add-node
overflow_add-node c = omega (arith, (node-inside _ _ _ _ c.requires.1.fits c.requires.0).0)

pub is_omittable-absent-requires : goal.is_omittable-absent-requires
is_omittable-absent-requires c =
    let y = c.in_ok-held.ensures in
    (node-inside _ _ _ _ (start_fits c.args.how.put c.args.table.now c.args.pool.now c.args.rows.now c.args.out.now c.args.at.core c.args.at.row c.args.node c.requires.0 (eqb-true _ _ (sym c.is_kind.ensures ∙ c.if-not-is_kind.false)) (y.listed refl) c.requires.1.work c.if-held-eq0.false c.requires.1.fits).first c.requires.0).1

pub overflow_add-result : goal.overflow_add-result
overflow_add-result c = omega (arith, (node-inside _ _ _ _ c.requires.1.fits c.requires.0).0)

pub returns : goal.returns
returns c = rw c.if-omittable.false (start-fields c.args.how.put c.args.table.now c.args.pool.now c.args.rows.now c.args.out.now c.args.at.core c.args.at.row c.args.node c.requires.0 (eqb-true _ _ (sym c.is_kind.ensures ∙ c.if-not-is_kind.false)) c.in_ok-held.ensures c.if-held-eq0.false c.is_omittable-absent.ensures)
