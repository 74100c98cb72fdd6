-- The functions of the pass meet their contracts.
use native.Mathlib.Omega.{arith}
use mathlib.Core.Path.{◌≡◌, refl, sym, ◌∙◌}
use Rattle.write_walk.proofs.ByKind.{begins, path-within, own-fits, value_gone, value-here, wire-boolean}
use Rattle.write_walk.proofs.Several.{values-fits, values-not, values-again, values-end, holds-run}
use Rattle.write_walk.proofs.Sequences.{sequence-fits, sequence-not, sequence-again, sequence-end}
use Rattle.format.specs.Table.{node_at, ARRAY}
use Rattle.table.specs.declared.nodes.Kind.TheVariants as kinds
use Rattle.table.specs.Kind.{kind-true, kind-false}
use Rattle.table.specs.Answers.{met}
use Rattle.wire_types.specs.Nodes.{node-inside, wire-inside, array-left, block_inside}
use Rattle.wire_types.specs.Path.{some_left}
use Rattle.laws.specs.Facts.{by_bool}
use Prim.Native.Nat.{ℕ, ◌+◌, ◌-◌}
use Rattle.write_walk.proofs.+walk.Goals as goal

pub holder-own_row-requires : goal.holder-own_row-requires
holder-own_row-requires t c = ((begins c.requires.0).0, (begins c.requires.0).1, (wire-inside c.args.table.now c.args.work.now c.args.node c.args.left c.requires.2 c.requires.1).2, c.requires.3)

pub holder-overflow_add-node : goal.holder-overflow_add-node
holder-overflow_add-node t c = omega (arith, (wire-inside c.args.table.now c.args.work.now c.args.node c.args.left c.requires.2 c.requires.1).1)

pub holder-overflow_sub-left : goal.holder-overflow_sub-left
holder-overflow_sub-left t c = (wire-inside c.args.table.now c.args.work.now c.args.node c.args.left c.requires.2 c.requires.1).0

pub holder-values-requires : goal.holder-values-requires
holder-values-requires t c =
    let y = c.in_ok-held.ensures in
    let o = y.remaining c.args.how refl c.args.work.now c.requires.0 in
    (omega (arith, (wire-inside c.args.table.now c.args.work.now c.args.node c.args.left c.requires.2 c.requires.1).0), (o.holds, c.requires.1, holds-run c.args.array c.requires.3 y.listed c.requires.2))

pub holder-returns : goal.holder-returns
holder-returns t c =
    let y = c.in_ok-held.ensures in
    let o = y.remaining c.args.how refl c.args.work.now c.requires.0 in
    by_bool c.args.array (λ e. o.entries e (c.values.ensures.entries e)) (λ e. o.fields e (c.values.ensures.fields e))

pub fields-value-requires : goal.fields-value-requires
fields-value-requires t c =
    let f = sequence-fits c.args.how c.args.table.now c.args.pool.now c.args.rows.now c.args.out.now c.args.work.now c.args.omittable c.args.left c.args.node c.args.count c.args.at.row c.args.at.core c.loop-done.out c.loop-done.work c.loop-done.k c.loop-done.here c.loop-done.absent c.loop-done.so_far.row c.loop-done.so_far.core c.loop-done.invariant c.requires.1 c.requires.2 in
    (omega arith, (c.loop-done.invariant.holds, c.requires.1, f))

pub fields-returns-in_err-done : goal.fields-returns-in_err-done
fields-returns-in_err-done t c = rw (met c.from_residual.ensures.1) (sequence-not c.args.how c.args.table.now c.args.pool.now c.args.rows.now c.args.out.now c.args.work.now c.args.omittable c.args.left c.args.node c.args.count c.args.at.row c.args.at.core c.loop-done.out c.loop-done.work c.loop-done.k c.loop-done.here c.loop-done.absent c.loop-done.so_far.row c.loop-done.so_far.core c.loop-done.invariant c.requires.1 c.in_err-done.ensures refl)

pub fields-returns-then-k-eq0 : goal.fields-returns-then-k-eq0
fields-returns-then-k-eq0 t c = sequence-end c.args.how c.args.table.now c.args.pool.now c.args.rows.now c.args.out.now c.args.work.now c.args.omittable c.args.left c.args.node c.args.count c.args.at.row c.args.at.core c.loop-done.out c.loop-done.work c.loop-done.k c.loop-done.here c.loop-done.absent c.loop-done.so_far.row c.loop-done.so_far.core c.loop-done.invariant c.requires.1 c.in_ok-done.ensures c.if-k-eq0.true

pub fields-end_at-here-requires : goal.fields-end_at-here-requires
fields-end_at-here-requires t c =
    let f = sequence-fits c.args.how c.args.table.now c.args.pool.now c.args.rows.now c.args.out.now c.args.work.now c.args.omittable c.args.left c.args.node c.args.count c.args.at.row c.args.at.core c.loop-done.out c.loop-done.work c.loop-done.k c.loop-done.here c.loop-done.absent c.loop-done.so_far.row c.loop-done.so_far.core c.loop-done.invariant c.requires.1 c.requires.2 in
    omega (arith, (node-inside _ _ _ _ f c.requires.1).0, c.loop-done.invariant.holds.ready.good.slots.whole, c.value.auto.work)

pub fields-is_omittable-absent-requires : goal.fields-is_omittable-absent-requires
fields-is_omittable-absent-requires t c =
    let y = sequence-again c.args.how c.args.table.now c.args.pool.now c.args.rows.now c.args.out.now c.args.work.now c.args.omittable c.args.left c.args.node c.args.count c.args.at.row c.args.at.core c.loop-done.out c.loop-done.work c.loop-done.k c.loop-done.here c.loop-done.absent c.loop-done.so_far.row c.loop-done.so_far.core c.loop-done.invariant c.requires.1 c.in_ok-done.ensures c.requires.2 c.if-k-eq0.false refl c.end_at-here.ensures.0 refl c.value.auto.out c.value.auto.work in
    (node-inside _ _ _ _ (sequence-fits c.args.how c.args.table.now c.args.pool.now c.args.rows.now c.args.out.now c.args.work.now c.args.omittable c.args.left c.args.node c.args.count c.args.at.row c.args.at.core _ _ _ _ _ _ _ y c.requires.1 c.requires.2) c.requires.1).1

pub fields-loop-done-preserved : goal.fields-loop-done-preserved
fields-loop-done-preserved t c = sequence-again c.args.how c.args.table.now c.args.pool.now c.args.rows.now c.args.out.now c.args.work.now c.args.omittable c.args.left c.args.node c.args.count c.args.at.row c.args.at.core c.loop-done.out c.loop-done.work c.loop-done.k c.loop-done.here c.loop-done.absent c.loop-done.so_far.row c.loop-done.so_far.core c.loop-done.invariant c.requires.1 c.in_ok-done.ensures c.requires.2 c.if-k-eq0.false refl c.end_at-here.ensures.0 c.is_omittable-absent.ensures c.value.auto.out c.value.auto.work

pub value-is_kind-nullable-requires : goal.value-is_kind-nullable-requires
value-is_kind-nullable-requires t c = (node-inside c.args.table.now c.args.work.now c.args.left c.args.node c.requires.2 c.requires.1).1

pub value-returns-in_err-first : goal.value-returns-in_err-first
value-returns-in_err-first t c = rw (met c.from_residual.ensures.1) (value_gone c.args.how c.args.table.now c.args.pool.now c.args.rows.now c.args.out.now c.args.work.now c.args.at.row c.args.at.core c.args.node c.requires.0 c.is_kind-nullable.ensures c.in_err-first.ensures)

pub value-returns-in-Gone : goal.value-returns-in-Gone
value-returns-in-Gone t c = value_gone c.args.how c.args.table.now c.args.pool.now c.args.rows.now c.args.out.now c.args.work.now c.args.at.row c.args.at.core c.args.node c.requires.0 c.is_kind-nullable.ensures (rw c.in-Gone.is at c.in_ok-first.ensures)

pub value-below-own-requires : goal.value-below-own-requires
value-below-own-requires t c = (node-inside c.args.table.now c.args.work.now c.args.left c.args.node c.requires.2 c.requires.1).0

pub value-path_below-path-requires : goal.value-path_below-path-requires
value-path_below-path-requires t c = some_left c.args.table.now c.args.work.now c.args.left c.args.node c.requires.2

pub value-wire-requires : goal.value-wire-requires
value-wire-requires t c =
    let z = c.is_kind-nullable.ensures in
    (omega (arith, path-within c.args.table.now c.args.work.now c.args.left c.args.node z c.path_below-path.ensures), (c.requires.0, c.requires.1, own-fits c.args.table.now c.args.work.now c.args.left c.args.node z c.below-own.ensures c.path_below-path.ensures c.requires.2))

pub value-returns-in-Here : goal.value-returns-in-Here
value-returns-in-Here t c = value-here c.args.how c.args.table.now c.args.pool.now c.args.rows.now c.args.out.now c.args.work.now c.args.at.row c.args.at.core c.args.node c.requires.0 c.is_kind-nullable.ensures (rw c.in-Here.is at c.in_ok-first.ensures) c.below-own.ensures c.wire.ensures

pub value_in_place-returns-in_err-s : goal.value_in_place-returns-in_err-s
value_in_place-returns-in_err-s t c = rw (met c.from_residual.ensures.1) (c.in_err-s.ensures.writes c.args.how refl c.args.work.now c.requires.0 c.requires.2)

pub value_in_place-returns-in-Whole : goal.value_in_place-returns-in-Whole
value_in_place-returns-in-Whole t c = (rw c.in-Whole.is at c.in_ok-s.ensures).writes c.args.how refl c.args.work.now c.requires.0 c.requires.2

pub value_in_place-overflow_sub-left : goal.value_in_place-overflow_sub-left
value_in_place-overflow_sub-left t c =
    let y = rw c.in-Values.is at c.in_ok-s.ensures in
    let z = y.remaining c.args.how refl c.args.work.now c.requires.0 c.requires.2 in
    omega (arith, some_left _ _ _ _ z.fits.first)

pub value_in_place-fields-requires : goal.value_in_place-fields-requires
value_in_place-fields-requires t c =
    let y = rw c.in-Values.is at c.in_ok-s.ensures in
    let z = y.remaining c.args.how refl c.args.work.now c.requires.0 c.requires.2 in
    (omega arith, (z.holds, c.requires.1, z.fits))

pub value_in_place-returns-in-Values : goal.value_in_place-returns-in-Values
value_in_place-returns-in-Values t c = ((rw c.in-Values.is at c.in_ok-s.ensures).remaining c.args.how refl c.args.work.now c.requires.0 c.requires.2).whole c.fields.ensures

pub values-may_be_absent-omittable-requires : goal.values-may_be_absent-omittable-requires
values-may_be_absent-omittable-requires t c = (node-inside _ _ _ _ (values-fits c.args.how c.args.table.now c.args.pool.now c.args.rows.now c.args.out.now c.args.work.now c.args.node c.args.repeated c.args.count c.args.at.row c.args.at.core c.loop-k.out c.loop-k.work (c.args.count - c.loop-k.k) c.loop-k.here c.loop-k.so_far.row c.loop-k.so_far.core c.loop-k.invariant c.requires.1 c.requires.2 (λ q. omega (arith, c.loop-k-test.true))) c.requires.1).1

pub values-next_node-after-requires : goal.values-next_node-after-requires
values-next_node-after-requires t c = omega (arith, (node-inside _ _ _ _ (values-fits c.args.how c.args.table.now c.args.pool.now c.args.rows.now c.args.out.now c.args.work.now c.args.node c.args.repeated c.args.count c.args.at.row c.args.at.core c.loop-k.out c.loop-k.work (c.args.count - c.loop-k.k) c.loop-k.here c.loop-k.so_far.row c.loop-k.so_far.core c.loop-k.invariant c.requires.1 c.requires.2 (λ q. omega (arith, c.loop-k-test.true))) c.requires.1).0, c.loop-k.invariant.holds.ready.good.slots.whole)

pub values-descend-requires : goal.values-descend-requires
values-descend-requires t c =
    let f = values-fits c.args.how c.args.table.now c.args.pool.now c.args.rows.now c.args.out.now c.args.work.now c.args.node c.args.repeated c.args.count c.args.at.row c.args.at.core c.loop-k.out c.loop-k.work (c.args.count - c.loop-k.k) c.loop-k.here c.loop-k.so_far.row c.loop-k.so_far.core c.loop-k.invariant c.requires.1 c.requires.2 (λ q. omega (arith, c.loop-k-test.true)) in
    (c.requires.1, record { work = c.loop-k.work; left = c.args.left; holds = c.loop-k.invariant.holds; fits = f })

pub values-returns-in_err-d : goal.values-returns-in_err-d
values-returns-in_err-d t c =
    let f = values-fits c.args.how c.args.table.now c.args.pool.now c.args.rows.now c.args.out.now c.args.work.now c.args.node c.args.repeated c.args.count c.args.at.row c.args.at.core c.loop-k.out c.loop-k.work (c.args.count - c.loop-k.k) c.loop-k.here c.loop-k.so_far.row c.loop-k.so_far.core c.loop-k.invariant c.requires.1 c.requires.2 (λ q. omega (arith, c.loop-k-test.true)) in
    rw (met c.from_residual.ensures.1) (values-not c.args.how c.args.table.now c.args.pool.now c.args.rows.now c.args.out.now c.args.work.now c.args.node c.args.repeated c.args.count c.args.at.row c.args.at.core c.loop-k.out c.loop-k.work (c.args.count - c.loop-k.k) c.loop-k.here c.loop-k.so_far.row c.loop-k.so_far.core c.loop-k.invariant c.requires.1 (λ q. omega (arith, c.loop-k-test.true)) c.may_be_absent-omittable.ensures (c.in_err-d.ensures.writes c.args.how refl c.loop-k.work c.loop-k.invariant.holds f) refl)

pub values-overflow_sub-path-in-loop-k : goal.values-overflow_sub-path-in-loop-k
values-overflow_sub-path-in-loop-k t c =
    let f = values-fits c.args.how c.args.table.now c.args.pool.now c.args.rows.now c.args.out.now c.args.work.now c.args.node c.args.repeated c.args.count c.args.at.row c.args.at.core c.loop-k.out c.loop-k.work (c.args.count - c.loop-k.k) c.loop-k.here c.loop-k.so_far.row c.loop-k.so_far.core c.loop-k.invariant c.requires.1 c.requires.2 (λ q. omega (arith, c.loop-k-test.true)) in
    let y = c.in_ok-d.ensures in
    let z = y.remaining c.args.how refl c.loop-k.work c.loop-k.invariant.holds f in
    omega (arith, some_left _ _ _ _ z.fits)

pub values-value_in_place-requires : goal.values-value_in_place-requires
values-value_in_place-requires t c =
    let f = values-fits c.args.how c.args.table.now c.args.pool.now c.args.rows.now c.args.out.now c.args.work.now c.args.node c.args.repeated c.args.count c.args.at.row c.args.at.core c.loop-k.out c.loop-k.work (c.args.count - c.loop-k.k) c.loop-k.here c.loop-k.so_far.row c.loop-k.so_far.core c.loop-k.invariant c.requires.1 c.requires.2 (λ q. omega (arith, c.loop-k-test.true)) in
    let y = c.in_ok-d.ensures in
    let z = y.remaining c.args.how refl c.loop-k.work c.loop-k.invariant.holds f in
    (omega arith, (z.holds, c.requires.1, z.fits))

pub values-returns-in_err-r : goal.values-returns-in_err-r
values-returns-in_err-r t c =
    let f = values-fits c.args.how c.args.table.now c.args.pool.now c.args.rows.now c.args.out.now c.args.work.now c.args.node c.args.repeated c.args.count c.args.at.row c.args.at.core c.loop-k.out c.loop-k.work (c.args.count - c.loop-k.k) c.loop-k.here c.loop-k.so_far.row c.loop-k.so_far.core c.loop-k.invariant c.requires.1 c.requires.2 (λ q. omega (arith, c.loop-k-test.true)) in
    let y = c.in_ok-d.ensures.remaining c.args.how refl c.loop-k.work c.loop-k.invariant.holds f in
    rw (met c.from_residual-in_err-r.ensures.1) (values-not c.args.how c.args.table.now c.args.pool.now c.args.rows.now c.args.out.now c.args.work.now c.args.node c.args.repeated c.args.count c.args.at.row c.args.at.core c.loop-k.out c.loop-k.work (c.args.count - c.loop-k.k) c.loop-k.here c.loop-k.so_far.row c.loop-k.so_far.core c.loop-k.invariant c.requires.1 (λ q. omega (arith, c.loop-k-test.true)) c.may_be_absent-omittable.ensures (y.whole c.in_err-r.ensures) refl)

pub values-loop-k-preserved : goal.values-loop-k-preserved
values-loop-k-preserved t c =
    let f = values-fits c.args.how c.args.table.now c.args.pool.now c.args.rows.now c.args.out.now c.args.work.now c.args.node c.args.repeated c.args.count c.args.at.row c.args.at.core c.loop-k.out c.loop-k.work (c.args.count - c.loop-k.k) c.loop-k.here c.loop-k.so_far.row c.loop-k.so_far.core c.loop-k.invariant c.requires.1 c.requires.2 (λ q. omega (arith, c.loop-k-test.true)) in
    let y = c.in_ok-d.ensures.remaining c.args.how refl c.loop-k.work c.loop-k.invariant.holds f in
    let e : c.args.count - (c.loop-k.k + 1) ≡ c.args.count - c.loop-k.k - 1 = omega arith in
    rw e (values-again c.args.how c.args.table.now c.args.pool.now c.args.rows.now c.args.out.now c.args.work.now c.args.node c.args.repeated c.args.count c.args.at.row c.args.at.core c.loop-k.out c.loop-k.work (c.args.count - c.loop-k.k) c.loop-k.here c.loop-k.so_far.row c.loop-k.so_far.core c.loop-k.invariant c.requires.1 (λ q. omega (arith, c.loop-k-test.true)) c.may_be_absent-omittable.ensures (y.whole c.in_ok-r.ensures) c.requires.2 c.next_node-after.ensures (c.value_in_place.auto.out ∙ c.descend.auto.out) c.value_in_place.auto.work refl)

pub values-returns : goal.values-returns
values-returns t c = values-end c.args.how c.args.table.now c.args.pool.now c.args.rows.now c.args.out.now c.args.work.now c.args.node c.args.repeated c.args.count c.args.at.row c.args.at.core c.loop-k.out c.loop-k.work (c.args.count - c.loop-k.k) c.loop-k.here c.loop-k.so_far.row c.loop-k.so_far.core c.loop-k.invariant c.requires.1 (omega (arith, c.loop-k-test.false))

pub wire-is_kind-requires : goal.wire-is_kind-requires
wire-is_kind-requires t c = (wire-inside c.args.table.now c.args.work.now c.args.node c.args.left c.requires.2 c.requires.1).2

pub wire-is_kind-requires-2 : goal.wire-is_kind-requires-2
wire-is_kind-requires-2 t c = (wire-inside c.args.table.now c.args.work.now c.args.node c.args.left c.requires.2 c.requires.1).2

pub wire-is_kind-requires-3 : goal.wire-is_kind-requires-3
wire-is_kind-requires-3 t c = (wire-inside c.args.table.now c.args.work.now c.args.node c.args.left c.requires.2 c.requires.1).2

pub wire-block-requires : goal.wire-block-requires
wire-block-requires t c =
    let k = kind-true kinds.Block c.is_kind.ensures c.if-is_kind.true in
    let b = block_inside c.args.table.now c.args.work.now c.args.node c.args.left c.requires.2 c.requires.1 (λ q. let z : ◌≡◌ {A = ℕ} 9 2 = sym k ∙ q in omega arith) (λ q. let z : ◌≡◌ {A = ℕ} 9 7 = sym k ∙ q in omega arith) (λ q. let z : ◌≡◌ {A = ℕ} 9 8 = sym k ∙ q in omega arith) in
    (c.requires.0, k, b.1, b.2)

pub wire-returns-then-is_kind-2 : goal.wire-returns-then-is_kind-2
wire-returns-then-is_kind-2 t c = wire-boolean c.args.how c.args.table.now c.args.pool.now c.args.rows.now c.args.out.now c.args.work.now c.args.at.row c.args.at.core c.args.node c.requires.0 c.args.top (kind-true kinds.Boolean c.is_kind-2.ensures c.if-is_kind-2.true) c.boolean.ensures

pub wire-holder-requires : goal.wire-holder-requires
wire-holder-requires t c = (omega arith, (c.requires.0, c.requires.1, c.requires.2, kind-true kinds.Record c.is_kind-3.ensures c.if-is_kind-3.true))

pub wire-holder-requires-2 : goal.wire-holder-requires-2
wire-holder-requires-2 t c =
    let k : (node_at c.args.table.now c.args.node).kind ≡ ARRAY = array-left c.args.table.now c.args.work.now c.args.node c.args.left c.requires.2 c.requires.1
    (kind-false kinds.Block c.is_kind.ensures c.if-is_kind.false) (kind-false kinds.Boolean c.is_kind-2.ensures c.if-is_kind-2.false) (kind-false kinds.Record c.is_kind-3.ensures c.if-is_kind-3.false) in
    (omega arith, (c.requires.0, c.requires.1, c.requires.2, k))
