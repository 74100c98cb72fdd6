-- The functions of the walk meet their contracts.
use native.Mathlib.Omega.{arith}
use mathlib.Core.Path.{◌≡◌, refl, ◌∙◌}
use Prim.Native.Nat.{◌+◌, ◌-◌}
use Rattle.wire_types.specs.Nodes.{node-inside, wire-inside, block_inside}
use Rattle.wire_types.specs.Path.{some_left}
use Rattle.table.specs.Answers.{met}
use Rattle.table.specs.Kind.{kind-true, kind-false}
use Rattle.table.specs.declared.nodes.Kind.TheVariants as kind
use Rattle.read_walk.proofs.Parents.{parent-made, held-fit}
use Rattle.read_walk.proofs.Descents.{descent-to, descent-not}
use Rattle.read_walk.proofs.Several.{no_values, values-fits, values-not, values-again, values-end}
use Rattle.read_walk.proofs.Steps.{value-refused, value_gone, value-here, opened_inside, value-fits, value-less, boolean-does}
use Rattle.read_walk.proofs.+walk.Goals as goal

pub holder-make_row-requires : goal.holder-make_row-requires
holder-make_row-requires t c = (c.requires.1, (wire-inside _ _ _ _ c.requires.3 c.requires.2).2, c.requires.4)

pub holder-returns-then-p-eq0 : goal.holder-returns-then-p-eq0
holder-returns-then-p-eq0 t c =
    let x = parent-made _ c.make_row.ensures c.in_ok-p.was in
    x.onward c.args.work.now _ _ _ c.args.message.now.modes c.requires.0 (no_values c.args.repeated c.requires.0 (x.inside c.args.work.now c.requires.0) c.requires.2 c.if-p-eq0.true)

pub holder-overflow_add-node : goal.holder-overflow_add-node
holder-overflow_add-node t c = omega (arith, (wire-inside _ _ _ _ c.requires.3 c.requires.2).1)

pub holder-overflow_sub-left : goal.holder-overflow_sub-left
holder-overflow_sub-left t c = omega (arith, (wire-inside _ _ _ _ c.requires.3 c.requires.2).0)

pub holder-values-requires : goal.holder-values-requires
holder-values-requires t c =
    let x = parent-made _ c.make_row.ensures c.in_ok-p.was in
    (omega (arith, (wire-inside _ _ _ _ c.requires.3 c.requires.2).0), (c.requires.0, x.inside c.args.work.now c.requires.0, c.requires.2, held-fit c.args.repeated c.requires.4 x c.requires.3))

pub value-is_kind-nullable-requires : goal.value-is_kind-nullable-requires
value-is_kind-nullable-requires t c = (node-inside _ _ _ _ c.requires.3 c.requires.2).1

pub value-returns-in_err-seen : goal.value-returns-in_err-seen
value-returns-in_err-seen t c = rw (met c.from_residual.ensures.1) (value-refused c.args.table.now c.args.message.now.bytes.now c.args.work.now c.args.rows.now c.args.message.now.modes c.args.node c.args.at.rows c.args.omittable _ c.args.at.core _ c.is_kind-nullable.ensures c.requires.0 c.open.ensures c.in_err-seen.was)

pub value-below-own-requires : goal.value-below-own-requires
value-below-own-requires t c = (node-inside _ _ _ _ c.requires.3 c.requires.2).0

pub value-path_below-path-requires : goal.value-path_below-path-requires
value-path_below-path-requires t c = some_left _ _ _ _ c.requires.3

pub value-wire-requires : goal.value-wire-requires
value-wire-requires t c = (omega (arith, value-less c.args.left c.is_kind-nullable.ensures c.path_below-path.ensures), (c.requires.0, opened_inside c.args.table.now c.args.message.now.bytes.now c.args.work.now c.args.rows.now c.args.message.now.modes c.args.node c.args.at.rows c.args.omittable _ c.args.at.core _ c.is_kind-nullable.ensures c.requires.0 c.open.ensures c.in_ok-seen.was c.in-Here.is, c.requires.2, value-fits _ _ _ c.args.node _ _ _ c.is_kind-nullable.ensures c.below-own.ensures c.path_below-path.ensures c.requires.3))

pub value-returns-in-Gone : goal.value-returns-in-Gone
value-returns-in-Gone t c = value_gone c.args.table.now c.args.message.now.bytes.now c.args.work.now c.args.rows.now c.args.message.now.modes c.args.node c.args.at.rows c.args.omittable _ c.args.at.core _ c.is_kind-nullable.ensures c.requires.0 c.open.ensures c.in_ok-seen.was c.in-Gone.is c.row.ensures

pub value-returns-in-Here : goal.value-returns-in-Here
value-returns-in-Here t c = value-here c.args.table.now c.args.message.now.bytes.now c.args.work.now c.args.rows.now c.args.message.now.modes c.args.node c.args.at.rows c.args.omittable _ c.args.at.core _ c.is_kind-nullable.ensures c.requires.0 c.open.ensures c.in_ok-seen.was c.in-Here.is c.below-own.ensures c.wire.ensures

pub values-may_be_absent-omittable-requires : goal.values-may_be_absent-omittable-requires
values-may_be_absent-omittable-requires t c = (node-inside _ _ _ _ (values-fits c.args.table.now c.args.message.now.bytes.now c.args.work.now c.args.rows.now c.args.message.now.modes c.args.node c.args.repeated c.args.count c.args.at.core c.args.at.rows c.loop.work c.loop.rows (c.args.count - c.loop.counter) c.loop.current c.loop.reached.core c.loop.reached.rows c.loop.invariant c.requires.2 c.requires.3 (λ z. omega arith)) c.requires.2).1

pub values-next_node-end-requires : goal.values-next_node-end-requires
values-next_node-end-requires t c = omega (arith, (node-inside _ _ _ _ (values-fits c.args.table.now c.args.message.now.bytes.now c.args.work.now c.args.rows.now c.args.message.now.modes c.args.node c.args.repeated c.args.count c.args.at.core c.args.at.rows c.loop.work c.loop.rows (c.args.count - c.loop.counter) c.loop.current c.loop.reached.core c.loop.reached.rows c.loop.invariant c.requires.2 c.requires.3 (λ z. omega arith)) c.requires.2).0, c.loop.invariant.ready.good.slots.whole)

pub values-descend-requires : goal.values-descend-requires
values-descend-requires t c = (c.loop.invariant.inside, c.requires.2, record { work = c.loop.work; ready = c.loop.invariant.ready; fits = values-fits c.args.table.now c.args.message.now.bytes.now c.args.work.now c.args.rows.now c.args.message.now.modes c.args.node c.args.repeated c.args.count c.args.at.core c.args.at.rows c.loop.work c.loop.rows (c.args.count - c.loop.counter) c.loop.current c.loop.reached.core c.loop.reached.rows c.loop.invariant c.requires.2 c.requires.3 (λ z. omega arith) })

pub values-returns-in_err-d : goal.values-returns-in_err-d
values-returns-in_err-d t c = rw (met c.from_residual.ensures.1) (values-not c.args.table.now c.args.message.now.bytes.now c.args.work.now c.args.rows.now c.args.message.now.modes c.args.node c.args.repeated c.args.count c.args.at.core c.args.at.rows c.loop.work c.loop.rows (c.args.count - c.loop.counter) c.loop.current c.loop.reached.core c.loop.reached.rows c.loop.invariant c.requires.2 (λ z. omega arith) c.may_be_absent-omittable.ensures ((descent-not _ _ c.descend.ensures c.in_err-d.was).refused c.loop.work c.args.message.now.modes c.loop.invariant.ready) refl)

pub values-value-requires : goal.values-value-requires
values-value-requires t c =
    let d = descent-to _ _ c.descend.ensures c.in_ok-d.was in
    (omega (arith, d.path), (c.loop.invariant.ready, d.inside, c.requires.2, d.fits c.loop.work (values-fits c.args.table.now c.args.message.now.bytes.now c.args.work.now c.args.rows.now c.args.message.now.modes c.args.node c.args.repeated c.args.count c.args.at.core c.args.at.rows c.loop.work c.loop.rows (c.args.count - c.loop.counter) c.loop.current c.loop.reached.core c.loop.reached.rows c.loop.invariant c.requires.2 c.requires.3 (λ z. omega arith))))

pub values-returns-in_err-r : goal.values-returns-in_err-r
values-returns-in_err-r t c = rw (met c.from_residual-in_err-r.ensures.1) (values-not c.args.table.now c.args.message.now.bytes.now c.args.work.now c.args.rows.now c.args.message.now.modes c.args.node c.args.repeated c.args.count c.args.at.core c.args.at.rows c.loop.work c.loop.rows (c.args.count - c.loop.counter) c.loop.current c.loop.reached.core c.loop.reached.rows c.loop.invariant c.requires.2 (λ z. omega arith) c.may_be_absent-omittable.ensures ((descent-to _ _ c.descend.ensures c.in_ok-d.was).onward c.loop.work _ _ _ c.args.message.now.modes c.loop.invariant.ready c.value.ensures) c.in_err-r.was)

pub values-loop-preserved : goal.values-loop-preserved
values-loop-preserved t c =
    let e : c.args.count - (c.loop.counter + 1) ≡ c.args.count - c.loop.counter - 1 = omega arith in
    rw e (values-again c.args.table.now c.args.message.now.bytes.now c.args.work.now c.args.rows.now c.args.message.now.modes c.args.node c.args.repeated c.args.count c.args.at.core c.args.at.rows c.loop.work c.loop.rows (c.args.count - c.loop.counter) c.loop.current c.loop.reached.core c.loop.reached.rows c.loop.invariant c.requires.2 (λ z. omega arith) c.may_be_absent-omittable.ensures ((descent-to _ _ c.descend.ensures c.in_ok-d.was).onward c.loop.work _ _ _ c.args.message.now.modes c.loop.invariant.ready c.value.ensures) c.requires.3 c.next_node-end.ensures (c.value.auto.rows ∙ c.descend.auto.rows) c.value.auto.work c.in_ok-r.was)

pub values-returns : goal.values-returns
values-returns t c = values-end c.args.table.now c.args.message.now.bytes.now c.args.work.now c.args.rows.now c.args.message.now.modes c.args.node c.args.repeated c.args.count c.args.at.core c.args.at.rows c.loop.work c.loop.rows (c.args.count - c.loop.counter) c.loop.current c.loop.reached.core c.loop.reached.rows c.loop.invariant c.requires.2 (omega arith)

pub wire-is_kind-requires : goal.wire-is_kind-requires
wire-is_kind-requires t c = (wire-inside _ _ _ _ c.requires.3 c.requires.2).2

pub wire-is_kind-requires-2 : goal.wire-is_kind-requires-2
wire-is_kind-requires-2 t c = (wire-inside _ _ _ _ c.requires.3 c.requires.2).2

pub wire-is_kind-requires-3 : goal.wire-is_kind-requires-3
wire-is_kind-requires-3 t c = (wire-inside _ _ _ _ c.requires.3 c.requires.2).2

pub wire-returns-then-is_kind : goal.wire-returns-then-is_kind
wire-returns-then-is_kind t c = boolean-does c.args.table.now c.args.message.now.bytes.now c.args.work.now c.args.rows.now _ c.args.message.now.modes c.args.node c.args.top c.args.at.rows c.args.front c.args.at.core _ (kind-true kind.Boolean c.is_kind.ensures c.if-is_kind.true) c.requires.0 c.boolean.ensures

pub wire-holder-requires : goal.wire-holder-requires
wire-holder-requires t c = (omega arith, (c.requires.0, c.requires.1, c.requires.2, c.requires.3, kind-true kind.Record c.is_kind-2.ensures c.if-is_kind-2.true))

pub wire-holder-requires-then-is_kind-3 : goal.wire-holder-requires-then-is_kind-3
wire-holder-requires-then-is_kind-3 t c = (omega arith, (c.requires.0, c.requires.1, c.requires.2, c.requires.3, kind-true kind.Array c.is_kind-3.ensures c.if-is_kind-3.true))

pub wire-block-requires : goal.wire-block-requires
wire-block-requires t c =
    let b = block_inside _ _ _ _ c.requires.3 c.requires.2
    (kind-false kind.Boolean c.is_kind.ensures c.if-is_kind.false)
    (kind-false kind.Record c.is_kind-2.ensures c.if-is_kind-2.false)
    (kind-false kind.Array c.is_kind-3.ensures c.if-is_kind-3.false) in
    (c.requires.0, c.requires.1, b.0, b.1, b.2)
