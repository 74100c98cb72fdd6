-- `node`, `under` and `fields` of `table::tree` meet their contracts. The path falls: from a node to what is below it. The invariant of the loop: who makes the fields that are left has made them all.
use native.Mathlib.Omega.{arith}
use native.Mathlib.Numerals.{unary_clauses}
use mathlib.Core.Path.{◌≡◌, refl, ◌∙◌}
use Rattle.std.proofs.Common.{rules}
use Prim.Native.Nat.{◌+◌, ◌-◌}
use Rattle.format.specs.Table.{node_at}
use Rattle.table.specs.Passes.{context_of}
use Rattle.table.specs.Answers.{met}
use Rattle.table.specs.Kind.{kind-here, kind-not, kind-none}
use Rattle.table.specs.declared.nodes.Kind.TheVariants as kind
use Rattle.table.proofs.Trees.{leads-self, node-deep, node-not, node-inside, node-fails, node-within, node_done, below-record, below-array, below-block, below-nullable, below-nothing, fields-none, fields-not, fields-again}
use Rattle.table.proofs.tree.+fields_node_under.Goals.{under-in_default-via-in-Some+in_default, under-in_default-via-in_default}
use Rattle.table.proofs.tree.+fields_node_under.Goals as goal

pub fields-loop-init : goal.fields-loop-init
fields-loop-init t c = (refl, simp unary_clauses leads-self)

pub fields-returns-in_err-at : goal.fields-returns-in_err-at
fields-returns-in_err-at t c = rw (met c.from_residual.ensures.1) (c.loop.invariant.1.onward (fields-not c.args.counted.now.n (node_at c.args.counted.now.table.now) c.args.path (c.args.count - c.loop.counter) c.loop.at (λ z. omega arith) c.node.ensures c.in_err-at.was))

pub fields-loop-preserved : goal.fields-loop-preserved
fields-loop-preserved t c = let e : c.args.count - (c.loop.counter + 1) ≡ c.args.count - c.loop.counter - 1 = omega arith in (c.node.auto.work ∙ c.loop.invariant.0, rw e (fields-again c.args.counted.now.n (node_at c.args.counted.now.table.now) c.args.path (c.args.count - c.loop.counter) c.loop.at (λ z. omega arith) c.node.ensures c.loop.invariant.1 c.in_ok-at.was))

pub fields-returns : goal.fields-returns
fields-returns t c = c.loop.invariant.1.onward (fields-none c.args.counted.now.n (node_at c.args.counted.now.table.now) c.args.path (c.args.count - c.loop.counter) c.loop.at (omega arith))

pub node-returns-then-path-eq0 : goal.node-returns-then-path-eq0
node-returns-then-path-eq0 t c = node-deep c.args.counted.now.n (node_at c.args.counted.now.table.now) c.args.path (context_of c.args.parent) c.args.i c.if-path-eq0.true

pub node-returns-in_err-stand : goal.node-returns-in_err-stand
node-returns-in_err-stand t c = rw (met c.from_residual.ensures.1) (node-not c.args.counted.now.n (node_at c.args.counted.now.table.now) c.args.path (context_of c.args.parent) c.args.i c.if-path-eq0.false c.stand.ensures c.in_err-stand.was)

pub node-returns-in_err-j : goal.node-returns-in_err-j
node-returns-in_err-j t c = rw (met c.from_residual-in_err-j.ensures.1) (node-fails c.args.counted.now.n (node_at c.args.counted.now.table.now) c.args.path (context_of c.args.parent) c.args.i c.if-path-eq0.false c.stand.ensures c.in_ok-stand.was c.under.ensures c.in_err-j.was)

pub node-overflow_cast-work : goal.node-overflow_cast-work
node-overflow_cast-work t c = omega (arith, node-within c.args.counted.now.n (node_at c.args.counted.now.table.now) c.args.path (context_of c.args.parent) c.args.i c.if-path-eq0.false c.stand.ensures c.in_ok-stand.was c.under.ensures c.in_ok-j.was)

pub node-under-requires : goal.node-under-requires
node-under-requires t c = (omega arith, omega (arith, node-inside c.args.counted.now.n (node_at c.args.counted.now.table.now) c.args.path (context_of c.args.parent) c.args.i c.if-path-eq0.false c.stand.ensures c.in_ok-stand.was))

pub node-offset_bounds-work-i : goal.node-offset_bounds-work-i
node-offset_bounds-work-i t c = omega (arith, node-inside c.args.counted.now.n (node_at c.args.counted.now.table.now) c.args.path (context_of c.args.parent) c.args.i c.if-path-eq0.false c.stand.ensures c.in_ok-stand.was)

pub node-bounds-work-i : goal.node-bounds-work-i
node-bounds-work-i t c = omega (arith, c.requires, c.under.auto.work, node-inside c.args.counted.now.n (node_at c.args.counted.now.table.now) c.args.path (context_of c.args.parent) c.args.i c.if-path-eq0.false c.stand.ensures c.in_ok-stand.was)

pub node-returns : goal.node-returns
node-returns t c = node_done c.args.counted.now.n (node_at c.args.counted.now.table.now) c.args.path (context_of c.args.parent) c.args.i c.if-path-eq0.false c.stand.ensures c.in_ok-stand.was c.under.ensures c.in_ok-j.was

pub under-returns-in-Some-Record : goal.under-returns-in-Some-Record
under-returns-in-Some-Record t c = below-record c.args.counted.now.n (node_at c.args.counted.now.table.now) c.args.path c.args.i (kind-here kind.Record c.kind_at.ensures c.in-Some-Record.is c.in-Some-Record.field-0-is) c.argument_at.ensures.0 c.fields.ensures

pub under-returns-in-Some-Array : goal.under-returns-in-Some-Array
under-returns-in-Some-Array t c = below-array c.args.counted.now.n (node_at c.args.counted.now.table.now) c.args.path c.args.i (kind-here kind.Array c.kind_at.ensures c.in-Some-Array.is c.in-Some-Array.field-0-is) c.node.ensures

pub under-returns-in-Some-Block : goal.under-returns-in-Some-Block
under-returns-in-Some-Block t c = below-block c.args.counted.now.n (node_at c.args.counted.now.table.now) c.args.path c.args.i (kind-here kind.Block c.kind_at.ensures c.in-Some-Block.is c.in-Some-Block.field-0-is) c.leaf.ensures

pub under-returns-in-Some-Nullable : goal.under-returns-in-Some-Nullable
under-returns-in-Some-Nullable t c = below-nullable c.args.counted.now.n (node_at c.args.counted.now.table.now) c.args.path c.args.i (kind-here kind.Nullable c.kind_at.ensures c.in-Some-Nullable.is c.in-Some-Nullable.field-0-is) c.node-in-Some-Nullable.ensures

pub under-returns-in_default : goal.under-returns-in_default
under-returns-in_default t c = elim c.in_default.branch [
  | under-in_default-via-in-Some+in_default w ↦ below-nothing c.args.counted.now.n (node_at c.args.counted.now.table.now) c.args.path c.args.i
      (kind-not kind.Record c.kind_at.ensures w.in_default.is (search rules))
      (kind-not kind.Array c.kind_at.ensures w.in_default.is (search rules))
      (kind-not kind.Block c.kind_at.ensures w.in_default.is (search rules))
      (kind-not kind.Nullable c.kind_at.ensures w.in_default.is (search rules))
  | under-in_default-via-in_default w ↦ below-nothing c.args.counted.now.n (node_at c.args.counted.now.table.now) c.args.path c.args.i
      (kind-none kind.Record c.kind_at.ensures w.in_default.is)
      (kind-none kind.Array c.kind_at.ensures w.in_default.is)
      (kind-none kind.Block c.kind_at.ensures w.in_default.is)
      (kind-none kind.Nullable c.kind_at.ensures w.in_default.is)
]
