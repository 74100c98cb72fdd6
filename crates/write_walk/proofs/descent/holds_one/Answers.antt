-- `write_walk::descent::holds_one` meets its contract.
use mathlib.Core.Path.{sym, ◌∙◌}
use borrow.Author.Tests.{eqb-true}
use Rattle.table.specs.declared.nodes.Kind.TheVariants.{Record, Array}
use Rattle.table.specs.Kind.{kind-true}
use Rattle.write_walk.specs.declared.descent.Holder.TheVariants as holders
use Rattle.write_walk.proofs.Descents.{alone-if}
use Rattle.write_walk.proofs.descent.holds_one.Goals.{then-argument_at-eq1, else-argument_at-eq1}
use Rattle.write_walk.proofs.descent.holds_one.Goals as goal

pub returns-then-is_kind : goal.returns-then-is_kind
returns-then-is_kind c =
    let k = kind-true Record c.is_kind.ensures c.if-is_kind.true in
    elim c.if-argument_at-eq1.branch [
      | then-argument_at-eq1 w ↦ rw c.then_some.ensures (alone-if _ _ _ _ _ c.if-argument_at-eq1.alone holders.Record (λ e. record { kind = k; count = sym c.argument_at.ensures.0 ∙ w.if-argument_at-eq1.true; row = w.is_one-alone.ensures.is (sym w.alone-is ∙ e) }))
      | else-argument_at-eq1 w ↦ rw c.then_some.ensures (alone-if _ _ _ _ _ c.if-argument_at-eq1.alone holders.Record (λ e. absurd (w.if-argument_at-eq1.false (eqb-true _ 1 (sym w.alone-is ∙ e)))))
    ]

pub returns-then-is_kind-2 : goal.returns-then-is_kind-2
returns-then-is_kind-2 c =
    let k = kind-true Array c.is_kind-2.ensures c.if-is_kind-2.true in
    rw c.then_some-then-is_kind-2.ensures (alone-if _ _ _ _ _ c.is_one.result holders.Array (λ e. record { kind = k; row = c.is_one.ensures.is e }))
