-- `table::keys::agree` meets its contract.
use native.Mathlib.Omega.{arith}
use mathlib.Core.Path.{sym, ◌∙◌}
use borrow.Author.Tests.{eqb-true, eqb-false}
use Prim.Native.Nat.{◌<◌}
use Rattle.format.specs.Table.{node_at}
use Rattle.table.proofs.Notes.{agrees-none, notes-more, beside-self, noted}
use Rattle.table.proofs.keys.agree.Goals as goal

pub returns-then-not-is_kind : goal.returns-then-not-is_kind
returns-then-not-is_kind c = record { value = agrees-none c.args.counted.now.n (node_at c.args.counted.now.table.now) c.args.i (eqb-false _ _ (sym c.is_kind.ensures ∙ c.if-not-is_kind.true)); notes = notes-more c.args.counted.now.n (node_at c.args.counted.now.table.now) c.args.i c.args.work.now c.requires.3 (eqb-false _ _ (sym c.is_kind.ensures ∙ c.if-not-is_kind.true)); beside = beside-self _ }

pub first_use-first-requires : goal.first_use-first-requires
first_use-first-requires c = let key : c.argument_at.result < 32 = (rw c.argument_at.ensures.0 (c.requires.0.keys c.args.i c.requires.1 (eqb-true _ _ (sym c.is_kind.ensures ∙ c.if-not-is_kind.false)))) in (key, omega (arith, c.requires.0.most, c.requires.1), c.requires.2, (c.requires.3.note _ key).within)

pub alike-requires : goal.alike-requires
alike-requires c = omega (arith, c.requires.0.inside, c.requires.0.child c.args.i c.requires.1 (eqb-true _ _ (sym c.is_kind.ensures ∙ c.if-not-is_kind.false)), c.first_use-first.ensures.value.1)

pub returns : goal.returns
returns c = let key : c.argument_at.result < 32 = (rw c.argument_at.ensures.0 (c.requires.0.keys c.args.i c.requires.1 (eqb-true _ _ (sym c.is_kind.ensures ∙ c.if-not-is_kind.false)))) in let x = noted c.args.counted.now.n (node_at c.args.counted.now.table.now) c.args.i c.args.work.now _ _ _ c.requires.3 c.requires.1 c.requires.2 key (eqb-true _ _ (sym c.is_kind.ensures ∙ c.if-not-is_kind.false)) c.argument_at.ensures.0 c.first_use-first.ensures.value.0 c.first_use-first.ensures.work_after in record { value = c.alike.ensures ∙ x.0; notes = x.1.0; beside = x.1.1 }
