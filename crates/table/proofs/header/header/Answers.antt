-- `table::header::header` meets its contract.
use native.Mathlib.Omega.{arith}
use mathlib.Core.Path.{sym, ap, ◌∙◌}
use lib.ListN.{length}
use Prim.Native.Nat.{ℕ}
use Rattle.format.specs.Answer.{ok}
use Rattle.format.specs.Table.{right_count}
use Rattle.table.proofs.Tests.{marked-length, header-10, header-11, header-12, header-right}
use Rattle.table.proofs.header.header.Goals as goal
use Rattle.table.proofs.header.header.Goals as goal

pub returns-then-not-is_marked : goal.returns-then-not-is_marked
returns-then-not-is_marked c = header-10 c.args.table.now (sym c.is_marked.ensures ∙ c.if-not-is_marked.true)

pub u16_at-requires : goal.u16_at-requires
u16_at-requires c = omega (arith, marked-length c.args.table.now (sym c.is_marked.ensures ∙ c.if-not-is_marked.false))

pub returns-then-u16_at-ne1 : goal.returns-then-u16_at-ne1
returns-then-u16_at-ne1 c = header-11 c.args.table.now (sym c.is_marked.ensures ∙ c.if-not-is_marked.false) (λ e. c.if-u16_at-ne1.true (c.u16_at.ensures.0 ∙ e))

pub u16_at-n-requires : goal.u16_at-n-requires
u16_at-n-requires c = omega (arith, marked-length c.args.table.now (sym c.is_marked.ensures ∙ c.if-not-is_marked.false))

pub returns-then-not-right_count : goal.returns-then-not-right_count
returns-then-not-right_count c = header-12 c.args.table.now (sym c.is_marked.ensures ∙ c.if-not-is_marked.false) (sym c.u16_at.ensures.0 ∙ c.if-u16_at-ne1.false) (ap (λ (x : ℕ). right_count x (length c.args.table.now)) (sym c.u16_at-n.ensures.0) ∙ sym c.right_count.ensures ∙ c.if-not-right_count.true)

pub returns : goal.returns
returns c = ap ok c.u16_at-n.ensures.0 ∙ header-right c.args.table.now (sym c.is_marked.ensures ∙ c.if-not-is_marked.false) (sym c.u16_at.ensures.0 ∙ c.if-u16_at-ne1.false) (ap (λ (x : ℕ). right_count x (length c.args.table.now)) (sym c.u16_at-n.ensures.0) ∙ sym c.right_count.ensures ∙ c.if-not-right_count.false)
