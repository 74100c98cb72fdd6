-- `writer::write` meets its contract.
use native.Mathlib.Omega.{arith}
use mathlib.Core.Path.{refl, ap, ◌∙◌}
use Rattle.writer.proofs.Called.{checked_ok, promise-refused, promise-made}
use Rattle.wire_types.specs.Root.{check-keeps}
use lib.ListN.{length}
use Rattle.format.specs.Answer.{zeros}
use Rattle.writer.proofs.write.Goals as goal

pub returns-in-Err : goal.returns-in-Err
returns-in-Err c = let x = promise-refused (length c.args.work.now) c.args.table.now c.args.modes c.args.rows.now c.args.pool.now (length c.args.out.now) _ _ _ (λ i. omega (arith, (c.type_inv.pool i).fits)) c.check_keeping.ensures.answer c.in-Err.is refl (c.fill.ensures.after (λ y e. e)) c.check_keeping.ensures.leaves in record { answer = x.0; out_after = x.1.0; work_after = x.1.1.0; demands = x.1.1.1 }

pub write_checked-r-requires : goal.write_checked-r-requires
write_checked-r-requires c = check-keeps c.args.table.now (length c.args.work.now) (checked_ok (length c.args.work.now) c.args.table.now c.check_keeping.ensures.answer c.in_default.is) c.check_keeping.auto.work c.check_keeping.ensures.leaves

pub returns : goal.returns
returns c = let x = promise-made (length c.args.work.now) c.args.table.now c.args.modes c.args.rows.now c.args.pool.now (length c.args.out.now) _ _ _ (λ i. omega (arith, (c.type_inv.pool i).fits)) (checked_ok (length c.args.work.now) c.args.table.now c.check_keeping.ensures.answer c.in_default.is) c.write_checked-r.ensures.answer c.write_checked-r.ensures.out_after ((c.fill-2.ensures.after (λ y e. e)) ∙ ap zeros (c.write_checked-r.auto.work ∙ c.check_keeping.auto.work)) in record { answer = x.0; out_after = x.1.0; work_after = x.1.1.0; demands = x.1.1.1 }
