-- `writer::count` meets its contract.
use Rattle.write_literals.specs.Laws.{cleared}
use Rattle.wire_types.specs.Root.{kept-sized, kept-fits}
use Rattle.writer.proofs.First.{kept_same, clear-holds, clear-plan, clear-same, count-refused, count_left, count-done}
use mathlib.Core.Path.{refl}
use Rattle.table.specs.Answers.{met}
use Rattle.writer.proofs.count.Goals as goal

pub root-requires : goal.root-requires
root-requires c = (clear-holds c.requires.1 (cleared c.requires.0.whole c.clear.ensures), kept-sized (kept_same c.requires.0 c.clear.auto.work (clear-same c.requires.1 (cleared c.requires.0.whole c.clear.ensures))), kept-fits (kept_same c.requires.0 c.clear.auto.work (clear-same c.requires.1 (cleared c.requires.0.whole c.clear.ensures))))

pub returns-in_err-done : goal.returns-in_err-done
returns-in_err-done c = rw (met c.from_residual.ensures.1) (record { says = count-refused c.args.table.now c.args.pool.now c.args.rows.now c.args.work.now c.requires.0 c.pass_in.ensures (clear-same c.requires.1 (cleared c.requires.0.whole c.clear.ensures)) (clear-plan c.requires.1 (cleared c.requires.0.whole c.clear.ensures) c.args.out.now) c.in_err-done.ensures refl })

pub returns-then-done-rows : goal.returns-then-done-rows
returns-then-done-rows c = record { says = count_left c.args.table.now c.args.pool.now c.args.rows.now c.args.work.now c.requires.0 c.pass_in.ensures (clear-same c.requires.1 (cleared c.requires.0.whole c.clear.ensures)) (clear-plan c.requires.1 (cleared c.requires.0.whole c.clear.ensures) c.args.out.now) c.in_ok-done.ensures refl c.if-done-rows.true }

pub returns : goal.returns
returns c = record { says = count-done c.args.table.now c.args.pool.now c.args.rows.now c.args.work.now c.requires.0 c.pass_in.ensures (clear-same c.requires.1 (cleared c.requires.0.whole c.clear.ensures)) (clear-plan c.requires.1 (cleared c.requires.0.whole c.clear.ensures) c.args.out.now) c.in_ok-done.ensures refl c.if-done-rows.false }
