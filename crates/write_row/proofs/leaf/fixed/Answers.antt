-- `write_row::leaf::fixed` meets its contract.
use Rattle.std.specs.Prelude.{Err}
use Rattle.write_bytes.specs.Short.{slice-short}
use Rattle.write_row.proofs.Facts.{part-slice, met, missing, found, placed, told, fixed-none, fixed-long, fixed-some, near}
use Rattle.rows.specs.Placed.{place}
use mathlib.Core.Path.{refl, ap, ◌∙◌}
use Rattle.format.specs.Row.{is_place}
use Rattle.write_row.proofs.leaf.fixed.Goals as goal

pub place_under-place-requires : goal.place_under-place-requires
unfolding is_place
place_under-place-requires c = rw c.from.ensures refl

pub returns-in_err-start : goal.returns-in_err-start
returns-in_err-start c = rw (met c.from_residual.ensures.1 ∙ ap Err (missing c.ok_or.ensures.value c.in_err-start.was).1) (fixed-none c.requires.0 c.args.key c.args.node c.args.labelled c.args.n (told place (rw c.from.ensures at c.place_under-place.ensures.result_value) (missing c.ok_or.ensures.value c.in_err-start.was).0))

pub returns-then-size-n : goal.returns-then-size-n
returns-then-size-n c = fixed-long c.requires.0 c.args.key c.args.node c.args.labelled c.args.n (told place (rw c.from.ensures at c.place_under-place.ensures.result_value) (found c.ok_or.ensures.ok_part c.in_ok-start.was)) (placed (found c.ok_or.ensures.ok_part c.in_ok-start.was) c.place_under-place.ensures.inside) c.if-size-n.true

pub emit_short-requires : goal.emit_short-requires
emit_short-requires c = (c.requires.0.ready.good, near c.requires.0, c.requires.1, slice-short c.args.pool.now _ _ c.requires.0.ready.small)

pub returns : goal.returns
returns c = fixed-some c.requires.0 c.args.key c.args.node c.args.labelled c.args.n (told place (rw c.from.ensures at c.place_under-place.ensures.result_value) (found c.ok_or.ensures.ok_part c.in_ok-start.was)) (placed (found c.ok_or.ensures.ok_part c.in_ok-start.was) c.place_under-place.ensures.inside) c.if-size-n.false (rw (part-slice c.args.pool.now (record { start = c.in_ok-start.field-0.start; size = c.in_ok-start.field-0.size })) at c.emit_short.ensures) c.next.ensures
