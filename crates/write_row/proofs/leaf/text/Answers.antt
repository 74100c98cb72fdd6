-- `write_row::leaf::text` meets its contract.
use Rattle.std.specs.Prelude.{Err}
use mathlib.Core.Path.{◌∙◌, ap}
use mathlib.Core.Bool.{not, ◌||◌}
use Rattle.rows.specs.Placed.{place}
use Rattle.write_row.proofs.Facts.{met, missing, found, placed, told, text-none, text-28, text-some, part-text, text-place}
use Rattle.write_row.proofs.leaf.text.Goals as goal

pub place_under-found-requires : goal.place_under-found-requires
place_under-found-requires c = text-place c.args.judged (c.from.ensures ∙ c.kind_of.ensures)

pub returns-in_err-place : goal.returns-in_err-place
returns-in_err-place c = rw (met c.from_residual.ensures.1 ∙ ap Err (missing c.ok_or.ensures.value c.in_err-place.was).1) (text-none c.requires.0 c.args.key c.args.node c.args.judged (told place (rw (c.from.ensures ∙ c.kind_of.ensures) at c.place_under-found.ensures.result_value) (missing c.ok_or.ensures.value c.in_err-place.was).0))

pub returns-then-not-passes : goal.returns-then-not-passes
returns-then-not-passes c = text-28 c.requires.0 c.args.key c.args.node c.args.judged _ (placed (found c.ok_or.ensures.ok_part c.in_ok-place.was) c.place_under-found.ensures.inside) (told place (rw (c.from.ensures ∙ c.kind_of.ensures) at c.place_under-found.ensures.result_value) (found c.ok_or.ensures.ok_part c.in_ok-place.was)) (part-text (c.args.how.put || not c.args.judged) c.args.pool.now c.in_ok-place.place.start c.in_ok-place.place.size c.passes.ensures ∙ c.if-not-passes.true)

pub returns : goal.returns
returns c = text-some c.requires.0 c.args.key c.args.node c.args.judged _ (placed (found c.ok_or.ensures.ok_part c.in_ok-place.was) c.place_under-found.ensures.inside) (told place (rw (c.from.ensures ∙ c.kind_of.ensures) at c.place_under-found.ensures.result_value) (found c.ok_or.ensures.ok_part c.in_ok-place.was)) c.emit_text.ensures c.next.ensures (part-text (c.args.how.put || not c.args.judged) c.args.pool.now c.in_ok-place.place.start c.in_ok-place.place.size c.passes.ensures ∙ c.if-not-passes.false)
