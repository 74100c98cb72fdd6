-- `write_row::record` meets its contract.
use Rattle.std.specs.Prelude.{Err}
use mathlib.Core.Path.{refl, ap, ◌∙◌}
use Rattle.write_row.proofs.Facts.{met, missing, found, told, record-none, record-wrong, record-plain, record-front}
use Rattle.write_row.specs.Judged.{word}
use Rattle.write_row.proofs.record.Goals as goal

pub returns-in_err-n : goal.returns-in_err-n
returns-in_err-n c = rw (met c.from_residual.ensures.1 ∙ ap Err (missing c.ok_or.ensures.value c.in_err-n.was).1) (record-none c.args.node c.args.labelled c.args.count (told word c.word_at.ensures.result_value (missing c.ok_or.ensures.value c.in_err-n.was).0))

pub returns-then-n-count : goal.returns-then-n-count
returns-then-n-count c = record-wrong c.args.node c.args.labelled c.args.count (told word c.word_at.ensures.result_value (found c.ok_or.ensures.ok_part c.in_ok-n.was)) c.if-n-count.true

pub returns-then-not-labelled : goal.returns-then-not-labelled
returns-then-not-labelled c = record-plain c.args.node c.args.labelled c.args.count (told word c.word_at.ensures.result_value (found c.ok_or.ensures.ok_part c.in_ok-n.was)) c.if-n-count.false c.if-not-labelled.true refl

pub returns : goal.returns
returns c = record-front c.args.node c.args.labelled c.args.count (told word c.word_at.ensures.result_value (found c.ok_or.ensures.ok_part c.in_ok-n.was)) c.if-n-count.false c.if-not-labelled.false c.mark.ensures
