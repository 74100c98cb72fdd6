-- `rows::found` meets its contract: past the test on the row's number it looks at that row's words.
use mathlib.Core.Path.{sym, ap, ◌∙◌}
use Rattle.rows.proofs.Laws.{under_node, under-answered, found-beyond, found-row}
use Rattle.rows.proofs.found.Goals as goal

pub returns-then-rows-i : goal.returns-then-rows-i
returns-then-rows-i c = record { result_value = sym (found-beyond _ _ _ c.if-rows-i.true); right_case = tt }

pub returns : goal.returns
returns c = record { result_value = under-answered _ c.look_at_words.result ∙ ap (under_node _) c.look_at_words.ensures.result_value ∙ sym (found-row _ _ _ c.if-rows-i.false); right_case = c.look_at_words.ensures.right_case }
