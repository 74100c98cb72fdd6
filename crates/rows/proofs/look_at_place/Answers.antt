-- `rows::look_at_place` meets its contract: the start at most the count, and the size at most what is left after it, is the sum at most the count.
use mathlib.Core.Path.{sym}
use native.Mathlib.Omega.{arith}
use Rattle.rows.proofs.Laws.{is-inside, is-outside}
use Rattle.rows.proofs.look_at_place.Goals as goal

pub returns-then-b-count : goal.returns-then-b-count
returns-then-b-count c = sym (is-inside _ _ (omega arith))

pub returns-else-b-count : goal.returns-else-b-count
returns-else-b-count c = sym (is-outside _ _ (omega arith))

pub returns-else-a-count : goal.returns-else-a-count
returns-else-a-count c = sym (is-outside _ _ (omega arith))
