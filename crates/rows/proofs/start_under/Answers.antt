-- `rows::start_under` meets its contract.
use Rattle.rows.proofs.Laws.{under-beyond, under-other}
use Rattle.rows.proofs.start_under.Goals as goal

pub returns-then-rows-i : goal.returns-then-rows-i
returns-then-rows-i c = λ count. under-beyond c.args.rows.now count c.args.i c.args.node c.if-rows-i.true

pub returns-then-rows-at : goal.returns-then-rows-at
returns-then-rows-at c = λ count. (51, under-other c.args.rows.now count c.args.i c.args.node c.if-rows-at.true)
