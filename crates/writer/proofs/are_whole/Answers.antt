-- `writer::are_whole` meets its contract.
use Rattle.writer.proofs.Whole.{unwhole, too_many, by-pool}
use Rattle.writer.proofs.are_whole.Goals as goal

pub returns-then-rows-ne0 : goal.returns-then-rows-ne0
returns-then-rows-ne0 c = unwhole c.args.rows.now c.args.pool.now c.if-rows-ne0.true

pub returns-then-rows-gt-MOST_ROWS : goal.returns-then-rows-gt-MOST_ROWS
returns-then-rows-gt-MOST_ROWS c = too_many c.args.rows.now c.args.pool.now c.if-rows-ne0.false c.if-rows-gt-MOST_ROWS.true

pub returns : goal.returns
returns c = by-pool c.args.rows.now c.args.pool.now c.if-rows-ne0.false c.if-rows-gt-MOST_ROWS.false
