-- `reader::done::is_done` meets its contract.
use Rattle.reader.proofs.Unused.{core-left, block-left, rest_read}
use Rattle.reader.proofs.done.is_done.Goals as goal

pub returns-then-core : goal.returns-then-core
returns-then-core c = core-left c.args.work.now c.args.core c.if-core.true

pub returns-then-rest : goal.returns-then-rest
returns-then-rest c = block-left c.args.work.now c.args.core c.if-core.false _ c.rest-rest.ensures.result_value c.if-rest.true

pub returns : goal.returns
returns c = rest_read c.args.work.now c.args.core c.if-core.false _ c.rest-rest.ensures.result_value _ c.if-rest.false c.all_read.ensures
