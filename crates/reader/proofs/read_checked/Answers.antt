-- `reader::read_checked` meets its contract.
use lib.ListN.{length}
use Rattle.reader.specs.Reader.{rows_of}
use Rattle.reader.proofs.Buffers.{left-zero}
use Rattle.reader.proofs.read_checked.Goals as goal

pub returns-clause-rows_after : goal.returns-clause-rows_after
returns-clause-rows_after c = left-zero c.args.table.now c.args.rows.now _ _ _ (rows_of c.args.table.now c.args.message.now (length c.args.rows.now)) c.rows_of-r.auto.rows c.rows_of-r.result c.rows_of-r.ensures c.used_words-used.ensures (c.fill.ensures.after (λ y e. e))
