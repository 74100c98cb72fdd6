-- `write_row::row::word_at` meets its contract.
use lib.ListN.{length}
use Rattle.write_row.proofs.row.word_at.Goals as goal

pub returns : goal.returns
returns c = record { result_value = c.word_under.ensures.result_value.is (length c.args.pool.now); small = c.word_under.ensures.small }
