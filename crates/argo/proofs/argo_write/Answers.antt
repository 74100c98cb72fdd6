-- `argo::argo_write` meets its contract: the two numbers of what the writer answers, of which its demands speak.
use Rattle.std.proofs.Common.{rules}
use Rattle.argo.proofs.Laws.{same_number, same_second}
use Rattle.argo.proofs.argo_write.Goals as goal

pub returns-clause-number_value : goal.returns-clause-number_value
returns-clause-number_value c = search (rules, same_number)

pub returns-clause-second_value : goal.returns-clause-second_value
returns-clause-second_value c = search (rules, same_second)

pub returns-clause-demands : goal.returns-clause-demands
returns-clause-demands c = rw (c.from.ensures.number, c.from.ensures.second) c.write.ensures.demands
