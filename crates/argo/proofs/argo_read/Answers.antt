-- `argo::argo_read` meets its contract: the two numbers of what the reader answers.
use Rattle.std.proofs.Common.{rules}
use Rattle.argo.proofs.Laws.{same_number, same_second}
use Rattle.argo.proofs.argo_read.Goals as goal

pub returns-clause-number_value : goal.returns-clause-number_value
returns-clause-number_value c = search (rules, same_number)

pub returns-clause-second_value : goal.returns-clause-second_value
returns-clause-second_value c = search (rules, same_second)
