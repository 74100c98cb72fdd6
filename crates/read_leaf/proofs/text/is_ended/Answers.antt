-- `read_leaf::text::is_ended` meets its contract.
use Rattle.read_leaf.proofs.Texts.{ended-text, ended-other}
use Rattle.read_leaf.proofs.text.is_ended.Goals as goal

pub returns-in-String : goal.returns-in-String
returns-in-String c = ended-text c.args.modes c.in-String.is c.null_terminated_strings-set.ensures

pub returns-in_default : goal.returns-in_default
returns-in_default c = ended-other c.args.modes c.in_default.not-String
