-- `read_leaf::text::is_right` meets its contract.
use Rattle.read_leaf.proofs.Texts.{right-text, right-other}
use Rattle.read_leaf.proofs.text.is_right.Goals as goal

pub returns-in-String : goal.returns-in-String
returns-in-String c = right-text c.args.m.now c.args.start c.args.size c.in-String.is c.is_text.ensures

pub returns-in_default : goal.returns-in_default
returns-in_default c = right-other c.args.m.now c.args.start c.args.size c.in_default.not-String
