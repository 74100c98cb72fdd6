-- `read_leaf::front::is_bare` meets its contract.
use mir.Syntax.{w64}
use mir.ValLaws.{to_z-of_z}
use borrow.Author.Rules.{rules}
use Rattle.read_leaf.proofs.Labels.{bare-open, bare-label}
use Rattle.read_leaf.proofs.front.is_bare.Goals as goal

pub returns-in-None : goal.returns-in-None
returns-in-None c = bare-open c.in-None.is

pub returns-in-Some : goal.returns-in-Some
returns-in-Some c = bare-label c.in-Some.l c.in-Some.is (to_z-of_z w64 c.in-Some.l (search rules)) c.is_label.ensures
