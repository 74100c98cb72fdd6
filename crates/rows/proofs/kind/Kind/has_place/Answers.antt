-- `rows::Kind::has_place` meets its contract.
use Rattle.rows.proofs.Words.{has, has-not}
use Rattle.rows.proofs.kind.Kind.has_place.Goals as goal

pub returns-in-String : goal.returns-in-String
returns-in-String c = has _ c.in-String.is

pub returns-in_default : goal.returns-in_default
returns-in_default c = has-not _ c.in_default.not-String c.in_default.not-Bytes c.in_default.not-Fixed
