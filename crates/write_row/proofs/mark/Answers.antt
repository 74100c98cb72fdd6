-- `write_row::mark` meets its contract.
use Rattle.write_row.proofs.Facts.{marks-by}
use mir.Syntax.{w64}
use mir.ValLaws.{to_z-of_z}
use Rattle.write_row.proofs.mark.Goals as goal

pub returns : goal.returns
returns c = marks-by (to_z-of_z w64 c.args.l c.ranges.l) c.put_label.ensures c.next.ensures
