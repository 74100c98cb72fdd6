-- `table::header::is_marked` meets its contract.
use mathlib.Core.Path.{◌∙◌}
use borrow.Author.Tests.{lt-leb}
use Rattle.table.proofs.Tests.{marked, unmarked}
use Rattle.table.proofs.header.is_marked.Goals as goal

pub returns-then-table-ge7 : goal.returns-then-table-ge7
returns-then-table-ge7 c = c.starts_with.ensures.value ∙ marked c.args.table.now c.if-table-ge7.true

pub returns-else-table-ge7 : goal.returns-else-table-ge7
returns-else-table-ge7 c = lt-leb _ _ c.if-table-ge7.false ∙ unmarked c.args.table.now c.if-table-ge7.false
