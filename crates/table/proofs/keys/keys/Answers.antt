-- `table::keys::keys` meets its contract.
use Rattle.format.specs.Table.{node_at}
use Rattle.table.proofs.Notes.{cleared-beside, notes-cleared, beside-then}
use native.Mathlib.Omega.{arith}
use Rattle.table.proofs.keys.keys.Goals as goal

pub agree_all-requires : goal.agree_all-requires
agree_all-requires c = (
  c.requires.0,
  omega (arith, c.requires.1, (cleared-beside c.args.work.now _ c.requires.1 (c.fill.ensures.after (λ y e. e))).size),
  notes-cleared c.args.work.now _ c.requires.1 (c.fill.ensures.after (λ y e. e)) (node_at c.args.counted.now.table.now),
)

pub returns : goal.returns
returns c = record { value = c.agree_all.ensures.value; beside = beside-then (cleared-beside c.args.work.now _ c.requires.1 (c.fill.ensures.after (λ y e. e))) c.agree_all.ensures.beside }
