-- `argo::truth_kind` meets its contract, by cases.
use Rattle.rows.specs.Seen.{seen}
use Rattle.argo.proofs.truth_kind.Goals as goal

pub returns-then-t : goal.returns-then-t
unfolding seen
returns-then-t c = simp c.if-t.true

pub returns-else-t : goal.returns-else-t
unfolding seen
returns-else-t c = simp c.if-t.false
