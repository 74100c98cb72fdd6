-- `read_walk::descent::descend` meets its contract. Who reads the value where the loop stands has read the one that it began at;
-- the path that is left falls at each step.
use mathlib.Core.Path.{◌≡◌}
use lib.ListN.{length}
use Rattle.read_walk.specs.Descent.{Comes}
use Rattle.read_walk.proofs.descent.descend.Given as goal

abbrev pub invariant-loop-absent : goal.invariant-loop-absent
invariant-loop-absent l = (length l.rows ≡ length l.initial.rows) × Comes l.table l.m l.initial.rows l.rows l.left l.node l.omittable l.initial.reached.core l.initial.reached.rows l.path l.current l.absent l.reached.core l.reached.rows

abbrev pub decreases-loop-absent : goal.decreases-loop-absent
decreases-loop-absent l = l.path
