-- `write_walk::descent::descend` meets its contract. The nodes that are left fall.
use mathlib.Core.Path.{◌≡◌}
use Prim.Native.Nat.{◌-◌}
use lib.ListN.{length}
use Rattle.std.specs.Prelude.{Ok}
use Rattle.write_walk.specs.Descent.{Descends}
use Rattle.write_walk.proofs.descent.descend.Given as goal

abbrev pub invariant-loop-absent : goal.invariant-loop-absent
invariant-loop-absent l = (length l.out ≡ length l.initial.out) × Descends l.how.put l.table l.pool l.rows l.initial.out l.fn.at.core l.fn.at.row l.node l.omittable l.out (Ok (record { node = l.here; omittable = l.absent; at = l.so_far }))

abbrev pub decreases-loop-absent : goal.decreases-loop-absent
decreases-loop-absent l = 1025 - l.here
