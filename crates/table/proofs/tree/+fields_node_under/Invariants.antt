-- `node`, `under` and `fields` of `table::tree` meet their contracts. The path falls: from a node to what is below it. The invariant of the loop: who makes the fields that are left has made them all.
use Rattle.std.proofs.Common.{◌≡◌, ◌+◌, ◌*◌, length}
use Prim.Native.Nat.{◌-◌}
use Rattle.format.specs.Table.{node_at, in_record, build, build_fields}
use Rattle.table.proofs.Trees.{Leads}
use Rattle.table.proofs.tree.+fields_node_under.Given as goal

abbrev pub decreases-fields : goal.decreases-fields
decreases-fields l = 3 * l.path + 1

abbrev pub decreases-node : goal.decreases-node
decreases-node l = 3 * l.path

abbrev pub decreases-under : goal.decreases-under
decreases-under l = 3 * l.path + 2

abbrev pub invariant-fields-loop : goal.invariant-fields-loop
invariant-fields-loop l = (length l.work ≡ length l.initial.work) × Leads l.i l.initial.work (build_fields l.counted.n (node_at l.counted.table.now) l.count (build l.counted.n (node_at l.counted.table.now) l.path in_record) l.i) l.at l.work (build_fields l.counted.n (node_at l.counted.table.now) (l.count - l.counter) (build l.counted.n (node_at l.counted.table.now) l.path in_record) l.at)
