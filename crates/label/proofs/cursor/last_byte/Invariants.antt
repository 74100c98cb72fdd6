-- `label::cursor::last_byte` meets its contract. The loop's invariant: the bytes from `at` to i, nine at most, each say that more follow.
use Rattle.std.proofs.Common.{◌-◌, ◌≤◌}
use Rattle.label.proofs.Run.{Ran}
use Rattle.label.proofs.cursor.last_byte.Given as goal

abbrev pub invariant-loop-i : goal.invariant-loop-i
invariant-loop-i l = (l.at ≤ l.i) × (l.i - l.at ≤ 9) × Ran l.s l.at l.end l.i
