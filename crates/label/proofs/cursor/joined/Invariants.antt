-- `label::cursor::joined` meets its contract. The loop's invariant: the bytes from i to `last` have been joined to acc, which fits.
use Rattle.std.proofs.Common.{◌^◌, ◌<◌, ◌≤◌}
use Rattle.label.proofs.Run.{Joined}
use Rattle.label.proofs.cursor.joined.Given as goal

abbrev pub invariant-loop-i : goal.invariant-loop-i
invariant-loop-i l = (l.at ≤ l.i) × (l.i ≤ l.last) × (l.acc < 2 ^ 64) × Joined l.s l.at l.last l.end l.i l.acc
