-- `utf8::is_ascii` meets its contract. The loop's invariant: the flag, and the bytes still to come, decide as the whole does.
use Rattle.std.proofs.Common.{◌≡◌, ◌&&◌, drop}
use Rattle.utf8.specs.Ascii.{is_ascii}
use Rattle.utf8.proofs.is_ascii.Given as goal

abbrev pub invariant-loop-b : goal.invariant-loop-b
invariant-loop-b l = (l.all && is_ascii (drop l.b-index l.part)) ≡ is_ascii l.part
