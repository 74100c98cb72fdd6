-- `utf8::are_characters` meets its contract. The loop's invariant: the bytes still to come are judged as the whole is.
use mathlib.Core.Path.{◌≡◌}
use Prim.Native.Nat.{◌-◌}
use lib.Seq.{slice}
use Rattle.format.specs.Utf8.{is_text}
use Rattle.utf8.proofs.are_characters.Given as goal

abbrev pub invariant-loop-at : goal.invariant-loop-at
invariant-loop-at l = is_text (slice l.at l.end l.s) ≡ is_text (slice l.start l.end l.s)

abbrev pub decreases-loop-at : goal.decreases-loop-at
decreases-loop-at l = l.end - l.at
