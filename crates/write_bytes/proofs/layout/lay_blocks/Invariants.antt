-- `write_bytes::layout::lay_blocks` meets its contract.
use mathlib.Core.Path.{◌≡◌}
use lib.ListN.{length}
use Rattle.write_bytes.specs.State.{slots_of}
use Rattle.write_bytes.proofs.Layouts.{Laying}
use Rattle.write_bytes.proofs.layout.lay_blocks.Given as goal

abbrev pub invariant-loop-i : goal.invariant-loop-i
invariant-loop-i l = (l.n ≡ length (slots_of l.initial.work)) × Laying l.initial.work l.initial.out l.work l.out l.at l.i
