-- `write_bytes::layout::blocks_end` meets its contract: what has been added up and what is left make the whole.
use mathlib.Core.Path.{◌≡◌}
use Prim.Native.Nat.{◌+◌, ◌*◌, ◌≤◌}
use lib.ListN.{drop}
use Rattle.write_passes.specs.Layout.{block_space}
use Rattle.write_bytes.specs.State.{slots_of}
use Rattle.write_bytes.proofs.layout.blocks_end.Given as goal

abbrev pub invariant-loop-i : goal.invariant-loop-i
invariant-loop-i l = (l.at + block_space (drop l.i (slots_of l.work)) ≡ 1 + block_space (slots_of l.work)) × (l.at ≤ 1 + l.i * 4294967306)
