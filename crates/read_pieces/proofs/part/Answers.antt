-- `read_pieces::part` meets its contract.
use native.Mathlib.Omega.{arith}
use Rattle.read_pieces.specs.Pieces.{reading_of}
use Rattle.read_pieces.proofs.Reach.{first, next, reached-bad, reached-found}
use Rattle.read_pieces.proofs.part.Goals as goal

pub loop-core-init : goal.loop-core-init
loop-core-init c = first

pub returns-in_err-core : goal.returns-in_err-core
returns-in_err-core c = rw c.from_residual.ensures (reached-bad c.args.m.now c.loop-core.invariant c.in_err-core.ensures)

pub returns-then-next-m : goal.returns-then-next-m
returns-then-next-m c = reached-found c.args.m.now c.in_ok-core.core c.loop-core.invariant c.in_ok-core.ensures c.if-next-m.true

pub loop-core-preserved : goal.loop-core-preserved
loop-core-preserved c = next (reading_of c.in_ok-core.core) c.loop-core.invariant c.in_ok-core.ensures (let x = c.in_ok-core.ensures in omega arith)
