-- `read_pieces::piece_at` meets its contract: what the label says, and whether so many bytes follow it.
use mathlib.Core.Path.{sym}
use native.Mathlib.Omega.{arith}
use Rattle.read_pieces.proofs.At.{at-bad, at-below, at_long, at_piece}
use Rattle.read_pieces.proofs.piece_at.Goals as goal

pub returns-in_err-n : goal.returns-in_err-n
returns-in_err-n c = rw c.from_residual.ensures (at-bad c.args.m.now c.args.at (sym c.in_err-n.ensures))

pub returns-then-n-lt0 : goal.returns-then-n-lt0
returns-then-n-lt0 c = at-below c.args.m.now c.args.at c.in_ok-n.n c.in_ok-n.next (sym c.in_ok-n.ensures) c.if-n-lt0.true

pub returns-then-left_at-size : goal.returns-then-left_at-size
returns-then-left_at-size c = at_long c.args.m.now c.args.at c.in_ok-n.n c.in_ok-n.next (sym c.in_ok-n.ensures) c.if-n-lt0.false (omega arith)

pub returns : goal.returns
returns c = at_piece c.args.m.now c.args.at c.in_ok-n.n c.in_ok-n.next (sym c.in_ok-n.ensures) c.if-n-lt0.false (omega arith)
