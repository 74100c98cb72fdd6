-- `write_bytes::layout::message_length` meets its contract.
use native.Mathlib.Omega.{arith}
use Rattle.write_bytes.specs.State.{slots_of}
use Rattle.write_bytes.proofs.Layouts.{length-inline, length-framed}
use Rattle.write_bytes.proofs.layout.message_length.Goals as goal

pub returns-then-inline : goal.returns-then-inline
returns-then-inline c = omega (arith, c.blocks_end-at.ensures.0, length-inline c.args.core (slots_of c.args.work.now) c.if-inline.true)

pub returns : goal.returns
returns c = omega (arith, c.blocks_end-at.ensures.0, c.framed.ensures.0, length-framed c.args.core (slots_of c.args.work.now) c.if-inline.false)
