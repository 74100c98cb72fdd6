-- `write_bytes::as_bytes::copy` meets its contract: storing what is left of the bytes makes the output what it is to be.
use mathlib.Core.Path.{sym, ◌∙◌, refl}
use native.Mathlib.Nat.{add-zero}
use native.Mathlib.Omega.{arith}
use borrow.Author.Rules.{rules}
use Rattle.write_bytes.proofs.Stores.{copied_more, copied}
use Rattle.write_bytes.proofs.as_bytes.copy.Goals as goal

pub loop-i-init : goal.loop-i-init
loop-i-init c = record { lent = refl; whole = rw add-zero }

pub loop-i-preserved : goal.loop-i-preserved
loop-i-preserved c = record { lent = search rules; whole = copied_more c.loop-i.out c.args.bytes.now c.args.at c.loop-i.i (omega arith) ∙ c.loop-i.invariant.whole }

pub returns : goal.returns
returns c = sym (copied c.loop-i.out c.args.bytes.now c.args.at c.loop-i.i (omega arith)) ∙ c.loop-i.invariant.whole
