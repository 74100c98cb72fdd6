-- `write_search::hash` meets its contract.
use mathlib.Core.Path.{ap, ◌∙◌}
use Prim.Native.Nat.{ℕ}
use Rattle.write_search.specs.Hash.{mixed}
use Rattle.write_search.proofs.Hashing.{hash-short, hash-long}
use Rattle.write_search.proofs.hash.Goals as goal

pub returns-then-size-lt8 : goal.returns-then-size-lt8
returns-then-size-lt8 c = (hash-short c.args.pool.now (record { start = c.args.start; size = c.args.size }) c.requires.0 c.if-size-lt8.true (c.mixed.ensures.0 ∙ ap (λ (w : ℕ). mixed 0 w) c.few.ensures.0) c.ended.ensures.0, c.ended.ensures.1)

pub returns : goal.returns
returns c = (hash-long c.args.pool.now (record { start = c.args.start; size = c.args.size }) c.requires.0 c.if-size-lt8.false c.whole.ensures.0 c.ended-2.ensures.0, c.ended-2.ensures.1)
