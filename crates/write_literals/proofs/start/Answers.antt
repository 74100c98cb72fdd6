-- `write_literals::start` meets its contract. A head counts only where it leads to a literal of its own bucket.
use mathlib.Core.Path.{refl, sym, ◌∙◌}
use Rattle.write_literals.proofs.Chains.{bucket-read, start_none, start-off, start-on}
use Rattle.write_literals.proofs.start.Goals as goal

pub returns-then-at-eq0 : goal.returns-then-at-eq0
returns-then-at-eq0 c = start_none c.args.work.now c.args.b c.head-at.result c.head-at.ensures.1 c.if-at-eq0.true

pub returns-then-bucket-b : goal.returns-then-bucket-b
returns-then-bucket-b c = start-off c.args.work.now c.args.b c.head-at.result c.head-at.ensures.1 (λ e. c.if-bucket-b.true (bucket-read c.args.work.now c.if-at-eq0.false refl refl c.bucket.ensures.0 ∙ e))

pub returns : goal.returns
returns c = start-on c.args.work.now c.args.b _ c.head-at.ensures.1 c.if-at-eq0.false c.head-at.ensures.0 (sym (bucket-read c.args.work.now c.if-at-eq0.false refl refl c.bucket.ensures.0) ∙ c.if-bucket-b.false)
