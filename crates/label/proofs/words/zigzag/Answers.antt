-- `label::words::zigzag` meets its contract, by the word of n.
use Rattle.std.proofs.Common.{arith}
use Rattle.format.specs.Label.{Signed64}
use Rattle.label.proofs.Signed.{word-upper, word-below}
use Rattle.label.proofs.words.zigzag.Goals as goal

pub overflow_mul-result : goal.overflow_mul-result
unfolding Signed64
overflow_mul-result c = omega (arith, word-upper c.args.n c.ranges.n c.word_of-w.result c.word_of-w.ensures c.if-n-ge0.true)

pub overflow_mul-result-else-n-ge0 : goal.overflow_mul-result-else-n-ge0
unfolding Signed64
overflow_mul-result-else-n-ge0 c = omega (arith, word-below c.args.n c.ranges.n c.word_of-w.result c.word_of-w.ensures c.if-n-ge0.false)

pub overflow_add-result : goal.overflow_add-result
unfolding Signed64
overflow_add-result c = omega (arith, word-below c.args.n c.ranges.n c.word_of-w.result c.word_of-w.ensures c.if-n-ge0.false)

pub returns-then-n-ge0 : goal.returns-then-n-ge0
returns-then-n-ge0 c = (word-upper c.args.n c.ranges.n c.word_of-w.result c.word_of-w.ensures c.if-n-ge0.true).0

pub returns-else-n-ge0 : goal.returns-else-n-ge0
returns-else-n-ge0 c = (word-below c.args.n c.ranges.n c.word_of-w.result c.word_of-w.ensures c.if-n-ge0.false).0
