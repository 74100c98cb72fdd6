-- `read_leaf::text::back` meets its contract.
use native.Mathlib.Omega.{arith}
use Rattle.read_literals.specs.Laws.{count-is}
use Rattle.read_leaf.proofs.Texts.{back-24, back-26, back_none, back_is}
use Rattle.read_leaf.proofs.text.back.Goals as goal

pub returns-then-k-lt3 : goal.returns-then-k-lt3
returns-then-k-lt3 c = record { takes = λ m l g i. back-24 c.args.modes c.args.key (record { leaf = l; dedup = c.args.dedup }) c.args.k c.args.work.now m c.args.c c.if-k-lt3.true }

pub returns-then-not-is_numbered : goal.returns-then-not-is_numbered
returns-then-not-is_numbered c = record { takes = λ m l g i. back-26 c.args.modes c.args.key (record { leaf = l; dedup = c.args.dedup }) c.args.k c.args.work.now c.if-k-lt3.false (c.is_numbered.ensures.is l) m c.args.c c.if-not-is_numbered.true }

pub returns-then-count-k : goal.returns-then-count-k
returns-then-count-k c = record { takes = λ m l g i. back_none c.args.modes c.args.key (record { leaf = l; dedup = c.args.dedup }) c.args.k c.args.work.now c.if-k-lt3.false (c.is_numbered.ensures.is l) c.if-not-is_numbered.false m c.args.c (omega (arith, count-is c.args.work.now c.args.key c.requires.1, c.count.ensures.0, c.if-count-k.true)) }

pub get-place-requires : goal.get-place-requires
get-place-requires c = (c.requires.0, c.requires.1, omega (arith, count-is c.args.work.now c.args.key c.requires.1, c.count.ensures.0, c.if-count-k.false))

pub returns : goal.returns
returns c = record { takes = λ m l g i. back_is c.args.modes c.args.key (record { leaf = l; dedup = c.args.dedup }) c.args.k c.args.work.now c.if-k-lt3.false (c.is_numbered.ensures.is l) c.if-not-is_numbered.false m c.args.c g i c.get-place.ensures.j_value }
