-- `write_bytes::text::choose` meets its contract.
use native.Mathlib.Omega.{arith}
use Rattle.write_bytes.proofs.Texts.{choose-not, choose-so, not-numbered}
use Rattle.write_bytes.proofs.text.choose.Goals as goal

pub returns-then-not-numbered : goal.returns-then-not-numbered
returns-then-not-numbered c = record { result_value = choose-not _ _ _ c.if-not-numbered.true; in_words = (omega arith, omega arith); keep_as = λ n. not-numbered c.if-not-numbered.true n }

pub returns : goal.returns
returns c = record { result_value = choose-so _ _ _ c.if-not-numbered.false c.choose.ensures.result_value; in_words = c.choose.ensures.in_words; keep_as = λ n. c.choose.ensures.keep_as }
