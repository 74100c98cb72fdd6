-- `write_bytes::value::place` meets its contract.
use mathlib.Core.Path.{◌∙◌}
use Rattle.store.specs.Laws.{is-some, is_none}
use Rattle.write_literals.specs.Words.{store_of}
use Rattle.write_literals.specs.Laws.{looked-up}
use Rattle.write_bytes.proofs.Values.{place-core, place-slot, place_none, place-new}
use Rattle.write_bytes.proofs.value.place.Goals as goal

pub returns-then-how : goal.returns-then-how
returns-then-how c = place-core _ _ _ _ (store_of c.args.work.now).slots c.if-how.true

pub returns-in-Some : goal.returns-in-Some
returns-in-Some c = place-slot _ _ _ _ _ c.if-how.false (is-some (c.find.ensures.result_value ∙ looked-up _ _) c.in-Some.is)

pub returns-then-how-2 : goal.returns-then-how-2
returns-then-how-2 c = place_none _ _ _ _ _ c.if-how.false (is_none (c.find.ensures.result_value ∙ looked-up _ _) c.in_default.is) c.if-how-2.true

pub returns : goal.returns
returns c = place-new _ _ _ _ _ c.if-how.false (is_none (c.find.ensures.result_value ∙ looked-up _ _) c.in_default.is) c.if-how-2.false
