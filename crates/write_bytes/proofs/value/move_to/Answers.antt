-- `write_bytes::value::move_to` meets its contract.
use mathlib.Core.Path.{◌∙◌}
use Rattle.store.specs.Laws.{is-some, is_none}
use Rattle.write_literals.specs.Laws.{looked-up, moved-opened, moved-advanced}
use Rattle.write_bytes.proofs.Values.{moved-core, moved-put, moved_new, moved-slot}
use Rattle.write_bytes.proofs.value.move_to.Goals as goal

pub returns-then-how : goal.returns-then-how
returns-then-how c =
    let (v, h) = moved-core c.args.work.now c.args.key c.args.at c.args.core c.requires.0 c.if-how.true in
    record { value = v; changes = h }

pub returns-then-how-2 : goal.returns-then-how-2
returns-then-how-2 c =
    let (v, h) = moved-put c.args.work.now c.args.key c.args.at c.args.core c.if-how-2.true c.if-how.false c.requires.3 (moved-advanced _ _ c.requires.0 c.advance.ensures) in
    record { value = v; changes = h }

pub returns-in_default : goal.returns-in_default
returns-in_default c =
    let (v, h) = moved_new c.args.work.now c.args.key c.args.at c.args.core c.if-how.false (is_none (c.find.ensures.result_value ∙ looked-up _ _) c.in_default.is) (moved-opened _ _ c.requires.0 c.touch.ensures) in
    record { value = v; changes = h }

pub returns : goal.returns
returns c =
    let (v, h) = moved-slot c.args.work.now c.args.key c.args.at c.args.core c.if-how.false (is-some (c.find.ensures.result_value ∙ looked-up _ _) c.in-Some.is) (moved-advanced _ _ c.requires.0 c.advance-2.ensures) in
    record { value = v; changes = h }
