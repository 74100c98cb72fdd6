-- `writer::measure` meets its contract.
use native.Mathlib.Omega.{arith}
use mathlib.Core.Path.{sym, ap, ◌∙◌}
use Rattle.writer.proofs.Whole.{room-over, room-none, room-some}
use Rattle.format.specs.Modes.{inline_everything}
use Rattle.write_passes.specs.Layout.{message_length}
use Rattle.write_bytes.specs.State.{slots_of}
use Rattle.std.specs.Prelude.{Ok}
use Rattle.writer.proofs.measure.Goals as goal

pub returns-then-is_over : goal.returns-then-is_over
returns-then-is_over c = room-over c.args.work.now (message_length (inline_everything c.args.modes) c.args.core (slots_of c.args.work.now)) c.args.lent (sym c.is_over.ensures ∙ c.if-is_over.true)

pub returns-then-lent-size : goal.returns-then-lent-size
returns-then-lent-size c = room-none c.args.work.now (message_length (inline_everything c.args.modes) c.args.core (slots_of c.args.work.now)) c.args.lent (sym c.is_over.ensures ∙ c.if-is_over.false) (let e = (c.message_length-size.ensures ∙ ap (λ b. message_length b c.args.core (slots_of c.args.work.now)) c.inline_everything.ensures) in omega (arith, c.if-lent-size.true))

pub returns-then-size-gt-MOST_BYTES : goal.returns-then-size-gt-MOST_BYTES
returns-then-size-gt-MOST_BYTES c = room-none c.args.work.now (message_length (inline_everything c.args.modes) c.args.core (slots_of c.args.work.now)) c.args.lent (sym c.is_over.ensures ∙ c.if-is_over.false) (let e = (c.message_length-size.ensures ∙ ap (λ b. message_length b c.args.core (slots_of c.args.work.now)) c.inline_everything.ensures) in omega (arith, c.if-size-gt-MOST_BYTES.true))

pub returns : goal.returns
returns c = ap Ok (c.message_length-size.ensures ∙ ap (λ b. message_length b c.args.core (slots_of c.args.work.now)) c.inline_everything.ensures) ∙ room-some c.args.work.now (message_length (inline_everything c.args.modes) c.args.core (slots_of c.args.work.now)) c.args.lent (sym c.is_over.ensures ∙ c.if-is_over.false) (let e = (c.message_length-size.ensures ∙ ap (λ b. message_length b c.args.core (slots_of c.args.work.now)) c.inline_everything.ensures) in omega (arith, c.if-lent-size.false, c.if-size-gt-MOST_BYTES.false))
