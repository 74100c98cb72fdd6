-- `utf8::is_text` meets its contract: what is ASCII is text, and anything else is judged by its characters.
use Rattle.std.proofs.Common.{sym, ap, ◌∙◌, arith}
use Rattle.format.specs.Utf8.{is_text}
use Rattle.utf8.proofs.Laws.{part-is, empty-text, ascii-text}
use Rattle.utf8.proofs.is_text.Goals as goal

pub returns-in_default : goal.returns-in_default
returns-in_default c = let h = c.in_default.ensures in empty-text c.args.s.now c.args.start c.args.end (omega arith)

pub returns-then-is_ascii : goal.returns-then-is_ascii
returns-then-is_ascii c =
    let (h, k, e, n) = c.in-Some.ensures.lookup.0 in
    c.if-is_ascii.true ∙ sym (ascii-text c.in-Some.part.now (sym c.if-is_ascii.ensures)) ∙ ap is_text (e ∙ part-is c.args.s.now c.args.start c.args.end h)

pub returns-else-is_ascii : goal.returns-else-is_ascii
returns-else-is_ascii c = c.are_characters.ensures
