-- `writer::write_checked` meets its contract.
use mathlib.Core.Path.{ap, ◌∙◌}
use Rattle.writer.proofs.Whole.{made_bytes, made-refused, all-refused, all_made, shown-zeros}
use lib.ListN.{length}
use Rattle.format.specs.Answer.{zeros}
use Rattle.writer.proofs.write_checked.Goals as goal

pub slice_bounds-fill-count : goal.slice_bounds-fill-count
slice_bounds-fill-count c = (made_bytes c.message-r.ensures c.in-Ok.is).4

pub returns-in-Err : goal.returns-in-Err
returns-in-Err c = let x = all-refused (length c.args.out.now) _ (made-refused c.message-r.ensures c.in-Err.is) ((c.fill.ensures.after (λ y e. e)) ∙ ap zeros c.message-r.auto.out) in record { answer = x.0; out_after = x.1 }

pub returns-in-Ok : goal.returns-in-Ok
returns-in-Ok c =
    let m = (made_bytes c.message-r.ensures c.in-Ok.is) in
    let x = all_made (length c.args.out.now) m.1 m.2 (shown-zeros _ m.0 _ _ _ c.message-r.auto.out m.2 m.3 m.4 (c.fill-in-Ok.ensures.after (λ y e. e))) in record { answer = x.0; out_after = x.1 }
