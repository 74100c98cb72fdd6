-- `write_row::open_value` meets its contract.
use Rattle.std.specs.Prelude.{Err}
use mathlib.Core.Path.{refl, ap, ◌∙◌}
use Rattle.write_row.proofs.Facts.{met, missing, found, told, open_plain, open-refused, open_gone, opens-not, open-here}
use Rattle.write_row.specs.Judged.{front}
use Rattle.std.specs.Prelude.{Some}
use Rattle.write_row.proofs.open_value.Goals as goal

pub returns-then-not-omittable-nullable : goal.returns-then-not-omittable-nullable
returns-then-not-omittable-nullable c = open_plain c.args.node c.args.omittable c.args.nullable c.if-not-omittable-nullable.true refl

pub returns-in_err-presence : goal.returns-in_err-presence
returns-in_err-presence c = rw (met c.from_residual.ensures.1 ∙ ap Err (missing c.ok_or.ensures.value c.in_err-presence.was).1) (open-refused c.args.node c.args.omittable c.args.nullable c.if-not-omittable-nullable.false (told front c.front_at-front.ensures (missing c.ok_or.ensures.value c.in_err-presence.was).0))

pub returns-in_ok-mark-in-Absent : goal.returns-in_ok-mark-in-Absent
returns-in_ok-mark-in-Absent c = open_gone c.args.node c.args.omittable c.args.nullable c.if-not-omittable-nullable.false (told front c.front_at-front.ensures ((found c.ok_or.ensures.ok_part c.in_ok-presence.was) ∙ ap Some c.in-Absent.is)) (rw c.in_ok-mark-in-Absent.was at c.mark.ensures)

pub returns-in_err-mark-in-Absent : goal.returns-in_err-mark-in-Absent
returns-in_err-mark-in-Absent c = opens-not c.args.node c.args.omittable c.args.nullable (met c.from_residual-in_err-mark-in-Absent.ensures.1) (open_gone c.args.node c.args.omittable c.args.nullable c.if-not-omittable-nullable.false (told front c.front_at-front.ensures ((found c.ok_or.ensures.ok_part c.in_ok-presence.was) ∙ ap Some c.in-Absent.is)) (rw c.in_err-mark-in-Absent.was at c.mark.ensures))

pub returns-in_ok-mark-in-Null : goal.returns-in_ok-mark-in-Null
returns-in_ok-mark-in-Null c = open_gone c.args.node c.args.omittable c.args.nullable c.if-not-omittable-nullable.false (told front c.front_at-front.ensures ((found c.ok_or.ensures.ok_part c.in_ok-presence.was) ∙ ap Some c.in-Null.is)) (rw c.in_ok-mark-in-Null.was at c.mark-in-Null.ensures)

pub returns-in_err-mark-in-Null : goal.returns-in_err-mark-in-Null
returns-in_err-mark-in-Null c = opens-not c.args.node c.args.omittable c.args.nullable (met c.from_residual-in_err-mark-in-Null.ensures.1) (open_gone c.args.node c.args.omittable c.args.nullable c.if-not-omittable-nullable.false (told front c.front_at-front.ensures ((found c.ok_or.ensures.ok_part c.in_ok-presence.was) ∙ ap Some c.in-Null.is)) (rw c.in_err-mark-in-Null.was at c.mark-in-Null.ensures))

pub returns-in-Here : goal.returns-in-Here
returns-in-Here c = open-here c.args.node c.args.omittable c.args.nullable c.if-not-omittable-nullable.false (told front c.front_at-front.ensures ((found c.ok_or.ensures.ok_part c.in_ok-presence.was) ∙ ap Some c.in-Here.is)) refl
