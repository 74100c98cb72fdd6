-- `writer::message` meets its contract.
use mathlib.Core.Path.{refl, sym, ◌∙◌}
use Rattle.table.specs.Answers.{met}
use Rattle.writer.proofs.Whole.{message-40, message-41, message-refused, whole-within, counted-in, counted-not, makes-refused, measured-refused, measured-bytes, fits_by, made}
use lib.ListN.{length}
use Rattle.writer.proofs.message.Goals as goal

pub returns-then-not-are_allowed : goal.returns-then-not-are_allowed
returns-then-not-are_allowed c = makes-refused refl (message-40 c.requires c.args.modes c.args.rows.now c.args.pool.now (length c.args.out.now) (sym c.are_allowed.ensures ∙ c.if-not-are_allowed.true))

pub returns-then-not-are_whole : goal.returns-then-not-are_whole
returns-then-not-are_whole c = makes-refused refl (message-41 c.requires c.args.modes c.args.rows.now c.args.pool.now (length c.args.out.now) (sym c.are_allowed.ensures ∙ c.if-not-are_allowed.false) (sym c.are_whole.ensures ∙ c.if-not-are_whole.true))

pub count-requires : goal.count-requires
count-requires c = (c.requires, whole-within c.args.rows.now c.args.pool.now (sym c.are_whole.ensures ∙ c.if-not-are_whole.false))

pub returns-in_err-core : goal.returns-in_err-core
returns-in_err-core c = rw (met c.from_residual.ensures.1) (makes-refused refl (message-refused c.requires c.args.modes c.args.rows.now c.args.pool.now (length c.args.out.now) (sym c.are_allowed.ensures ∙ c.if-not-are_allowed.false) (sym c.are_whole.ensures ∙ c.if-not-are_whole.false) _ (counted-not c.in_err-core.ensures refl)))

pub measure-requires : goal.measure-requires
measure-requires c = ((counted-in c.in_ok-core.ensures refl).0.ready.good, (counted-in c.in_ok-core.ensures refl).0.small)

pub returns-in_err-size : goal.returns-in_err-size
returns-in_err-size c = rw (met c.from_residual-in_err-size.ensures.1) (makes-refused refl (measured-refused c.requires (counted-in c.in_ok-core.ensures refl).0 c.count.auto.out (sym c.are_allowed.ensures ∙ c.if-not-are_allowed.false) (sym c.are_whole.ensures ∙ c.if-not-are_whole.false) c.in_err-size.ensures refl))

pub put-requires : goal.put-requires
put-requires c = fits_by c.requires c.count.auto.work (sym c.are_allowed.ensures ∙ c.if-not-are_allowed.false) (sym c.are_whole.ensures ∙ c.if-not-are_whole.false) (counted-in c.in_ok-core.ensures refl) (measured-bytes c.requires (counted-in c.in_ok-core.ensures refl).0 c.count.auto.out (sym c.are_allowed.ensures ∙ c.if-not-are_allowed.false) (sym c.are_whole.ensures ∙ c.if-not-are_whole.false) c.in_ok-size.ensures refl) c.count.auto.out

pub returns : goal.returns
returns c = made (counted-in c.in_ok-core.ensures refl).0 (measured-bytes c.requires (counted-in c.in_ok-core.ensures refl).0 c.count.auto.out (sym c.are_allowed.ensures ∙ c.if-not-are_allowed.false) (sym c.are_whole.ensures ∙ c.if-not-are_whole.false) c.in_ok-size.ensures refl) c.put.ensures (c.put.auto.out ∙ c.count.auto.out) refl
