-- `write_walk::own::own_row` meets its contract.
use mathlib.Core.Path.{refl, ◌∙◌, subst}
use mir.Syntax.{w64}
use mir.ValLaws.{to_z-of_z}
use Rattle.table.specs.Answers.{met}
use Rattle.write_row.specs.Judged.{word, Small}
use Rattle.write_row.proofs.Facts.{told}
use Rattle.write_walk.proofs.ByKind.{marks-as}
use Rattle.write_walk.proofs.Owns.{own-none, own-array-not, own-array, own-record-not, own-record}
use Rattle.write_walk.proofs.own.own_row.Goals as goal

pub returns-in_default : goal.returns-in_default
returns-in_default c = own-none c.args.how.put c.args.table.now c.args.pool.now c.args.rows.now c.args.out.now c.args.at.core c.args.at.row c.args.node c.args.top c.args.array c.args.labelled c.requires.3 c.if-array.true (told word c.word_at.ensures.result_value c.in_default.is)

pub returns-in_err-marked : goal.returns-in_err-marked
returns-in_err-marked c = rw (met c.from_residual.ensures.1) (own-array-not c.args.how.put c.args.table.now c.args.pool.now c.args.rows.now c.args.out.now c.args.at.core c.args.at.row c.args.node c.args.top c.args.array c.args.labelled c.requires.3 c.if-array.true (told word c.word_at.ensures.result_value c.in-Some.is) (subst (λ x. Small x) c.in-Some.is c.word_at.ensures.small) (marks-as (to_z-of_z w64 _ (record { sfits = c.integer_of.type_inv }) ∙ c.integer_of.ensures) c.in_err-marked.ensures) refl)

pub returns-then-array : goal.returns-then-array
returns-then-array c = own-array c.args.how.put c.args.table.now c.args.pool.now c.args.rows.now c.args.out.now c.args.at.core c.args.at.row c.args.node c.args.top c.args.array c.args.labelled c.requires.3 c.if-array.true (told word c.word_at.ensures.result_value c.in-Some.is) (subst (λ x. Small x) c.in-Some.is c.word_at.ensures.small) (marks-as (to_z-of_z w64 _ (record { sfits = c.integer_of.type_inv }) ∙ c.integer_of.ensures) c.in_ok-marked.ensures) refl

pub returns-in_err-r : goal.returns-in_err-r
returns-in_err-r c = rw (met c.from_residual-in_err-r.ensures.1) (own-record-not c.args.how.put c.args.table.now c.args.pool.now c.args.rows.now c.args.out.now c.args.at.core c.args.at.row c.args.node c.args.top c.args.array c.args.labelled c.requires.3 c.if-array.false c.argument_at-fields.ensures.0 c.in_err-r.ensures refl)

pub returns : goal.returns
returns c = own-record c.args.how.put c.args.table.now c.args.pool.now c.args.rows.now c.args.out.now c.args.at.core c.args.at.row c.args.node c.args.top c.args.array c.args.labelled c.requires.3 c.if-array.false c.argument_at-fields.ensures.0 c.in_ok-r.ensures refl
