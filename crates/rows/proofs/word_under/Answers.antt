-- `rows::word_under` meets its contract: the row's words against the kind, where it is there under the node.
use mathlib.Core.Path.{ap, sym, ◌∙◌}
use Rattle.rows.specs.Kind.{word_of}
use Rattle.rows.specs.Words.{value_in}
use Rattle.rows.proofs.Places.{under-words, under-kind}
use Rattle.rows.proofs.Words.{no-word, word-other, word-place, word-unused, word-is}
use Rattle.rows.proofs.word_under.Goals as goal

pub returns-in_err-at : goal.returns-in_err-at
returns-in_err-at c = rw c.from_residual.ensures (record { result_value = record { is = λ count. no-word (word_of c.args.kind) ((rw c.in_err-at.was at c.start_under.ensures) count) }; small = tt })

pub returns-then-from-rows : goal.returns-then-from-rows
returns-then-from-rows c =
    let kind = word_of c.args.kind in
    record { result_value = record { is = λ count. word-other count kind _ _ _ (λ e. c.if-from-rows.true (c.from.ensures ∙ sym e)) ∙ sym (ap (value_in kind) (under-words c.args.rows.now count c.args.i c.args.node kind c.in_ok-at.at (rw c.in_ok-at.was at c.start_under.ensures))) }; small = tt }

pub returns-then-has_place : goal.returns-then-has_place
returns-then-has_place c =
    let kind = word_of c.args.kind in
    record { result_value = record { is = λ count. word-place count kind _ _ (sym c.has_place.ensures ∙ c.if-has_place.true) ∙ sym (ap (value_in kind) (under-kind c.args.rows.now count c.args.i c.args.node kind c.in_ok-at.at (rw c.in_ok-at.was at c.start_under.ensures) (sym c.if-from-rows.false ∙ c.from.ensures))) }; small = tt }

pub returns-then-rows-at-ne0 : goal.returns-then-rows-at-ne0
returns-then-rows-at-ne0 c =
    let kind = word_of c.args.kind in
    record { result_value = record { is = λ count. word-unused count kind _ _ c.requires (sym c.has_place.ensures ∙ c.if-has_place.false) c.if-rows-at-ne0.true ∙ sym (ap (value_in kind) (under-kind c.args.rows.now count c.args.i c.args.node kind c.in_ok-at.at (rw c.in_ok-at.was at c.start_under.ensures) (sym c.if-from-rows.false ∙ c.from.ensures))) }; small = tt }

pub returns-clause-result_value : goal.returns-clause-result_value
returns-clause-result_value c =
    let kind = word_of c.args.kind in
    record { is = λ count. word-is count c.args.kind _ _ c.requires (sym c.has_place.ensures ∙ c.if-has_place.false) c.if-rows-at-ne0.false ∙ sym (ap (value_in kind) (under-kind c.args.rows.now count c.args.i c.args.node kind c.in_ok-at.at (rw c.in_ok-at.was at c.start_under.ensures) (sym c.if-from-rows.false ∙ c.from.ensures))) }
