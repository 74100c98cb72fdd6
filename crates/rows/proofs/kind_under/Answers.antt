-- `rows::kind_under` meets its contract: the row's words, where it is there under the node.
use mathlib.Core.Path.{ap, sym, ◌∙◌}
use lib.ListN.{length}
use Rattle.rows.specs.Kind.{word_of}
use Rattle.rows.specs.Words.{kind_in}
use Rattle.rows.proofs.Laws.{no-kind, look-no-row}
use Rattle.rows.proofs.Places.{under-words, under-kind}
use Rattle.rows.proofs.Words.{decodes, decodes-not, no-kind-in, kind-bare, kind-inside, kind-outside}
use Rattle.rows.proofs.kind_under.Goals as goal

pub returns-in_err-at : goal.returns-in_err-at
returns-in_err-at c = rw c.from_residual.ensures (no-kind-in ((rw c.in_err-at.was at c.start_under.ensures) (length c.args.bytes.now)))

pub returns-in_err-kind : goal.returns-in_err-kind
returns-in_err-kind c =
    let count = length c.args.bytes.now in
    let d = decodes-not c.try_from.result c.try_from.ensures (sym c.ok.ensures.value ∙ c.in_err-kind.was) in
    rw c.from_residual-in_err-kind.ensures (no-kind-in (51, under-words c.args.rows.now count c.args.i c.args.node 0 c.in_ok-at.at (rw c.in_ok-at.was at c.start_under.ensures) ∙ look-no-row _ _ _ count (no-kind _ _ _ d)))

pub returns-then-not-is_row : goal.returns-then-not-is_row
returns-then-not-is_row c =
    let count = length c.args.bytes.now in
    let d = decodes c.try_from.result c.try_from.ensures (sym c.ok.ensures.value ∙ c.in_ok-kind.was) in
    no-kind-in (51, under-kind c.args.rows.now count c.args.i c.args.node _ c.in_ok-at.at (rw c.in_ok-at.was at c.start_under.ensures) d ∙ look-no-row _ _ _ count (sym c.is_row.ensures ∙ c.if-not-is_row.true))

pub returns-in_err-ok : goal.returns-in_err-ok
returns-in_err-ok c =
    let count = length c.args.bytes.now in
    let d = decodes c.try_from.result c.try_from.ensures (sym c.ok.ensures.value ∙ c.in_ok-kind.was) in
    rw c.from_residual-in_err-ok.ensures (kind-outside count (word_of c.in_ok-kind.kind) _ _ (sym c.has_place.ensures ∙ c.if-has_place.true) c.look_at_place.result c.look_at_place.ensures (sym c.ok-then-has_place.ensures.value ∙ c.in_err-ok.was)
    ∙ sym (ap kind_in (under-kind c.args.rows.now count c.args.i c.args.node _ c.in_ok-at.at (rw c.in_ok-at.was at c.start_under.ensures) d)))

pub returns-in_ok-ok : goal.returns-in_ok-ok
returns-in_ok-ok c =
    let count = length c.args.bytes.now in
    let d = decodes c.try_from.result c.try_from.ensures (sym c.ok.ensures.value ∙ c.in_ok-kind.was) in
    kind-inside count (word_of c.in_ok-kind.kind) _ _ (sym c.has_place.ensures ∙ c.if-has_place.true) c.look_at_place.result c.look_at_place.ensures (sym c.ok-then-has_place.ensures.value ∙ c.in_ok-ok.was)
    ∙ sym (ap kind_in (under-kind c.args.rows.now count c.args.i c.args.node _ c.in_ok-at.at (rw c.in_ok-at.was at c.start_under.ensures) d))

pub returns-else-has_place : goal.returns-else-has_place
returns-else-has_place c =
    let count = length c.args.bytes.now in
    let d = decodes c.try_from.result c.try_from.ensures (sym c.ok.ensures.value ∙ c.in_ok-kind.was) in
    kind-bare count (word_of c.in_ok-kind.kind) _ _ (sym c.is_row.ensures ∙ c.if-not-is_row.false) (sym c.has_place.ensures ∙ c.if-has_place.false)
    ∙ sym (ap kind_in (under-kind c.args.rows.now count c.args.i c.args.node _ c.in_ok-at.at (rw c.in_ok-at.was at c.start_under.ensures) d))
