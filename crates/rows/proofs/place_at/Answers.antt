-- `rows::place_at` meets its contract: the row's words by its kind, where it is there.
use mathlib.Core.Path.{ap, sym, ◌∙◌}
use lib.ListN.{length}
use Rattle.rows.specs.Placed.{place}
use Rattle.rows.proofs.Laws.{no-kind}
use Rattle.rows.proofs.Words.{decodes, decodes-not}
use Rattle.rows.proofs.Places.{place-beyond, place-no-row, place-less, place-is, inside-ok}
use Rattle.rows.proofs.place_at.Goals as goal

pub returns-then-rows-i : goal.returns-then-rows-i
returns-then-rows-i c = record { result_value = place-beyond c.args.rows.now (length c.args.bytes.now) c.args.i c.if-rows-i.true; inside = tt }

pub returns-in_err-kind : goal.returns-in_err-kind
returns-in_err-kind c =
    let d = decodes-not c.try_from.result c.try_from.ensures (sym c.ok.ensures.value ∙ c.in_err-kind.was) in
    rw c.from_residual.ensures (record { result_value = place-no-row c.args.rows.now (length c.args.bytes.now) c.args.i c.if-rows-i.false (no-kind _ _ _ d); inside = tt })

pub returns-then-not-has_place : goal.returns-then-not-has_place
returns-then-not-has_place c =
    let d = decodes c.try_from.result c.try_from.ensures (sym c.ok.ensures.value ∙ c.in_ok-kind.was) in
    record { result_value = place-less c.args.rows.now (length c.args.bytes.now) c.args.i c.if-rows-i.false _ d (sym c.has_place.ensures ∙ c.if-not-has_place.true); inside = tt }

pub returns : goal.returns
returns c =
    let count = length c.args.bytes.now in
    let d = decodes c.try_from.result c.try_from.ensures (sym c.ok.ensures.value ∙ c.in_ok-kind.was) in
    record {
      result_value = ap place c.ok-2.ensures.value ∙ place-is c.args.rows.now count c.args.i c.if-rows-i.false _ d (sym c.has_place.ensures ∙ c.if-not-has_place.false) c.look_at_place.result c.look_at_place.ensures;
      inside = rw c.ok-2.ensures.value (inside-ok count _ c.look_at_place.result c.look_at_place.ensures);
    }
