-- `argo::argo_part` meets its contract: a place is inside the bytes, and where there is none the part is empty.
use mathlib.Core.Path.{ap, sym, ◌∙◌}
use Rattle.std.specs.Prelude.{Option}
use Rattle.format.specs.declared.place.Place.{Place}
use Rattle.rows.specs.Placed.{place}
use Rattle.argo.proofs.Laws.{or_empty, stands}
use Rattle.argo.proofs.argo_part.Goals as goal

pub returns-in-None : goal.returns-in-None
returns-in-None c = stands _ _ _ _ c.place_at.result c.place_at.ensures.result_value c.place_at.ensures.inside (ap (λ (p : Option Place). or_empty (place p)) (sym c.in-None.is))

pub returns-in-Some : goal.returns-in-Some
returns-in-Some c = stands _ _ _ _ c.place_at.result c.place_at.ensures.result_value c.place_at.ensures.inside (c.from.ensures ∙ ap (λ (p : Option Place). or_empty (place p)) (sym c.in-Some.is))
