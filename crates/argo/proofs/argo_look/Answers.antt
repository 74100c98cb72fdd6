-- `argo::argo_look` meets its contract: what was seen, under the row's node, is what looking gives.
use mathlib.Core.Path.{ap, subst, ◌∙◌}
use Prim.Native.Nat.{ℕ}
use Rattle.format.specs.Answer.{ok}
use Rattle.rows.specs.Seen.{seen_under}
use Rattle.argo.specs.Exported.{Shows}
use Rattle.argo.proofs.argo_look.Goals as goal

pub returns-in-Ok : goal.returns-in-Ok
returns-in-Ok c = subst (Shows _) (ap (λ (n : ℕ). ok (seen_under n c.in-Ok.seen)) c.node_at.ensures ∙ c.in-Ok.ensures.result_value) c.shown.ensures

pub returns-in-Err : goal.returns-in-Err
returns-in-Err c = subst (Shows _) c.in-Err.ensures.result_value c.from.ensures
