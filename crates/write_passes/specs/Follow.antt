-- A pass follows the draft: what holds of a plan and a draft, and is kept by each label, value and literal, holds after all rows. The counting pass and the writing pass are two such relations.
use Rattle.std.specs.Prelude.{◌≡◌, Bool, ℤ, pos, length, get_or}
use Rattle.std.proofs.Math.Path.{refl}
use Rattle.std.proofs.Common.{ap, arith}
use Rattle.std.proofs.Math.Bool.{true, false}
use mathlib.Core.List.{List, [], ◌∷◌, ◌++◌}
use Rattle.std.proofs.Math.Option.{Option, none, some}
use Prim.Native.Nat.{ℕ, ◌≤◌, ◌<◌}
use Rattle.format.specs.Answer.{Answer, ok, ◌>>=◌}
use Rattle.format.specs.Modes.{inline_everything}
use Rattle.format.specs.Table.{Held}
use Rattle.format.specs.Row.{Text}
use Rattle.format.specs.Read.{number_label, add_at, total, is_numbered, is_ended, ending}
use Rattle.format.specs.Write.{Body, nothing, text, value, Event, Draft, choose, put_label, put_value, put_literal, put_front, put_choice, put_body, put_events}
use Rattle.laws.specs.Facts.{ok-bind}
use Rattle.theory.specs.Lists.{total-add}
use Rattle.write_passes.specs.Plan.{Plan, literals_to, emit_literal, emit_label, emit_front, emit_value, emit_choice, emit_text, emit_body, emit_event, emit_events}
use Rattle.write_passes.specs.Laws.{literal-plain, literal-kept}
use Rattle.write_passes.specs.Before.{Before, before_more, before-value, before-literal, before-body, put_event, before-events}

-- a step is made, and P holds after it
abbrev pub After : (Plan → Type 0) → Answer Plan → Type 0
After P m = (q : Plan) × (m ≡ ok q) × P q

pub after_then : (P Q : Plan → Type 0) (m : Answer Plan) (f : Plan → Answer Plan) → After P m → ((q : Plan) → P q → After Q (f q)) → After Q (m >>= f)
after_then P Q m f (q, h, r) g =
    let (t, k, s) = g q r in
    (t, rw (h, ok-bind) k, s)

abbrev pub with_literals : List (List Text) → Draft → Draft
with_literals ls d = record { core = d.core; blocks = d.blocks; literals = ls }

module _ (put : Bool) (modes : ℕ) (held : ℕ → Held) where
  pub record Follows (last : Draft) (P : Plan → Draft → Type 0) : Type 1 where
    pub same : (p : Plan) (d : Draft) → P p d → p.literals ≡ d.literals
    pub label : (l : ℤ) (p : Plan) (d : Draft) → P p d → Before (put_label l d) last → After (λ q. P q (put_label l d)) (emit_label put l p)
    pub value : (k : ℕ) (bs : List ℕ) (p : Plan) (d : Draft) → P p d → Before (put_value (inline_everything modes) k bs d) last → After (λ q. P q (put_value (inline_everything modes) k bs d)) (emit_value put modes held k bs p)
    pub literal : (ls : List (List Text)) (p : Plan) (d : Draft) → P p d → P (literals_to ls p.over p) (with_literals ls d)

  module _ (last : Draft) (few : total last.literals ≤ 4096) (P : Plan → Draft → Type 0) (F : Follows last P) where
    follow-literal : (b : Bool) (k : ℕ) (v : Text) (p : Plan) (d : Draft) → P p d → Before (put_literal b k v d) last → P (emit_literal b k v p) (put_literal b k v d)
    unfolding put_literal
    follow-literal false k v p d r h = rw literal-plain r
    follow-literal true k v p d r h =
        let s : p.literals ≡ d.literals = F.same p d r in
        let fits : total p.literals < 4096 = rw s (omega (arith, h.literals, total-add k v d.literals)) in
        rw (literal-kept k v p fits, s) (F.literal (add_at k v d.literals) p d r)

    follow-choice : (k : ℕ) (v : Text) (o : Option ℕ) (p : Plan) (d : Draft) → P p d → Before (put_choice modes held k v o d) last → After (λ q. P q (put_choice modes held k v o d)) (emit_choice put modes held k v o p)
    unfolding put_choice emit_choice
    follow-choice k v (some j) p d r h = F.label (number_label j) p d r h
    follow-choice k v none p d r h =
        let bs : List ℕ = v ++ ending (is_ended modes (held k).leaf) in
        let h₂ = before_more (before-literal (is_numbered modes (held k)) k v _) h in
        let h₁ = before_more (before-value (inline_everything modes) k bs _) h₂ in
        after_then _ _ _ _ (F.label (pos (length v)) p d r h₁) λ p₁ r₁.
        after_then _ _ _ _ (F.value k bs p₁ _ r₁ h₂) λ p₂ r₂.
        (emit_literal (is_numbered modes (held k)) k v p₂, refl, follow-literal (is_numbered modes (held k)) k v p₂ _ r₂ h)

    pub follow-front : (f : Option ℤ) (p : Plan) (d : Draft) → P p d → Before (put_front f d) last → After (λ q. P q (put_front f d)) (emit_front put f p)
    unfolding put_front emit_front
    follow-front none p d r h = (p, refl, r)
    follow-front (some l) p d r h = F.label l p d r h

    follow-body : (b : Body) (p : Plan) (d : Draft) → P p d → Before (put_body modes held b d) last → After (λ q. P q (put_body modes held b d)) (emit_body put modes held b p)
    unfolding put_body emit_body emit_text
    follow-body nothing p d r h = (p, refl, r)
    follow-body (text k v) p d r h = rw (ap (λ ls. choose (is_numbered modes (held k)) v (get_or ls k [])) (F.same p d r)) (follow-choice k v (choose (is_numbered modes (held k)) v (get_or d.literals k [])) p d r h)
    follow-body (value k bs) p d r h = F.value k bs p d r h

    pub follow-event : (e : Event) (p : Plan) (d : Draft) → P p d → Before (put_event modes held e d) last → After (λ q. P q (put_event modes held e d)) (emit_event put modes held e p)
    unfolding emit_event
    follow-event e p d r h = after_then _ _ _ _ (follow-front e.front p d r (before_more (before-body modes held e.body _) h)) λ p₁ r₁. follow-body e.body p₁ _ r₁ h

    pub follow-events : (es : List Event) (p : Plan) (d : Draft) → P p d → Before (put_events modes held es d) last → After (λ q. P q (put_events modes held es d)) (emit_events put modes held es p)
    unfolding emit_events put_events
    follow-events [] p d r h = (p, refl, r)
    follow-events (e ∷ es) p d r h = after_then _ _ _ _ (follow-event e p d r (before_more (before-events modes held es _) h)) λ p₁ r₁. follow-events es p₁ _ r₁ h
