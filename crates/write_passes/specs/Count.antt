-- The counting pass: it never refuses, it counts the bytes of the draft, and it meets a literal too many exactly when the different values are more than 4,096.
use Rattle.std.specs.Prelude.{◌≡◌, Bool, not, cond, leb, ℤ, pos, length, get_or}
use Rattle.std.proofs.Math.Path.{refl, ap}
use Rattle.std.proofs.Common.{sym, ◌∙◌, length-append, le-leb}
use Rattle.std.proofs.Math.Bool.{true, false}
use mathlib.Core.List.{List, [], ◌∷◌, ◌++◌}
use Rattle.std.proofs.Math.Option.{none}
use Prim.Native.Nat.{ℕ, zero, suc, ◌+◌, ◌≤◌, ◌<◌}
use native.Mathlib.Omega.{arith}
use Rattle.std.proofs.lemmas.Bool.{lt-leb}
use Rattle.format.specs.Label.{label}
use Rattle.format.specs.Modes.{inline_everything}
use Rattle.format.specs.Table.{Held}
use Rattle.format.specs.Row.{Text}
use Rattle.format.specs.Read.{total, is_numbered, is_ended, ending}
use Rattle.format.specs.Write.{Body, nothing, text, value, Event, Draft, add_bytes, choose, put_label, put_value, put_literal, put_front, put_choice, put_body, put_events, values_of, distinct, different_values}
use Rattle.store.specs.Store.{lookup, change}
use Rattle.laws.specs.Facts.{absurd-bool, by_bool, by-option, by-lt}
use Rattle.theory.specs.Start.{no_draft, draft, Keys}
use Rattle.theory.specs.Lists.{total-add, sum_to, sum-total}
use Rattle.theory.specs.Literals.{none_yet, front-literals, value-literals, name-literals, numbered-true, draft-literals, different, draft-total}
use Rattle.write_passes.specs.Plan.{Plan, blank, core_to, slots_to, emit_literal, emit_core, emit_label, emit_slot, emit_bytes, emit_choice, emit_text, emit_body, emit_event, emit_events}
use Rattle.write_passes.specs.Slots.{under, sizes-touched, sizes-new}
use Rattle.write_passes.specs.Laws.{core-counts, slot_counts, slot-new, literal-over}
use Rattle.write_passes.specs.Before.{before_same, put_event}
use Rattle.write_passes.specs.Follow.{After, after_then, Follows, follow-front, follow-event, follow-events}
use Rattle.write_passes.specs.Moves.{fine-counts, events-move}

-- The sizes of the draft's pieces, and its literals, none too many.
pub record Counted (lent : List ℕ) (p : Plan) (d : Draft) : Type 0 where
  pub out : p.out ≡ lent
  pub core : p.core ≡ length d.core
  pub slots : p.slots ≡ under length d.blocks
  pub literals : p.literals ≡ d.literals
  pub over : p.over ≡ false

module _ (lent : List ℕ) where
  count-core : (bs : List ℕ) (p : Plan) (d : Draft) → Counted lent p d → After (λ q. Counted lent q (record { core = d.core ++ bs; blocks = d.blocks; literals = d.literals })) (emit_core false bs p)
  count-core bs p d c =
      (core_to p.out (p.core + length bs) p, core-counts bs p, record { out = c.out; core = omega (arith, c.core, length-append d.core bs); slots = c.slots; literals = c.literals; over = c.over })

  count-slot : (k : ℕ) (bs : List ℕ) (p : Plan) (d : Draft) → Counted lent p d
      → After (λ q. Counted lent q (record { core = d.core; blocks = add_bytes k bs d.blocks; literals = d.literals })) (emit_slot false k bs (lookup k p.slots) p)
  count-slot k bs p d c = by-option (lookup k p.slots)
      (λ at e. (
        slots_to p.out (change k (λ n. n + length bs) p.slots) p,
        rw e (slot_counts k bs p at),
        record { out = c.out; core = c.core; slots = ap (λ xs. change k (λ n. n + length bs) xs) c.slots ∙ sym (sizes-touched k bs d.blocks (rw c.slots at e)); literals = c.literals; over = c.over },
      ))
      (λ e. (
        slots_to p.out (p.slots ++ (k, length bs) ∷ []) p,
        rw e (slot-new k bs p),
        record { out = c.out; core = c.core; slots = ap (λ xs. xs ++ (k, length bs) ∷ []) c.slots ∙ sym (sizes-new k bs d.blocks (rw c.slots at e)); literals = c.literals; over = c.over },
      ))

  count-bytes : (inline : Bool) (k : ℕ) (bs : List ℕ) (p : Plan) (d : Draft) → Counted lent p d → After (λ q. Counted lent q (put_value inline k bs d)) (emit_bytes false inline k bs p)
  unfolding emit_bytes put_value
  count-bytes true k bs p d c = count-core bs p d c
  count-bytes false k bs p d c = count-slot k bs p d c

  count-label : (l : ℤ) (p : Plan) (d : Draft) → Counted lent p d → After (λ q. Counted lent q (put_label l d)) (emit_label false l p)
  unfolding put_label
  count-label l p d c = count-core (label l) p d c

  count-follows : (modes : ℕ) (held : ℕ → Held) (last : Draft) → Follows false modes held last (Counted lent)
  count-follows modes held last =
      record {
        same = λ p d c. c.literals;
        label = λ l p d c h. count-label l p d c;
        value = λ k bs p d c h. count-bytes (inline_everything modes) k bs p d c;
        literal = λ ls p d c. record { out = c.out; core = c.core; slots = c.slots; literals = refl; over = c.over };
      }

-- a literal too many was met
abbrev pub Lost : List ℕ → Plan → Type 0
Lost lent q = (q.out ≡ lent) × (q.over ≡ true)

module _ (lent : List ℕ) (modes : ℕ) (held : ℕ → Held) where
  count-within : (es : List Event) (p : Plan) (d : Draft) → Counted lent p d → total (put_events modes held es d).literals ≤ 4096
      → After (λ q. Counted lent q (put_events modes held es d)) (emit_events false modes held es p)
  count-within es p d c few = follow-events false modes held (put_events modes held es d) few (λ q e. Counted lent q e) (count-follows lent modes held _) es p d c (before_same _)

  lost-stays : (es : List Event) (p : Plan) → Lost lent p → After (λ q. Lost lent q) (emit_events false modes held es p)
  lost-stays es p (o, t) =
      let (q, e, m) = fine-counts _ _ (events-move false modes held es p) in
      (q, e, (m.out refl ∙ o, m.over t))

  -- The row with which there are too many: its text is written out, and takes a number.
  lost-literal : (b : Bool) (k : ℕ) (v : Text) (p : Plan) (d : Draft) → Counted lent p d → total d.literals ≤ 4096 → 4096 < total (put_literal b k v d).literals → Lost lent (emit_literal b k v p)
  unfolding put_literal
  lost-literal false k v p d c few h = absurd (omega arith)
  lost-literal true k v p d c few h =
      let full : 4096 ≤ total p.literals = rw c.literals (omega (arith, total-add k v d.literals)) in
      rw (literal-over k v p full) (c.out, refl)

  lost-text : (k : ℕ) (v : Text) (p : Plan) (d : Draft) → Counted lent p d → total d.literals ≤ 4096 → 4096 < total (put_choice modes held k v none d).literals
      → After (λ q. Lost lent q) (emit_choice false modes held k v none p)
  unfolding emit_choice put_choice put_label
  lost-text k v p d c few h = after_then _ _ _ _ (count-label lent (pos (length v)) p d c) λ p₁ c₁.
      after_then _ _ _ _ (count-bytes lent (inline_everything modes) k (v ++ ending (is_ended modes (held k).leaf)) p₁ _ c₁) λ p₂ c₂.
      (emit_literal (is_numbered modes (held k)) k v p₂, refl, lost-literal (is_numbered modes (held k)) k v p₂ _ c₂ (rw value-literals few) h)

  lost-body : (b : Body) (p : Plan) (d : Draft) → Counted lent p d → total d.literals ≤ 4096 → 4096 < total (put_body modes held b d).literals → After (λ q. Lost lent q) (emit_body false modes held b p)
  unfolding put_body emit_body emit_text
  lost-body nothing p d c few h = absurd (omega arith)
  lost-body (value k bs) p d c few h = let h₁ : 4096 < total d.literals = rw value-literals at h in absurd (omega arith)
  lost-body (text k v) p d c few h =
      let same = ap (λ ls. choose (is_numbered modes (held k)) v (get_or ls k [])) c.literals in
      by-option (choose (is_numbered modes (held k)) v (get_or d.literals k []))
      (λ j e. let h₁ : 4096 < total d.literals = rw (e, name-literals) at h in absurd (omega arith))
      (λ e. rw (same, e) (lost-text k v p d c few (rw e at h)))

  lost-event : (e : Event) (p : Plan) (d : Draft) → Counted lent p d → total d.literals ≤ 4096 → 4096 < total (put_event modes held e d).literals → After (λ q. Lost lent q) (emit_event false modes held e p)
  unfolding emit_event
  lost-event e p d c few h =
      let few₁ : total (put_front e.front d).literals ≤ 4096 = rw front-literals few in
      after_then _ _ _ _ (follow-front false modes held (put_front e.front d) few₁ (λ q f. Counted lent q f) (count-follows lent modes held _) e.front p d c (before_same _)) λ p₁ c₁.
      lost-body e.body p₁ _ c₁ few₁ h

  count-beyond : (es : List Event) (p : Plan) (d : Draft) → Counted lent p d → total d.literals ≤ 4096 → 4096 < total (put_events modes held es d).literals → After (λ q. Lost lent q) (emit_events false modes held es p)
  unfolding emit_events put_events
  count-beyond [] p d c few h = absurd (omega arith)
  count-beyond (e ∷ es) p d c few h = by-lt 4096 (total (put_event modes held e d).literals)
      (λ l. after_then _ _ _ _ (lost-event e p d c few l) λ p₁ t. lost-stays es p₁ t)
      (λ l. after_then _ _ _ _ (follow-event false modes held (put_event modes held e d) l (λ q f. Counted lent q f) (count-follows lent modes held _) e p d c (before_same _)) λ p₁ c₁.
      count-beyond es p₁ _ c₁ l h)

-- How many literals the draft has.
module _ (modes : ℕ) (held : ℕ → Held) where
  different-least : (es : List Event) (ls : List (List Text)) → ((k : ℕ) → cond (is_numbered modes (held k)) (length (distinct (values_of k es))) 0 ≤ length (get_or ls k []))
      → (n : ℕ) → different_values (λ k. is_numbered modes (held k)) n es ≤ sum_to (λ k. length (get_or ls k [])) n
  unfolding different_values sum_to
  different-least es ls h zero = omega arith
  different-least es ls h (suc n) = omega (arith, different-least es ls h n, h n)

  pub draft-different : (es : List Event) → Keys es → total (draft modes held es).literals ≡ different modes held es
  draft-different es h =
      omega (arith, draft-total modes held es h, different-least es (draft modes held es).literals each 32, sum-total 32 (draft modes held es).literals)
    where
      each : (k : ℕ) → cond (is_numbered modes (held k)) (length (distinct (values_of k es))) 0 ≤ length (get_or (draft modes held es).literals k [])
      each k = by_bool (is_numbered modes (held k))
          (λ e. rw (draft-literals modes held es no_draft k, none_yet, numbered-true modes held k (values_of k es) e, e) (omega arith))
          (λ e. rw e (omega arith))

  -- The first pass.
  pub record Counts (lent : List ℕ) (es : List Event) (q : Plan) : Type 0 where
    pub out : q.out ≡ lent
    pub few : not q.over ≡ leb (different modes held es) 4096
    pub sizes : q.over ≡ false → Counted lent q (draft modes held es)

  pub counts : (lent : List ℕ) (es : List Event) → Keys es → After (λ q. Counts lent es q) (emit_events false modes held es (blank lent))
  counts lent es h = by-lt 4096 (total (draft modes held es).literals)
      (λ l. let (q, e, t) = count-beyond lent modes held es (blank lent) no_draft start (unfold total in (omega arith)) l in
      (q, e, record { out = t.0; few = rw t.1 (sym (lt-leb _ _ (rw (draft-different es h) at l))); sizes = λ f. absurd-bool (sym f ∙ t.1) }))
      (λ l. let (q, e, c) = count-within lent modes held es (blank lent) no_draft start l in
      (q, e, record { out = c.out; few = rw c.over (sym (le-leb _ _ (rw (draft-different es h) at l))); sizes = λ f. c }))
    where
      start : Counted lent (blank lent) no_draft
      start = record { out = refl; core = refl; slots = refl; literals = refl; over = refl }
