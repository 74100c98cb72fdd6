-- A draft that comes before another: no piece of it is longer, its keys come first, and it has no more literals. What is put on a draft comes after it.
use Rattle.std.specs.Prelude.{◌≡◌, refl, Bool, true, false, ℕ, ◌≤◌, eqb, ℤ, length}
use Rattle.std.proofs.Common.{◌∙◌, le_refl, le_trans, arith, length-append, eqb-true}
use mathlib.Core.List.{List, [], ◌∷◌, ◌++◌}
use Rattle.std.proofs.Math.Option.{Option, none, some}
use Rattle.format.specs.Label.{label}
use Rattle.format.specs.Table.{Held}
use Rattle.format.specs.Row.{Text}
use Rattle.format.specs.Read.{total}
use Rattle.format.specs.Write.{Body, nothing, text, value, Event, Draft, add_bytes, put_label, put_value, put_literal, put_front, put_choice, put_body, put_events}
use Rattle.laws.specs.Facts.{by_bool}
use Rattle.theory.specs.Lists.{total-add}
use Rattle.theory.specs.Blocks.{bytes-here, bytes-behind}
use Rattle.write_passes.specs.Slots.{under}

pub data Below : List (ℕ × ℕ) → List (ℕ × ℕ) → Type 0 where
  nothing_yet : {ys : List (ℕ × ℕ)} → Below [] ys
  beside : {x y : ℕ × ℕ} {xs ys : List (ℕ × ℕ)} → x.0 ≡ y.0 → x.1 ≤ y.1 → Below xs ys → Below (x ∷ xs) (y ∷ ys)

pub below_length : {xs ys : List (ℕ × ℕ)} → Below xs ys → length xs ≤ length ys
below_length nothing_yet = omega arith
below_length (beside e l r) = omega (arith, below_length r)

pub below_parts : {x y : ℕ × ℕ} {xs ys : List (ℕ × ℕ)} → Below (x ∷ xs) (y ∷ ys) → (x.0 ≡ y.0) × (x.1 ≤ y.1) × Below xs ys
below_parts (beside e l r) = (e, l, r)

below-same : (xs : List (ℕ × ℕ)) → Below xs xs
below-same [] = nothing_yet
below-same (x ∷ xs) = beside refl (le_refl x.1) (below-same xs)

below_more : {xs ys zs : List (ℕ × ℕ)} → Below xs ys → Below ys zs → Below xs zs
below_more nothing_yet b = nothing_yet
below_more (beside e l r) (beside f m s) = beside (e ∙ f) (le_trans l m) (below_more r s)

below-bytes : (k : ℕ) (bs : List ℕ) (xs : List (ℕ × List ℕ)) → Below (under length xs) (under length (add_bytes k bs xs))
below-bytes k bs [] = nothing_yet
below-bytes k bs (x ∷ xs) = by_bool (eqb x.0 k)
    (λ e. let l : length x.1 ≤ length (x.1 ++ bs) = omega (arith, length-append x.1 bs) in rw (bytes-here k bs x xs e) (beside (eqb-true _ _ e) l (below-same (under length xs))))
    (λ e. rw (bytes-behind k bs x xs e) (beside refl (le_refl (length x.1)) (below-bytes k bs xs)))

pub record Before (d e : Draft) : Type 0 where
  pub core : length d.core ≤ length e.core
  pub blocks : Below (under length d.blocks) (under length e.blocks)
  pub literals : total d.literals ≤ total e.literals

pub before_same : (d : Draft) → Before d d
before_same d = record { core = omega arith; blocks = below-same _; literals = omega arith }

pub before_more : {d e f : Draft} → Before d e → Before e f → Before d f
before_more a b = record { core = omega (arith, a.core, b.core); blocks = below_more a.blocks b.blocks; literals = omega (arith, a.literals, b.literals) }

pub before-label : (l : ℤ) (d : Draft) → Before d (put_label l d)
unfolding put_label
before-label l d = record { core = omega (arith, length-append d.core (label l)); blocks = below-same _; literals = omega arith }

pub before-value : (inline : Bool) (k : ℕ) (bs : List ℕ) (d : Draft) → Before d (put_value inline k bs d)
unfolding put_value
before-value true k bs d = record { core = omega (arith, length-append d.core bs); blocks = below-same _; literals = omega arith }
before-value false k bs d = record { core = omega arith; blocks = below-bytes k bs d.blocks; literals = omega arith }

pub before-literal : (b : Bool) (k : ℕ) (v : Text) (d : Draft) → Before d (put_literal b k v d)
unfolding put_literal
before-literal true k v d = record { core = omega arith; blocks = below-same _; literals = omega (arith, total-add k v d.literals) }
before-literal false k v d = before_same d

before-front : (f : Option ℤ) (d : Draft) → Before d (put_front f d)
unfolding put_front
before-front none d = before_same d
before-front (some l) d = before-label l d

module _ (modes : ℕ) (held : ℕ → Held) where
  before-choice : (k : ℕ) (v : Text) (o : Option ℕ) (d : Draft) → Before d (put_choice modes held k v o d)
  unfolding put_choice
  before-choice k v (some j) d = before-label _ d
  before-choice k v none d = before_more (before-label _ d) (before_more (before-value _ k _ _) (before-literal _ k v _))

  pub before-body : (b : Body) (d : Draft) → Before d (put_body modes held b d)
  unfolding put_body
  before-body nothing d = before_same d
  before-body (text k v) d = before-choice k v _ d
  before-body (value k bs) d = before-value _ k bs d

  -- one row
  abbrev pub put_event : Event → Draft → Draft
  put_event e d = put_body modes held e.body (put_front e.front d)

  pub before-event : (e : Event) (d : Draft) → Before d (put_event e d)
  before-event e d = before_more (before-front e.front d) (before-body e.body _)

  pub before-events : (es : List Event) (d : Draft) → Before d (put_events modes held es d)
  unfolding put_events
  before-events [] d = before_same d
  before-events (e ∷ es) d = before_more (before-event e d) (before-events es (put_event e d))
