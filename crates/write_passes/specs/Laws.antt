-- What each step does, by case: counting or putting, with room or without, at a key that has a slot or at one that has none.
use Rattle.std.specs.Prelude.{◌≡◌, Bool, true, false, ℕ, ◌+◌, ◌≤◌, ◌<◌, length}
use Rattle.std.proofs.Math.Path.{refl, sym}
use mathlib.Core.List.{List, [], ◌∷◌, ◌++◌}
use Rattle.std.proofs.Math.Option.{none, some}
use Rattle.std.proofs.lemmas.List.Edits.{sets}
use Rattle.std.proofs.Common.{lt-ltb, le-ltb, le-leb}
use Rattle.std.proofs.lemmas.Bool.{lt-leb}
use Rattle.format.specs.Answer.{Answer, ok, refuse, ◌>>=◌}
use Rattle.format.specs.Table.{Held}
use Rattle.format.specs.Row.{Text}
use Rattle.format.specs.Read.{add_at, total}
use Rattle.format.specs.Write.{Event}
use Rattle.store.specs.Store.{change}
use Rattle.laws.specs.Facts.{ok-bind, need-yes, need-no, bind-then}
use Rattle.write_passes.specs.Plan.{Plan, core_to, slots_to, literals_to, put_bytes, emit_literal, emit_core, emit_slot, emit_event, emit_events}

bind-end : {A : Type 0} (m : Answer A) → (m >>= (λ a. ok a)) ≡ m
unfolding ◌>>=◌
bind-end (ok a) = refl
bind-end (refuse r i) = refl

module _ (at : ℕ) (bs out : List ℕ) where
  pub put-not : put_bytes false at bs out ≡ ok out
  unfolding put_bytes
  put-not = refl

  pub put-fits : at + length bs ≤ length out → put_bytes true at bs out ≡ ok (sets out at bs)
  unfolding put_bytes
  put-fits h = need-yes 43 0 _ (le-leb _ _ h)

  pub put-over : length out < at + length bs → put_bytes true at bs out ≡ refuse 43 0
  unfolding put_bytes
  put-over h = need-no 43 0 _ (lt-leb _ _ h)

module _ (bs : List ℕ) (p : Plan) where
  pub core-counts : emit_core false bs p ≡ ok (core_to p.out (p.core + length bs) p)
  unfolding emit_core
  core-counts = rw (put-not, ok-bind)

  pub core-puts : p.core + length bs ≤ length p.out → emit_core true bs p ≡ ok (core_to (sets p.out p.core bs) (p.core + length bs) p)
  unfolding emit_core
  core-puts h = rw (put-fits, ok-bind)

module _ (k : ℕ) (bs : List ℕ) (p : Plan) where
  pub slot_counts : (at : ℕ) → emit_slot false k bs (some at) p ≡ ok (slots_to p.out (change k (λ n. n + length bs) p.slots) p)
  unfolding emit_slot
  slot_counts at = rw (put-not, ok-bind)

  pub slot-new : emit_slot false k bs none p ≡ ok (slots_to p.out (p.slots ++ (k, length bs) ∷ []) p)
  unfolding emit_slot
  slot-new = need-yes 43 0 _ refl

  pub slot-puts : (at : ℕ) → at + length bs ≤ length p.out → emit_slot true k bs (some at) p ≡ ok (slots_to (sets p.out at bs) (change k (λ n. n + length bs) p.slots) p)
  unfolding emit_slot
  slot-puts at h = rw (put-fits, ok-bind)

  pub slot-none : emit_slot true k bs none p ≡ refuse 43 0
  unfolding emit_slot
  slot-none = need-no 43 0 _ refl

module _ (k : ℕ) (v : Text) (p : Plan) where
  pub literal-plain : emit_literal false k v p ≡ p
  unfolding emit_literal
  literal-plain = refl

  pub literal-kept : total p.literals < 4096 → emit_literal true k v p ≡ literals_to (add_at k v p.literals) p.over p
  unfolding emit_literal
  literal-kept h = rw (lt-ltb _ _ h, emit_literal)

  pub literal-over : 4096 ≤ total p.literals → emit_literal true k v p ≡ literals_to p.literals true p
  unfolding emit_literal
  literal-over h = rw (le-ltb _ _ h, emit_literal)

module _ (put : Bool) (modes : ℕ) (held : ℕ → Held) where
  -- Rows one after another.
  pub emit-one : (e : Event) (p : Plan) → emit_events put modes held (e ∷ []) p ≡ emit_event put modes held e p
  unfolding emit_events
  emit-one e p = bind-end (emit_event put modes held e p)

  pub emit-append : (es fs : List Event) (p : Plan) → emit_events put modes held (es ++ fs) p ≡ (emit_events put modes held es p >>= (λ q. emit_events put modes held fs q))
  unfolding emit_events
  emit-append [] fs p = sym (ok-bind p _)
  emit-append (e ∷ es) fs p = bind-then (emit_event put modes held e p) _ _ _ (λ q. emit-append es fs q)
