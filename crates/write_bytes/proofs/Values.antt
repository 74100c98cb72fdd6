-- Where a value goes, its bytes, and what moves on behind them: the plan's `emit_bytes`.
use mathlib.Core.Path.{◌≡◌, refl, sym, ap, ◌∙◌}
use mathlib.Core.Bool.{Bool, true, false, not, cond, true≢false}
use mathlib.Core.List.{List, [], ◌∷◌, ◌++◌, map-append}
use mathlib.Core.Option.{Option, none, some, map}
use Prim.Native.Nat.{ℕ, ◌+◌, ◌≤◌}
use native.Mathlib.Nat.{zero-add}
use native.Mathlib.Omega.{arith}
use lib.ListN.{length}
use Rattle.format.specs.Answer.{Answer, ok, refuse, ◌>>=◌, ◌>>◌, need_at}
use Rattle.std.specs.Prelude.{Result, Ok, Err}
use Rattle.format.specs.Refusal.{answered}
use Rattle.format.specs.Read.{Reading}
use Rattle.store.specs.Store.{lookup, put}
use Rattle.write_literals.specs.Store.{Store, opened, advanced}
use Rattle.write_literals.specs.Words.{store_of, Good, Changes}
use Rattle.store.specs.Laws.{change-put}
use Rattle.laws.specs.Facts.{ok_same, need-ok}
use Rattle.write_passes.specs.Plan.{Plan, core_to, slots_to, put_bytes, emit_core, emit_slot, emit_bytes}
use Rattle.write_passes.specs.Slots.{under, most-lookup, lookup-under, change-under}
use Rattle.format.specs.declared.refusal.Refusal.{Refusal}
use Rattle.write_bytes.specs.State.{plan_in, plan_of, slots_of, Ready, Within, Emits, Puts}
use Rattle.write_bytes.specs.Does.{along, does-ok, does-refuse, puts-done, puts-refused}
use Rattle.write_bytes.specs.Value.{slot_place, place_of, slot_to, moved_to, HasPlace}

-- ---- the place

module _ (put inline : Bool) (k core : ℕ) (xs : List (ℕ × Reading)) where
  abbrev placed : Answer ℕ
  placed = place_of put inline k core (under (λ p. p.at) xs)

  pub place-core : inline ≡ true → ok core ≡ placed
  unfolding place_of
  place-core i = rw i

  place-by : {o : Option Reading} → inline ≡ false → lookup k xs ≡ o → placed ≡ slot_place put (map (λ p. p.at) o)
  unfolding place_of
  place-by i e = rw (i, lookup-under (λ p. p.at) k xs, e)

  pub place-slot : {a b : ℕ} → inline ≡ false → lookup k xs ≡ some (record { at = a; end = b }) → ok a ≡ placed
  unfolding slot_place
  place-slot i e = sym (place-by i e)

  pub place_none : inline ≡ false → lookup k xs ≡ none → put ≡ true → refuse 43 0 ≡ placed
  unfolding slot_place need_at ◌>>◌
  place_none i e p = sym (place-by i e ∙ rw p)

  pub place-new : inline ≡ false → lookup k xs ≡ none → put ≡ false → ok 0 ≡ placed
  unfolding slot_place need_at ◌>>◌
  place-new i e p = sym (place-by i e ∙ rw p)

placed-slot : (w : List ℕ) (k core : ℕ) {n : ℕ} → place_of true false k core (slots_of w) ≡ ok n → (p : Reading) × (lookup k (store_of w).slots ≡ some p)
unfolding place_of slot_place
placed-slot w k core {n} e = go (lookup k (store_of w).slots) refl
  where
    go : (o : Option Reading) → lookup k (store_of w).slots ≡ o → (p : Reading) × (o ≡ some p)
    go (some p) q = (p, refl)
    go none q = absurd (true≢false (sym (need-ok false 43 0 (ok 0) (sym (ap (slot_place true) (lookup-under (λ p. p.at) k (store_of w).slots ∙ ap (map (λ p. p.at)) q)) ∙ e)).0))

-- ---- what moves on

module _ (w : List ℕ) (k at core : ℕ) where
  pub moved-core : {inline : Bool} → Good w → inline ≡ true → (at ≡ cond inline at core) × Changes w w (moved_to inline k at)
  unfolding moved_to
  moved-core g i = rw i (refl, record { good = g; store = refl; size = refl; outside = λ j h. refl })

  moved_by : {inline : Bool} {w' : List ℕ} {f : Store → Store} → inline ≡ false → Changes w w' f → f (store_of w) ≡ slot_to k at (lookup k (store_of w).slots) (store_of w)
      → (core ≡ cond inline at core) × Changes w w' (moved_to inline k at)
  unfolding moved_to
  moved_by i c e = rw i (refl, record { good = c.good; store = c.store ∙ e; size = c.size; outside = c.outside })

  pub moved_new : {inline : Bool} {w' : List ℕ} → inline ≡ false → lookup k (store_of w).slots ≡ none → Changes w w' (opened k (record { at = at; end = 0 })) → (core ≡ cond inline at core) × Changes w w' (moved_to inline k at)
  unfolding slot_to
  moved_new i e c = moved_by i c (rw (e, slot_to))

  pub moved-slot : {inline : Bool} {w' : List ℕ} {p : Reading} → inline ≡ false → lookup k (store_of w).slots ≡ some p → Changes w w' (advanced k at) → (core ≡ cond inline at core) × Changes w w' (moved_to inline k at)
  unfolding slot_to
  moved-slot i e c = moved_by i c (rw (e, slot_to))

  -- a key that has a place while bytes are put has a slot
  pub moved-put : {put inline : Bool} {w' : List ℕ} → put ≡ true → inline ≡ false → HasPlace put inline k core w → Changes w w' (advanced k at) → (core ≡ cond inline at core) × Changes w w' (moved_to inline k at)
  moved-put p i h c = let s = placed-slot w k core (rw (p, i) at h.found) in moved-slot i s.1 c

-- ---- the three together

-- the plan with the core, or the slot of a key, moved on
slot_to' : ℕ → ℕ → Option ℕ → List (ℕ × ℕ) → List (ℕ × ℕ)
slot_to' k n (some at) xs = put k n xs
slot_to' k n none xs = xs ++ (k, n) ∷ []

plan_to : Bool → ℕ → ℕ → List ℕ → Plan → Plan
plan_to true k n out p = core_to out n p
plan_to false k n out p = slots_to out (slot_to' k n (lookup k p.slots) p.slots) p

emit-bytes : (put inline : Bool) (k : ℕ) (bs : List ℕ) (p : Plan) → emit_bytes put inline k bs p
    ≡ (place_of put inline k p.core p.slots >>= (λ at. put_bytes put at bs p.out >>= (λ out. ok (plan_to inline k (at + length bs) out p))))
unfolding emit_bytes emit_core emit_slot place_of slot_place plan_to slot_to' put_bytes need_at ◌>>=◌ ◌>>◌
emit-bytes put true k bs p = refl
emit-bytes put false k bs p = go put (lookup k p.slots) refl
  where
    go : (put : Bool) (o : Option ℕ) → lookup k p.slots ≡ o
        → emit_slot put k bs o p ≡ (slot_place put o >>= (λ at. put_bytes put at bs p.out >>= (λ out. ok (slots_to out (slot_to' k (at + length bs) o p.slots) p))))
    go put (some at) e = rw (change-put k (λ n. n + length bs) p.slots e)
    go true none e = refl
    go false none e = rw zero-add

module _ (put inline : Bool) (k : ℕ) (bs : List ℕ) (p : Plan) where
  bytes-nowhere : {e i : ℕ} → place_of put inline k p.core p.slots ≡ refuse e i → emit_bytes put inline k bs p ≡ refuse e i
  unfolding ◌>>=◌
  bytes-nowhere q = emit-bytes put inline k bs p ∙ rw q

  module _ {at : ℕ} (q : place_of put inline k p.core p.slots ≡ ok at) where
    bytes-full : {e i : ℕ} → put_bytes put at bs p.out ≡ refuse e i → emit_bytes put inline k bs p ≡ refuse e i
    unfolding ◌>>=◌
    bytes-full z = emit-bytes put inline k bs p ∙ rw (q, z)

    bytes-done : {out : List ℕ} → put_bytes put at bs p.out ≡ ok out → emit_bytes put inline k bs p ≡ ok (plan_to inline k (at + length bs) out p)
    unfolding ◌>>=◌
    bytes-done z = emit-bytes put inline k bs p ∙ rw (q, z)

planned : (pool out out' : List ℕ) (core : ℕ) (inline : Bool) (k n : ℕ) (s : Store) → plan_in pool out' (cond inline n core) (moved_to inline k n s) ≡ plan_to inline k n out' (plan_in pool out core s)
unfolding plan_to moved_to slot_to slot_to'
planned pool out out' core true k n s = refl
planned pool out out' core false k n s = go (lookup k s.slots) refl
  where
    go : (o : Option Reading) → lookup k s.slots ≡ o → plan_in pool out' core (slot_to k n o s) ≡ slots_to out' (slot_to' k n (lookup k (under (λ p. p.at) s.slots)) (under (λ p. p.at) s.slots)) (plan_in pool out core s)
    go (some p) e = rw (lookup-under (λ p. p.at) k s.slots, e, change-under (λ p. p.at) k (λ p. record { at = n; end = p.end }) (λ m. n) s.slots (λ p q. refl))
    go none e =
        let e₁ : under (λ p. p.at) (s.slots ++ (k, record { at = n; end = 0 }) ∷ []) ≡ under (λ p. p.at) s.slots ++ (k, n) ∷ [] = map-append _ s.slots _ in
        rw (lookup-under (λ p. p.at) k s.slots, e, e₁)

literals-stay : (inline : Bool) (k n : ℕ) (s : Store) → (moved_to inline k n s).literals ≡ s.literals
unfolding moved_to slot_to
literals-stay true k n s = refl
literals-stay false k n s = go (lookup k s.slots)
  where
    go : (o : Option Reading) → (slot_to k n o s).literals ≡ s.literals
    go (some p) = refl
    go none = refl

place-done : {r : Result ℕ Refusal} {at : ℕ} (a : Answer ℕ) → answered r ≡ a → r ≡ Ok at → a ≡ ok at
place-done a q e = sym q ∙ ap answered e

pub ready-kept : {pool w w' : List ℕ} → Ready pool w → Good w' → (store_of w').literals ≡ (store_of w).literals → Ready pool w'
ready-kept g h e = record { small = g.small; good = h; inside = rw e g.inside }

module _ (put inline : Bool) (k core : ℕ) {w : List ℕ} {r₁ : Result ℕ Refusal} (q₁ : answered r₁ ≡ place_of put inline k core (slots_of w)) where
  pub place-found : {at : ℕ} → r₁ ≡ Ok at → HasPlace put inline k core w
  place-found {at} q = record { at = at; found = place-done _ q₁ q }

  -- the place goes no further than the core and the slots
  pub place-within : {b at : ℕ} → Within b core w → r₁ ≡ Ok at → at ≤ b
  unfolding place_of slot_place
  place-within {b} {at} h q = go inline (place-done _ q₁ q)
    where
      slot : (o : Option ℕ) → lookup k (slots_of w) ≡ o → slot_place put o ≡ ok at → at ≤ b
      slot (some n) e z = let y : n ≡ at = ok_same z in omega (arith, h.others, most-lookup k n (slots_of w) e)
      slot none e z = let y : 0 ≡ at = ok_same (need-ok (not put) 43 0 (ok 0) z).1 in omega arith

      go : (inline : Bool) → place_of put inline k core (slots_of w) ≡ ok at → at ≤ b
      go true z = let y : core ≡ at = ok_same z in omega (arith, h.first)
      go false z = slot (lookup k (slots_of w)) refl z

  module _ (bs : List ℕ) {out : List ℕ} where
    -- the key has no block
    pub value-nowhere : {out' : List ℕ} → {n : Refusal} → r₁ ≡ Err n → Emits w w out out' core (Err n) (emit_bytes put inline k bs)
    value-nowhere {n = n} q = record { does = λ pool g. along (bytes-nowhere put inline k bs (plan_of pool out w core) (sym q₁ ∙ ap answered q)) (does-refuse n) }

    module _ {at : ℕ} (q₂ : r₁ ≡ Ok at) {out' : List ℕ} {r₂ : Result ℕ Refusal} (d : Puts put at bs out out' r₂) where
      -- the output is full
      pub value-full : {n : Refusal} → r₂ ≡ Err n → Emits w w out out' core (Err n) (emit_bytes put inline k bs)
      value-full {n} q = record { does = λ pool g. along (bytes-full put inline k bs (plan_of pool out w core) (place-done _ q₁ q₂) (puts-refused d q)) (does-refuse n) }

      pub value-done : {end : ℕ} → r₂ ≡ Ok end → {core' : ℕ} {w' : List ℕ} → core' ≡ cond inline end core → Changes w w' (moved_to inline k end) → Emits w w' out out' core (Ok core') (emit_bytes put inline k bs)
      value-done {end} q {core'} {w'} f c =
          let x = puts-done d q in
          record {
            does = λ pool g.
                let e : plan_of pool out' w' core' ≡ plan_to inline k (at + length bs) out' (plan_of pool out w core) = rw (f, c.store, ← x.1) (planned pool out out' core inline k end (store_of w)) in
                along (bytes-done put inline k bs (plan_of pool out w core) (place-done _ q₁ q₂) x.0 ∙ ap ok (sym e)) (does-ok (ready-kept g c.good (ap (λ s. s.literals) c.store ∙ literals-stay inline k end (store_of w))) (record { at = c.outside }));
          }
