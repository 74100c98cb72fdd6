-- Laws of what a step has done: one step after another, and what a caller learns of one.
use Rattle.std.specs.Prelude.{◌≡◌, refl, Bool, Result, Ok, Err, List, ℕ, ◌+◌, ℤ, length}
use Rattle.std.proofs.Common.{sym, ap, ◌∙◌}
use Rattle.format.specs.Answer.{Answer, ok, refuse, ◌>>=◌}
use Rattle.format.specs.Label.{label}
use Rattle.format.specs.Refusal.{number_of, second_of, refused, answered}
use Rattle.format.specs.Write.{mark}
use Rattle.laws.specs.Facts.{ok_same, absurd-ok}
use Rattle.write_passes.specs.Plan.{Plan, core_to, put_bytes, emit_core, emit_front, emit_body, emit_event}
use Rattle.store.specs.Same.{Same, same_self, same_then}
use Rattle.format.specs.declared.refusal.Refusal.{Refusal}
use Rattle.write_bytes.specs.State.{plan_of, Ready, HoldsPlan, reach, IfDone, Does, Emits, EmitsEvent, Puts}

-- what the code answered, the definition did
module _ {A : Type 0} (f : A → ℕ) {r : Result ℕ Refusal} where
  put-done : {c : ℕ} (a : Answer A) → answered r ≡ reach f a → r ≡ Ok c → (x : A) × (a ≡ ok x) × (c ≡ f x)
  put-done (ok x) q e = (x, refl, ok_same (sym (ap answered e) ∙ q))
  put-done (refuse e i) q z = absurd-ok (sym q ∙ ap answered z)

  put_full : {n : Refusal} (a : Answer A) → answered r ≡ reach f a → r ≡ Err n → a ≡ refused n
  put_full {n} (ok x) q z =
      let h : refuse (number_of n) (second_of n) ≡ ok (f x) = sym (ap answered z) ∙ q in
      absurd-ok h
  put_full {n} (refuse e i) q z =
      let h : refuse (number_of n) (second_of n) ≡ refuse e i = sym (ap answered z) ∙ q in
      let a : number_of n ≡ e = cc h in
      let b : second_of n ≡ i = cc h in
      rw (← a, ← b)

-- what a step that is done has left
pub record Leaves (pool w w' out : List ℕ) (c : ℕ) (a : Answer Plan) : Type 0 where
  pub is : a ≡ ok (plan_of pool out w' c)
  pub ready : Ready pool w'
  pub same : Same w w'

module _ {pool w w' out : List ℕ} where
  pub along : {r : Result ℕ Refusal} {a b : Answer Plan} → a ≡ b → Does pool w w' out r b → Does pool w w' out r a
  along e d = rw e d

  pub does-ok : {c : ℕ} → Ready pool w' → Same w w' → Does pool w w' out (Ok c) (ok (plan_of pool out w' c))
  does-ok g s = record { answer = refl; left = record { plan = refl; ready = g; same = s } }

  pub does-refuse : (n : Refusal) → Does pool w w' out (Err n) (refused n)
  does-refuse n = record { answer = refl; left = tt }

  pub does-done : {r : Result ℕ Refusal} {c : ℕ} (a : Answer Plan) → Does pool w w' out r a → r ≡ Ok c → Leaves pool w w' out c a
  does-done a d q =
      let s = put-done (λ p. p.core) a d.answer q in
      let h : HoldsPlan pool w w' out s.0 = rw s.1 at d.left in
      record { is = s.1 ∙ ap ok (sym h.plan ∙ ap (λ (n : ℕ). plan_of pool out w' n) (sym s.2)); ready = h.ready; same = h.same }

  pub does-refused : {r : Result ℕ Refusal} {n : Refusal} (a : Answer Plan) → Does pool w w' out r a → r ≡ Err n → a ≡ refused n
  does-refused a d q = put_full (λ p. p.core) a d.answer q

module _ {pool w w₁ out₁ : List ℕ} {r₁ : Result ℕ Refusal} (a : Answer Plan) (f : Plan → Answer Plan) (d : Does pool w w₁ out₁ r₁ a) where
  -- the refusal ends the whole
  pub does-stop : {n : Refusal} → r₁ ≡ Err n → Does pool w w₁ out₁ (Err n) (a >>= f)
  unfolding ◌>>=◌
  does-stop {n} q = rw (does-refused a d q) (does-refuse n)

  pub does-then : {w₂ out₂ : List ℕ} {r : Result ℕ Refusal} {c : ℕ} → r₁ ≡ Ok c → Does pool w₁ w₂ out₂ r (f (plan_of pool out₁ w₁ c)) → Does pool w w₂ out₂ r (a >>= f)
  unfolding ◌>>=◌
  does-then {w₂} {out₂} {r} {c} q d₂ =
      let x = does-done a d q in
      rw x.is (record { answer = d₂.answer; left = later (f (plan_of pool out₁ w₁ c)) d₂.left })
    where
      later : (b : Answer Plan) → IfDone (HoldsPlan pool w₁ w₂ out₂) b → IfDone (HoldsPlan pool w w₂ out₂) b
      later (ok p) l = record { plan = l.plan; ready = l.ready; same = same_then (does-done a d q).same l.same }
      later (refuse e i) l = tt

-- ---- bytes

module _ {put : Bool} {at : ℕ} {bs out out' : List ℕ} {r : Result ℕ Refusal} (d : Puts put at bs out out' r) where
  pub puts-done : {end : ℕ} → r ≡ Ok end → (put_bytes put at bs out ≡ ok out') × (end ≡ at + length bs)
  puts-done q =
      let s = put-done (λ o. at + length bs) (put_bytes put at bs out) d.answer q in
      let e : out' ≡ s.0 = rw s.1 at d.left in
      (s.1 ∙ ap ok (sym e), s.2)

  pub puts-refused : {n : Refusal} → r ≡ Err n → put_bytes put at bs out ≡ refused n
  puts-refused q = put_full (λ o. at + length bs) (put_bytes put at bs out) d.answer q

-- put at the core
pub core-emits : (put : Bool) (w : List ℕ) {core : ℕ} {bs out out' : List ℕ} {r : Result ℕ Refusal} → Puts put core bs out out' r → Emits w w out out' core r (emit_core put bs)
unfolding emit_core ◌>>=◌
core-emits put w {core} {bs} {out} {out'} {r} d = record { does = λ pool g. go pool g (put_bytes put core bs out) d.answer d.left }
  where
    go : (pool : List ℕ) → Ready pool w → (a : Answer (List ℕ)) → answered r ≡ reach (λ o. core + length bs) a → IfDone (λ o. out' ≡ o) a → Does pool w w out' r (a >>= (λ o. ok (core_to o (core + length bs) (plan_of pool out w core))))
    go pool g (ok o) q l = rw (← l) (record { answer = q; left = record { plan = refl; ready = g; same = same_self w } })
    go pool g (refuse e i) q l = record { answer = q; left = tt }

-- a row that writes a label alone
pub mark-emits : (put inline : Bool) (w : List ℕ) {core : ℕ} {l : ℤ} {out out' : List ℕ} {r : Result ℕ Refusal} → Puts put core (label l) out out' r → EmitsEvent put inline w w out out' core r (mark l)
unfolding emit_event emit_front emit_body ◌>>=◌
mark-emits put inline w {core} {l} {out} {out'} {r} d = record { emits = λ modes held i. record { does = λ pool g. along (unit (emit_core put (label l) (plan_of pool out w core))) ((core-emits put w d).does pool g) } }
  where
    unit : (a : Answer Plan) → (a >>= (λ p. ok p)) ≡ a
    unit (ok p) = refl
    unit (refuse e i) = refl
