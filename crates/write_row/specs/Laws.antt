-- Laws of steps: a refusal, an end, and one step after another.
use Rattle.std.specs.Prelude.{◌≡◌, Result, Ok, Err, Bool, true, ℕ}
use Rattle.std.proofs.Math.Path.{refl}
use Rattle.std.proofs.Common.{sym, ap, ◌∙◌, subst, subst₂, arith}
use Rattle.std.proofs.Math.Bool.{false}
use mathlib.Core.List.{List, [], ◌∷◌, ◌++◌}
use Rattle.format.specs.Answer.{Answer, ok, refuse, ◌>>=◌}
use Rattle.format.specs.Refusal.{refused, answered}
use Rattle.format.specs.declared.refusal.Refusal.{Refusal}
use Rattle.format.specs.Table.{Held}
use Rattle.format.specs.Write.{Event, Rest, Fit}
use Rattle.laws.specs.Facts.{absurd-ok, bind_is}
use Rattle.write_passes.specs.Plan.{Plan, emit_events}
use Rattle.write_passes.specs.Laws.{emit-append}
use Rattle.write_passes.specs.Moves.{fine-counts, event-moves}
use Rattle.store.specs.Same.{Same, same_self, same_then}
use Rattle.write_bytes.specs.State.{plan_of}
use Rattle.write_row.specs.declared.Progress.{Progress}
use Rattle.write_row.specs.Rest.{rest_of}
use Rattle.write_row.specs.Writes.{done, Holds, Left, Emitted, Acts, Writes}

-- rows that fit, after others that do
abbrev pub joined : List Event × Rest → List Event × Rest → List Event × Rest
joined x y = (x.0 ++ y.0, y.1)

module _ {put : Bool} {modes : ℕ} {held : ℕ → Held} {pool rows : List ℕ} where
  pub along : {out w out' w' : List ℕ} {core : ℕ} {r : Result Progress Refusal} {a a' : Answer (List Event × Rest)} → a ≡ a'
      → Writes put modes held pool rows out w core out' w' r a' → Writes put modes held pool rows out w core out' w' r a
  along {out} {w} {out'} {w'} {core} {r} e d = subst (λ x. Writes put modes held pool rows out w core out' w' r x) (sym e) d

  pub refuses : {out w out' w' : List ℕ} {core : ℕ} (n : Refusal) → Writes put modes held pool rows out w core out' w' (Err n) (refused n)
  refuses n = record { left = tt; acts = λ z. refl }

  -- the pass that puts follows one that has counted, and of rows that do not fit it says nothing
  pub puts-any : {out w out' w' : List ℕ} {core : ℕ} {r : Result Progress Refusal} {a : Answer (List Event × Rest)} (e j : ℕ) → put ≡ true → Writes put modes held pool rows out w core out' w' r a → Writes put modes held pool rows out w core out' w' r (refuse e j)
  puts-any e j y d = record { left = d.left; acts = λ z. let x : ◌≡◌ {A = ℕ} 0 1 = cc in absurd (omega arith) }

  -- no rows
  pub ends : {out w : List ℕ} (i core : ℕ) → Holds pool rows w i core → Writes put modes held pool rows out w core out w (done i core) (ok ([], rest_of pool rows i))
  unfolding emit_events
  ends {w = w} i core h = record { left = (h, same_self w); acts = (refl, refl, refl) }

apart : {P : Type 0} {i core e j : ℕ} {r : Result Progress Refusal} → r ≡ done i core → answered r ≡ refuse e j → P
apart {i = i} {core} {e} {j} p q = let h : refuse e j ≡ ok (record { row = i; core = core }) = sym q ∙ ap answered p in absurd-ok h

done_same : {s t : Progress} → ◌≡◌ {A = Result Progress Refusal} (Ok s) (Ok t) → s ≡ t
done_same e = cc

-- counting refuses nothing
module _ (modes : ℕ) (held : ℕ → Held) where
  pub counts : (es : List Event) (p : Plan) → (q : Plan) × (emit_events false modes held es p ≡ ok q)
  unfolding emit_events
  counts [] p = (p, refl)
  counts (e ∷ es) p =
      let (q, h, g) = fine-counts _ _ (event-moves false modes held e p) in
      let (s, k) = counts es q in
      (s, bind_is _ h k)

left-then : (pool rows out₂ w₂ w w₁ : List ℕ) (r : Result Progress Refusal) → Same w w₁ → (s : Result Progress Refusal) → Left pool rows out₂ w₂ r w₁ s → Left pool rows out₂ w₂ r w s
left-then pool rows out₂ w₂ w w₁ r k (Ok p) h = (h.0, same_then k h.1)
left-then pool rows out₂ w₂ w w₁ r k (Err e) h = tt

-- what a step that is done has left
module _ {put : Bool} {modes : ℕ} {held : ℕ → Held} {pool rows out w out' w' : List ℕ} {core i' core' : ℕ} {r : Result Progress Refusal} {a : Answer (List Event × Rest)} (d : Writes put modes held pool rows out w core out' w' r a) (q : r ≡ done i' core') where
  pub done-holds : Holds pool rows w' i' core'
  done-holds = (subst (λ s. Left pool rows out' w' r w s) q d.left).0

  pub done-same : Same w w'
  done-same = (subst (λ s. Left pool rows out' w' r w s) q d.left).1

module _ (put : Bool) (modes : ℕ) (held : ℕ → Held) (pool rows : List ℕ) where
  abbrev ActsOn : List ℕ → List ℕ → Result Progress Refusal → Plan → Answer (List Event × Rest) → Type 0
  ActsOn out' w' r = Acts pool rows out' w' r put modes held

  -- rows that have fitted and been emitted, and others after them
  module _ (out₂ w₂ : List ℕ) (r : Result Progress Refusal) (x : List Event × Rest) (p : Plan) where
    after-acts : (p₁ : Plan) → emit_events put modes held x.0 p ≡ ok p₁ → (b : Answer (List Event × Rest)) → ActsOn out₂ w₂ r p₁ b → ActsOn out₂ w₂ r p (b >>= (λ y. ok (joined x y)))
    unfolding ◌>>=◌
    after-acts p₁ e (ok y) d = rw (emit-append put modes held x.0 y.0 p, e) d
    after-acts p₁ e (refuse n j) d = d

    after-not : (n j : ℕ) → emit_events put modes held x.0 p ≡ refuse n j → (b : Answer (List Event × Rest)) → ActsOn out₂ w₂ r p (b >>= (λ y. ok (joined x y)))
    unfolding ◌>>=◌
    after-not n j e (ok y) = rw (emit-append put modes held x.0 y.0 p, e) tt
    after-not n j e (refuse m k) = λ z. let (c, h) = counts modes held x.0 p in absurd-ok (sym e ∙ rw (← z) at h)

module _ {put : Bool} {modes : ℕ} {held : ℕ → Held} {pool rows : List ℕ} where
  -- one step after another
  pub seqs : {out w out₁ w₁ out₂ w₂ : List ℕ} {core i₁ core₁ : ℕ} {r r₁ : Result Progress Refusal} (a : Answer (List Event × Rest)) (f : Fit)
      → Writes put modes held pool rows out w core out₁ w₁ r₁ a → r₁ ≡ done i₁ core₁ → Writes put modes held pool rows out₁ w₁ core₁ out₂ w₂ r (f (rest_of pool rows i₁))
      → Writes put modes held pool rows out w core out₂ w₂ r (a >>= (λ x. f x.1 >>= (λ y. ok (joined x y))))
  unfolding ◌>>=◌
  seqs {out} {w} {out₁} {w₁} {out₂} {w₂} {core} {i₁} {core₁} {r} {r₁} a f d q d₂ = record { left = left-then pool rows out₂ w₂ w w₁ r (done-same d q) r d₂.left; acts = by a d.acts }
    where
      p : Plan
      p = plan_of pool out w core

      emitted : (x : List Event × Rest) (b : Answer Plan) → emit_events put modes held x.0 p ≡ b → Emitted pool rows out₁ w₁ r₁ x.1 b → Acts pool rows out₂ w₂ r put modes held p (f x.1 >>= (λ y. ok (joined x y)))
      emitted x (ok p₁) e t =
          let e₀ = done_same (sym q ∙ t.0) in
          let e₁ : i₁ ≡ x.1.at = ap (λ s. s.row) e₀ in
          let e₂ : core₁ ≡ p₁.core = ap (λ s. s.core) e₀ in
          after-acts put modes held pool rows out₂ w₂ r x p p₁ e (f x.1)
          (subst₂ (λ (u : Rest) (v : Plan). Acts pool rows out₂ w₂ r put modes held v (f u)) (ap (λ i. rest_of pool rows i) e₁ ∙ t.2) (ap (λ c. plan_of pool out₁ w₁ c) e₂ ∙ t.1) d₂.acts)
      emitted x (refuse n j) e t = after-not put modes held pool rows out₂ w₂ r x p n j e (f x.1)

      by : (b : Answer (List Event × Rest)) → Acts pool rows out₁ w₁ r₁ put modes held p b → Acts pool rows out₂ w₂ r put modes held p (b >>= (λ x. f x.1 >>= (λ y. ok (joined x y))))
      by (ok x) t = emitted x (emit_events put modes held x.0 p) refl t
      by (refuse n j) t = λ z. apart q (t z)

  -- nothing after a refusal
  pub seqs-not : {out w out₁ w₁ : List ℕ} {core : ℕ} {n : Refusal} {r : Result Progress Refusal} (a : Answer (List Event × Rest)) (f : Fit)
      → Writes put modes held pool rows out w core out₁ w₁ r a → r ≡ Err n → Writes put modes held pool rows out w core out₁ w₁ (Err n) (a >>= (λ x. f x.1 >>= (λ y. ok (joined x y))))
  unfolding ◌>>=◌
  seqs-not {out} {w} {out₁} {w₁} {core} {n} {r} a f d q = record { left = tt; acts = by a d.acts }
    where
      p : Plan
      p = plan_of pool out w core

      emitted : (x : List Event × Rest) (b : Answer Plan) → emit_events put modes held x.0 p ≡ b → Emitted pool rows out₁ w₁ r x.1 b → Acts pool rows out₁ w₁ (Err n) put modes held p (f x.1 >>= (λ y. ok (joined x y)))
      emitted x (ok p₁) e t = apart t.0 (ap answered q)
      emitted x (refuse m k) e t = after-not put modes held pool rows out₁ w₁ (Err n) x p m k e (f x.1)

      by : (b : Answer (List Event × Rest)) → Acts pool rows out₁ w₁ r put modes held p b → Acts pool rows out₁ w₁ (Err n) put modes held p (b >>= (λ x. f x.1 >>= (λ y. ok (joined x y))))
      by (ok x) t = emitted x (emit_events put modes held x.0 p) refl t
      by (refuse m k) t = λ z. sym (ap answered q) ∙ t z
