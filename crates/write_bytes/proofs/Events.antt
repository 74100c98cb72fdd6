-- The label in front of a value, and the value behind it: a whole row.
use mathlib.Core.Path.{◌≡◌, refl, sym}
use mathlib.Core.Bool.{Bool, true, false}
use mathlib.Core.List.{List}
use Prim.Native.Nat.{ℕ, ◌+◌, ◌≤◌}
use native.Mathlib.Omega.{arith}
use lib.IntN.{pos}
use lib.ListN.{length}
use Rattle.format.specs.Answer.{Answer, ok, refuse, ◌>>=◌}
use Rattle.std.specs.Prelude.{Result, Ok, Err}
use Rattle.format.specs.Label.{label}
use Rattle.format.specs.Refusal.{answered}
use Rattle.format.specs.Table.{Held}
use Rattle.format.specs.Write.{Body, unlabelled, nothing, value}
use Rattle.label.specs.Laws.{label-most}
use Rattle.write_passes.specs.Plan.{Plan, put_bytes, emit_bytes, emit_front, emit_body, emit_event}
use Rattle.laws.specs.Facts.{ok_same, absurd-ok}
use Rattle.store.specs.Same.{same_self}
use Rattle.format.specs.declared.refusal.Refusal.{Refusal}
use Rattle.write_bytes.specs.State.{plan_of, Emits, reach, EmitsEvent, Puts}
use Rattle.write_bytes.specs.Does.{along, does-ok, does-done, does-then, does-stop, core-emits}
use Rattle.write_bytes.specs.Value.{Fronts, Near}

near : (core n : ℕ) (r : Result ℕ Refusal) (a : Answer (List ℕ)) → answered r ≡ reach (λ o. n) a → n ≤ core + 10 → Near core r
near core n (Ok c) (ok o) q h = let e : c ≡ n = ok_same q in omega arith
near core n (Ok c) (refuse e i) q h = absurd-ok (sym q)
near core n (Err e) a q h = tt

module _ {put labelled : Bool} {out : List ℕ} {core : ℕ} where
  pub front-none : labelled ≡ false → Fronts put labelled out out core (Ok core) × Near core (Ok core)
  unfolding unlabelled emit_front
  front-none b = (rw b (record { emits = λ w. record { does = λ pool g. does-ok g (same_self w) } }), omega arith)

  pub front-zero : {out' : List ℕ} {r : Result ℕ Refusal} → labelled ≡ true → Puts put core (label (pos 0)) out out' r → Fronts put labelled out out' core r × Near core r
  unfolding unlabelled emit_front
  front-zero {out'} {r} b d = (rw b (record { emits = λ w. core-emits put w d }), near core (core + length (label (pos 0))) r (put_bytes put core (label (pos 0)) out) d.answer (omega (arith, label-most (pos 0))))

row_is : (put : Bool) (modes : ℕ) (held : ℕ → Held) (labelled : Bool) (b : Body) (p : Plan)
    → emit_event put modes held (unlabelled labelled b) p ≡ (emit_front put (unlabelled labelled nothing).front p >>= (λ q. emit_body put modes held b q))
unfolding unlabelled emit_event
row_is put modes held true b p = refl
row_is put modes held false b p = refl

module _ (put inline labelled : Bool) (k : ℕ) (bs w : List ℕ) {out out₁ : List ℕ} {core : ℕ} {r₁ : Result ℕ Refusal} (f : Fronts put labelled out out₁ core r₁) where
  pub event-stop : {n : Refusal} → r₁ ≡ Err n → EmitsEvent put inline w w out out₁ core (Err n) (unlabelled labelled (value k bs))
  event-stop q = record {
    emits = λ modes held i. record {
      does = λ pool g.
          along (row_is put modes held labelled (value k bs) (plan_of pool out w core)) (does-stop _ _ ((f.emits w).does pool g) q);
    };
  }

  pub event-value : {c : ℕ} {w' out₂ : List ℕ} {r : Result ℕ Refusal} → r₁ ≡ Ok c → Emits w w' out₁ out₂ c r (emit_bytes put inline k bs) → EmitsEvent put inline w w' out out₂ core r (unlabelled labelled (value k bs))
  unfolding emit_body
  event-value q d = record {
    emits = λ modes held i. record {
      does = λ pool g.
          let x = (f.emits w).does pool g in
          along (row_is put modes held labelled (value k bs) (plan_of pool out w core)) (does-then _ _ x q (rw i (d.does pool (does-done _ x q).ready)));
    };
  }
