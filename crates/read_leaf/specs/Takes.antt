-- Laws of steps that read something and write no row: how one follows another, and a step of the walk follows one.
use Rattle.std.specs.Prelude.{◌≡◌, refl, List, ℕ, Result, Err}
use Rattle.std.proofs.Common.{sym, ap, ap₂, ◌∙◌, subst}
use Rattle.format.specs.Answer.{Answer, ok, refuse, ◌>>=◌}
use Rattle.format.specs.Refusal.{refused}
use Rattle.format.specs.Row.{Place, Row}
use Rattle.format.specs.Read.{in_message, State}
use Rattle.laws.specs.Facts.{ok-pair, absurd-ok}
use Rattle.label.specs.declared.cursor.Cursor.{Cursor}
use Rattle.read_pieces.specs.Pieces.{Inside}
use Rattle.store.specs.Same.{Same, same_self, same_then}
use Rattle.format.specs.declared.refusal.Refusal.{Refusal}
use Rattle.read_leaf.specs.declared.Progress.{Progress}
use Rattle.read_leaf.specs.State.{Ready, state_of, Does, Took}
use Rattle.read_leaf.specs.Does.{along, refuses-after, holds_then}

module _ {X : Type 0} {m : List ℕ} {most n : ℕ} where
  pub took-along : {w w' : List ℕ} {r : Answer (X × Cursor)} {a a' : Answer (X × State (in_message m))} → a ≡ a' → Took m most w w' n r a' → Took m most w w' n r a
  took-along {w} {w'} {r} e d = subst (λ x. Took m most w w' n r x) (sym e) d

  pub took-refuses : {w : List ℕ} (e : ℕ) → Took {X = X} m most w w n (refuse e 0) (refuse e 0)
  took-refuses {w} e = record { answer = refl; left = (refl, same_self w) }

  pub took-ends : {w : List ℕ} (x : X) (c : Cursor) → Ready m w → Inside m c → Took m most w w n (ok (x, c)) (ok (x, state_of m most w c n))
  took-ends {w} x c g i = record { answer = refl; left = record { state = refl; ready = g; inside = i; same = same_self w } }

  -- what was read, and the state that the work then holds
  module _ {w w₁ : List ℕ} {r : Answer (X × Cursor)} where
    pub took-is : {x : X} {c : Cursor} (a : Answer (X × State (in_message m))) → Took m most w w₁ n r a → r ≡ ok (x, c) → a ≡ ok (x, state_of m most w₁ c n)
    took-is (ok y) t q =
        let (e, k) = ok-pair (sym q ∙ t.answer) in
        ap₂ (λ (z : X) (s : State (in_message m)). ok (z, s)) (sym e) (sym t.left.state ∙ ap (λ d. state_of m most w₁ d n) (sym k))
    took-is (refuse e i) t q = absurd-ok (sym t.answer ∙ q)

    pub took-not : {e i : ℕ} (a : Answer (X × State (in_message m))) → Took m most w w₁ n r a → r ≡ refuse e i → a ≡ refuse e i
    took-not (ok y) t q = absurd-ok (sym q ∙ t.answer)
    took-not (refuse e i) t q = sym (cc t.answer)

    -- it has no second number
    pub took-second : {e i : ℕ} (a : Answer (X × State (in_message m))) → Took m most w w₁ n r a → r ≡ refuse e i → i ≡ 0
    took-second (ok y) t q = absurd-ok (sym q ∙ t.answer)
    took-second {e} {i} (refuse e₁ i₁) t q =
        let z : i ≡ i₁ = cc (sym q ∙ t.answer) in
        z ∙ t.left.0

    -- a refusal leaves the caller's words too
    pub took-left : {e i : ℕ} (a : Answer (X × State (in_message m))) → Took m most w w₁ n r a → r ≡ refuse e i → Same w w₁
    took-left (ok y) t q = absurd-ok (sym q ∙ t.answer)
    took-left (refuse e i) t q = t.left.1

    took-kept : {x : X} {c : Cursor} (a : Answer (X × State (in_message m))) → Took m most w w₁ n r a → r ≡ ok (x, c) → Ready m w₁ × Inside m c × Same w w₁
    took-kept (ok y) t q =
        let (e, k) = ok-pair (sym q ∙ t.answer) in
        (t.left.ready, subst (λ (d : Cursor). Inside m d) (sym k) t.left.inside, t.left.same)
    took-kept (refuse e i) t q = absurd-ok (sym t.answer ∙ q)

    pub took-ready : {x : X} {c : Cursor} (a : Answer (X × State (in_message m))) → Took m most w w₁ n r a → r ≡ ok (x, c) → Ready m w₁
    took-ready a t q = (took-kept a t q).0

    pub took-inside : {x : X} {c : Cursor} (a : Answer (X × State (in_message m))) → Took m most w w₁ n r a → r ≡ ok (x, c) → Inside m c
    took-inside a t q = (took-kept a t q).1

    pub took-same : {x : X} {c : Cursor} (a : Answer (X × State (in_message m))) → Took m most w w₁ n r a → r ≡ ok (x, c) → Same w w₁
    took-same a t q = (took-kept a t q).2

-- what was held before is not asked for afterwards, but for the caller's words
does-from : {m w w₁ w₂ l l₂ : List ℕ} {most n : ℕ} {r : Result Progress Refusal} (a : Answer (List (Row Place) × State (in_message m))) → Same w w₁ → Does m most w₁ w₂ n l l₂ r a → Does m most w w₂ n l l₂ r a
does-from (ok x) k d = record { answer = d.answer; left = (d.left.0, holds_then k d.left.1, d.left.2) }
does-from (refuse e i) k d = record { answer = d.answer; left = (d.left.0, same_then k d.left.1) }

took_from : {X : Type 0} {m w w₁ w₂ : List ℕ} {most n : ℕ} {r : Answer (X × Cursor)} (a : Answer (X × State (in_message m))) → Same w w₁ → Took m most w₁ w₂ n r a → Took m most w w₂ n r a
took_from (ok x) k t = record { answer = t.answer; left = holds_then k t.left }
took_from (refuse e i) k t = record { answer = t.answer; left = (t.left.0, same_then k t.left.1) }

module _ {X : Type 0} {m w w₁ : List ℕ} {most n : ℕ} {r₁ : Answer (X × Cursor)} (a : Answer (X × State (in_message m))) (t : Took m most w w₁ n r₁ a) where
  -- a step of the walk after it
  pub then-does : {w₂ l l₂ : List ℕ} {x : X} {c : Cursor} {r : Result Progress Refusal} (f : X × State (in_message m) → Answer (List (Row Place) × State (in_message m)))
      → r₁ ≡ ok (x, c) → Does m most w₁ w₂ n l l₂ r (f (x, state_of m most w₁ c n)) → Does m most w w₂ n l l₂ r (a >>= f)
  unfolding ◌>>=◌
  then-does f q d = along (ap (λ b. b >>= f) (took-is a t q)) (does-from _ (took-same a t q) d)

  pub then-refuses : {l l₂ : List ℕ} {e : Refusal} (f : X × State (in_message m) → Answer (List (Row Place) × State (in_message m)))
      → r₁ ≡ refused e → Does m most w w₁ n l l₂ (Err e) (a >>= f)
  unfolding ◌>>=◌
  then-refuses {e = e} f q = along (ap (λ b. b >>= f) (took-not a t q)) (refuses-after e (took-second a t q) (took-left a t q))

  -- another that reads after it
  pub then-takes : {Y : Type 0} {w₂ : List ℕ} {x : X} {c : Cursor} {r : Answer (Y × Cursor)} (f : X × State (in_message m) → Answer (Y × State (in_message m)))
      → r₁ ≡ ok (x, c) → Took m most w₁ w₂ n r (f (x, state_of m most w₁ c n)) → Took m most w w₂ n r (a >>= f)
  unfolding ◌>>=◌
  then-takes f q d = took-along (ap (λ b. b >>= f) (took-is a t q)) (took_from _ (took-same a t q) d)

  pub then-takes-not : {Y : Type 0} {e i : ℕ} (f : X × State (in_message m) → Answer (Y × State (in_message m)))
      → r₁ ≡ refuse e i → Took m most w w₁ n (refuse e i) (a >>= f)
  unfolding ◌>>=◌
  then-takes-not f q = took-along (ap (λ b. b >>= f) (took-not a t q)) (record { answer = refl; left = (took-second a t q, took-left a t q) })
