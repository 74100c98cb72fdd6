-- A key's block: what the format does at it, in two steps, of which the first gives the block to the key if that touches it for the first time.
use Rattle.std.specs.Prelude.{◌≡◌, Bool, ℕ, eqb}
use Rattle.std.proofs.Math.Path.{refl, ap}
use Rattle.std.proofs.Common.{sym, ◌∙◌, arith, eq-eqb}
use Rattle.std.proofs.Math.Bool.{true, false}
use mathlib.Core.List.{List, [], ◌∷◌, ◌++◌}
use Rattle.std.proofs.Math.Option.{Option, none, some}
use Rattle.format.specs.Answer.{Answer, ok, refuse, ◌>>=◌}
use Rattle.format.specs.Read.{Source, State, at_key}
use Rattle.laws.specs.Facts.{ok-pair, absurd-ok, bind-then}
use Rattle.store.specs.Store.{lookup, change, put}
use Rattle.store.specs.Laws.{at-touched, at_new, at_none, lookup-append}

-- a block added behind those of other keys is the one that is put there next
put-append : {X : Type 0} (k : ℕ) (bs : List (ℕ × X)) (p q : X) → lookup k bs ≡ none → put k q (bs ++ (k, p) ∷ []) ≡ bs ++ (k, q) ∷ []
unfolding lookup change
put-append k [] p q e = rw (eq-eqb k k refl)
put-append {X} k (b ∷ bs) p q e = go (eqb b.0 k) refl (λ z. put-append k bs p q z)
  where
    go : (t : Bool) → eqb b.0 k ≡ t → (lookup k bs ≡ none → put k q (bs ++ (k, p) ∷ []) ≡ bs ++ (k, q) ∷ []) → put k q (b ∷ (bs ++ (k, p) ∷ [])) ≡ b ∷ (bs ++ (k, q) ∷ [])
    go true h ih = absurd (let z : ◌≡◌ {A = ℕ} 0 1 = cc (rw h at e) in omega arith)
    go false h ih = rw h (ap (λ l. b ∷ l) (ih (rw h at e)))

-- what was read is changed, or refused; and so is where the reading stands
abbrev pub then-read : {X Y P : Type 0} → (X → Answer Y) → X × P → Answer (Y × P)
then-read g r = g r.0 >>= (λ y. ok (y, r.1))

abbrev then-stands : {X P S : Type 0} → (P → S) → X × P → Answer (X × S)
then-stands f r = ok (r.0, f r.1)

either_first : {X Y P S : Type 0} (g : X → Answer Y) (f : P → S) (a : Answer (X × P)) → (a >>= then-read g >>= then-stands f) ≡ (a >>= then-stands f >>= then-read g)
unfolding ◌>>=◌
either_first g f (refuse e i) = refl
either_first g f (ok r) = sym (bind-then (g r.0) _ _ _ (λ y. refl))

module _ (A : Source) (k : ℕ) where
  -- a key that has a block keeps it, another takes the first that waits
  unfoldable pub given : Option A.Piece → List A.Piece → State A → Answer (A.Piece × State A)
  given (some p) ps s = ok (p, s)
  given none [] s = refuse 29 0
  given none (p ∷ ps) s = ok (p, record { core = s.core; blocks = s.blocks ++ (k, p) ∷ []; waiting = ps; literals = s.literals; rows = s.rows })

  unfoldable pub touch : State A → Answer (A.Piece × State A)
  touch s = given (lookup k s.blocks) s.waiting s

  abbrev pub put_block : A.Piece → State A → State A
  put_block q s = record { core = s.core; blocks = put k q s.blocks; waiting = s.waiting; literals = s.literals; rows = s.rows }

  given-has : (s s₁ : State A) (p : A.Piece) (o : Option A.Piece) (ps : List A.Piece) → lookup k s.blocks ≡ o → given o ps s ≡ ok (p, s₁) → lookup k s₁.blocks ≡ some p
  unfolding given
  given-has s s₁ p (some q) ps h e = let (a, b) = ok-pair e in rw (← b, h, a)
  given-has s s₁ p none [] h e = absurd-ok e
  given-has s s₁ p none (q ∷ ps) h e = let (a, b) = ok-pair e in rw (← b, lookup-append k s.blocks q h, a)

  pub touch-has : (s s₁ : State A) (p : A.Piece) → touch s ≡ ok (p, s₁) → lookup k s₁.blocks ≡ some p
  unfolding touch
  touch-has s s₁ p e = given-has s s₁ p (lookup k s.blocks) s.waiting refl e

  module _ {X : Type 0} (f : A.Piece → Answer (X × A.Piece)) (s : State A) where
    at-given : (o : Option A.Piece) (ps : List A.Piece) → lookup k s.blocks ≡ o → s.waiting ≡ ps
        → at_key A false k f s ≡ (given o ps s >>= (λ t. f t.0 >>= (λ r. ok (r.0, put_block r.1 t.1))))
    unfolding given at_key ◌>>=◌
    at-given (some p) ps h e = rw (at-touched A k f s.blocks s.waiting h) (sym (bind-then (f p) _ _ _ (λ r. refl)))
    at-given none [] h e = rw (e, at_none A k f s.blocks h)
    at-given none (q ∷ ps) h e = rw (e, at_new A k f s.blocks q ps h) (sym (bind-then (f q) _ _ _ (λ r. rw (put-append k s.blocks q r.1 h))))

    pub at-key : at_key A false k f s ≡ (touch s >>= (λ t. f t.0 >>= (λ r. ok (r.0, put_block r.1 t.1))))
    unfolding touch
    at-key = at-given (lookup k s.blocks) s.waiting refl refl

  -- what is read at a key may be changed, or refused, once it is read
  pub key-then : {X Y : Type 0} (f : A.Piece → Answer (X × A.Piece)) (g : X → Answer Y) (h : A.Piece → Answer (Y × A.Piece)) → ((p : A.Piece) → h p ≡ (f p >>= then-read g))
      → (b : Bool) (s : State A) → at_key A b k h s ≡ (at_key A b k f s >>= then-read g)
  unfolding at_key
  key-then f g h e true s = rw (e s.core) (either_first g _ (f s.core))
  key-then f g h e false s = at-key h s ∙ bind-then (touch s) _ _ _ (λ t. rw (e t.0) (either_first g _ (f t.0))) ∙ ap (λ a. a >>= then-read g) (sym (at-key f s))
