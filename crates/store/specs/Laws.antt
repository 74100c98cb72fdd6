-- Laws of the store for its callers: what stands under a key, and the format's steps at a key's block in these terms.
use Rattle.std.specs.Prelude.{◌≡◌, Bool, length, drop}
use Rattle.std.specs.Prelude as code
use Rattle.std.proofs.Math.Path.{refl}
use Rattle.std.proofs.Common.{sym, ap, ◌∙◌, arith}
use Rattle.std.proofs.Math.Bool.{true, false, cond}
use mathlib.Core.List.{List, [], ◌∷◌, ◌++◌}
use Rattle.std.proofs.Math.Option.{Option, none, some, some-injective}
use Prim.Native.Nat.{ℕ, zero, suc, ◌<◌, ◌≤◌}
use Rattle.std.proofs.Math.Dec.{eqb}
use borrow.Author.Tests.{eqb-true, eq-eqb, ne_eqb}
use Rattle.format.specs.Answer.{Answer, ok, refuse, ◌>>=◌}
use Rattle.format.specs.Read.{Source, Reading, at_block, nth}
use Rattle.format.specs.Write.{add_bytes}
use Rattle.laws.specs.Facts.{by-lt}
use Rattle.store.specs.Store.{lookup, change, put, move_to}
use Rattle.store.specs.Meaning.{reading, slot}
use Rattle.label.specs.declared.cursor.Cursor.{Cursor}

-- ---- what stands under a key

not_some : {X P : Type 0} {x : X} → ◌≡◌ {A = Option X} none (some x) → P
not_some {X} {P} {x} e = let z : ◌≡◌ {A = ℕ} 0 1 = cc in absurd (omega arith)

-- what is found is the first's, or is found in the others
found : {X P : Type 0} (k : ℕ) (b : ℕ × X) (bs : List (ℕ × X)) {x : X} → lookup k (b ∷ bs) ≡ some x
    → (eqb b.0 k ≡ true → b.1 ≡ x → P) → (eqb b.0 k ≡ false → lookup k bs ≡ some x → P) → P
unfolding lookup
found {X} {P} k b bs {x} e f g = go (eqb b.0 k) refl e
  where
    go : (t : Bool) → eqb b.0 k ≡ t → cond t (some b.1) (lookup k bs) ≡ some x → P
    go true q e = f q (some-injective b.1 x e)
    go false q e = g q e

missing : {X : Type 0} (k : ℕ) (b : ℕ × X) (bs : List (ℕ × X)) → lookup k (b ∷ bs) ≡ none → (eqb b.0 k ≡ false) × (lookup k bs ≡ none)
unfolding lookup
missing {X} k b bs e = go (eqb b.0 k) e
  where
    go : (t : Bool) → cond t (some b.1) (lookup k bs) ≡ none → (t ≡ false) × (lookup k bs ≡ none)
    go true e = not_some (sym e)
    go false e = (refl, e)

module _ {X : Type 0} (k : ℕ) where
  pub change-put : (f : X → X) (bs : List (ℕ × X)) {x : X} → lookup k bs ≡ some x → change k f bs ≡ put k (f x) bs
  unfolding change
  change-put f [] e = refl
  change-put f (b ∷ bs) e = found k b bs e (λ t q. rw (t, q)) (λ t q. rw (t, change-put f bs q))

  pub lookup-put : (bs : List (ℕ × X)) (x : X) {y : X} → lookup k bs ≡ some y → lookup k (put k x bs) ≡ some x
  unfolding lookup change
  lookup-put [] x e = not_some e
  lookup-put (b ∷ bs) x e = found k b bs e (λ t q. rw (t, eq-eqb k k refl)) (λ t q. rw (t, t) (lookup-put bs x q))

  pub lookup-append : (bs : List (ℕ × X)) (x : X) → lookup k bs ≡ none → lookup k (bs ++ (k, x) ∷ []) ≡ some x
  unfolding lookup
  lookup-append [] x e = rw (eq-eqb k k refl)
  lookup-append (b ∷ bs) x e = let m = missing k b bs e in rw m.0 (lookup-append bs x m.1)

-- a slot moved on has another `at` alone
pub move-put : (k n : ℕ) (bs : List (ℕ × Reading)) {p : Reading} → lookup k bs ≡ some p → move_to k n bs ≡ put k (record { at = n; end = p.end }) bs
move-put k n bs e = change-put k (λ p. record { at = n; end = p.end }) bs e

-- the other keys keep what they have
module _ {X : Type 0} (k j : ℕ) (o : j ≡ k → ⊥) where
  pub lookup-append-other : (bs : List (ℕ × X)) (x : X) → lookup j (bs ++ (k, x) ∷ []) ≡ lookup j bs
  unfolding lookup
  lookup-append-other [] x = rw (ne_eqb k j (λ e. o (sym e)))
  lookup-append-other (b ∷ bs) x = rw (lookup-append-other bs x)

  pub lookup-change-other : (f : X → X) (bs : List (ℕ × X)) → lookup j (change k f bs) ≡ lookup j bs
  unfolding lookup change
  lookup-change-other f [] = refl
  lookup-change-other f (b ∷ bs) = go (eqb b.0 k) refl (lookup-change-other f bs)
    where
      go : (t : Bool) → eqb b.0 k ≡ t → lookup j (change k f bs) ≡ lookup j bs
          → lookup j (cond t ((k, f b.1) ∷ bs) (b ∷ change k f bs)) ≡ cond (eqb b.0 j) (some b.1) (lookup j bs)
      go true q r = rw (eqb-true b.0 k q, ne_eqb k j (λ e. o (sym e)))
      go false q r = rw r

-- ---- the format's steps at a key's block

bind_ok : {A B C : Type 0} (a : Answer A) (f : A → B) (g : B → Answer C) → (a >>= (λ x. ok (f x)) >>= g) ≡ (a >>= (λ x. g (f x)))
unfolding ◌>>=◌
bind_ok (ok x) f g = refl
bind_ok (refuse r i) f g = refl

module _ (A : Source) {X : Type 0} (k : ℕ) (f : A.Piece → Answer (X × A.Piece)) where
  -- the key was touched before
  pub at-touched : (bs : List (ℕ × A.Piece)) (ps : List A.Piece) {p : A.Piece} → lookup k bs ≡ some p
      → at_block A k f bs ps ≡ (f p >>= (λ r. ok (r.0, put k r.1 bs, ps)))
  unfolding lookup change at_block
  at-touched [] ps e = not_some e
  at-touched (b ∷ bs) ps {p} e = found k b bs e (λ t q. rw (t, q)) (λ t q. rw (t, at-touched bs ps q) (bind_ok (f p) _ _))

  -- it is touched now for the first time, and takes the next block
  pub at_new : (bs : List (ℕ × A.Piece)) (p : A.Piece) (ps : List A.Piece) → lookup k bs ≡ none
      → at_block A k f bs (p ∷ ps) ≡ (f p >>= (λ r. ok (r.0, bs ++ (k, r.1) ∷ [], ps)))
  unfolding at_block
  at_new [] p ps e = refl
  at_new (b ∷ bs) p ps e = let m = missing k b bs e in rw (m.0, at_new bs p ps m.1) (bind_ok (f p) _ _)

  -- no block is left for it
  pub at_none : (bs : List (ℕ × A.Piece)) → lookup k bs ≡ none → at_block A k f bs [] ≡ refuse 29 0
  unfolding at_block ◌>>=◌
  at_none [] e = refl
  at_none (b ∷ bs) e = let m = missing k b bs e in rw (m.0, at_none bs m.1)

module _ (k : ℕ) (v : List ℕ) where
  pub bytes-touched : (bs : List (ℕ × List ℕ)) {u : List ℕ} → lookup k bs ≡ some u → add_bytes k v bs ≡ put k (u ++ v) bs
  unfolding lookup change add_bytes
  bytes-touched [] e = not_some e
  bytes-touched (b ∷ bs) e = found k b bs e (λ t q. rw (t, q)) (λ t q. rw (t, bytes-touched bs q))

  pub bytes-new : (bs : List (ℕ × List ℕ)) → lookup k bs ≡ none → add_bytes k v bs ≡ bs ++ (k, v) ∷ []
  unfolding add_bytes
  bytes-new [] e = refl
  bytes-new (b ∷ bs) e = let m = missing k b bs e in rw (m.0, bytes-new bs m.1)

-- ---- what `find` answered

module _ {r : code.Option Cursor} {o : Option Reading} (e : slot r ≡ o) where
  pub is_none : r ≡ code.None → o ≡ none
  is_none q = sym e ∙ ap (λ (s : code.Option Cursor). slot s) q

  pub is-some : {p : Cursor} → r ≡ code.Some p → o ≡ some (reading p)
  is-some q = sym e ∙ ap (λ (s : code.Option Cursor). slot s) q

-- ---- the j-th of a list

module _ {X : Type 0} where
  pub nth_beyond : (xs : List X) (j : ℕ) → length xs ≤ j → nth xs j ≡ none
  unfolding nth
  nth_beyond [] j h = refl
  nth_beyond (x ∷ xs) zero h = absurd (omega arith)
  nth_beyond (x ∷ xs) (suc j) h = nth_beyond xs j (omega arith)

  pub nth-below : (xs : List X) (j : ℕ) {x : X} → nth xs j ≡ some x → j < length xs
  nth-below xs j e = by-lt j (length xs) (λ h. h) (λ h. not_some (sym (nth_beyond xs j h) ∙ e))

  pub nth-there : {P : Type 0} (xs : List X) (j : ℕ) → j < length xs → ((x : X) → nth xs j ≡ some x → P) → P
  unfolding nth
  nth-there [] j h f = absurd (omega arith)
  nth-there (x ∷ xs) zero h f = f x refl
  nth-there (x ∷ xs) (suc j) h f = nth-there xs j (omega arith) f

  pub drop_nth : (xs : List X) (j : ℕ) {x : X} → nth xs j ≡ some x → drop j xs ≡ x ∷ drop (suc j) xs
  unfolding nth
  drop_nth [] j e = not_some e
  drop_nth (y ∷ ys) zero {x} e = rw (some-injective y x e)
  drop_nth (y ∷ ys) (suc j) e = drop_nth ys j e
