-- Laws of the steps of a walk: a refusal, an end, one step after another, and a row before the rest.
use Rattle.std.specs.Prelude.{◌≡◌, refl, Bool, true, false, cond, ℕ, ◌+◌, ◌-◌, ◌*◌, ◌<◌, ◌≤◌, ltb, length, Result, Ok, Err}
use Rattle.std.proofs.Common.{sym, ap, ◌∙◌, add-zero, arith, length-append, ltb-true, ltb-false, lt-ltb, le-ltb}
use Rattle.std.proofs.Math.Path.{subst}
use mathlib.Core.List.{List, [], ◌∷◌, ◌++◌, append_assoc, append-nil}
use Rattle.std.proofs.lemmas.List.Edits.{sets}
use Rattle.format.specs.Answer.{Answer, ok, refuse, ◌>>=◌, need_at, ◌>>◌}
use Rattle.format.specs.Refusal.{answered, refused, second_of}
use Rattle.format.specs.Row.{Place, Says, Row, row, row_words, words, row_width}
use Rattle.format.specs.Read.{in_message, State, take_row, one_row}
use Rattle.laws.specs.Facts.{absurd-ok}
use Rattle.laws.specs.Lists.{sets-append}
use Rattle.laws.specs.Rows.{words-length}
use Rattle.label.specs.declared.cursor.Cursor.{Cursor}
use Rattle.read_pieces.specs.Pieces.{Inside}
use Rattle.store.specs.Same.{Same, same_self, same_then}
use Rattle.format.specs.declared.refusal.Refusal.{Refusal}
use Rattle.format.specs.declared.refusal.Refusal.TheVariants.{ManyRows}
use Rattle.read_leaf.specs.declared.Progress.{Progress}
use Rattle.read_leaf.specs.Push.{put_of, put_in}
use Rattle.read_leaf.specs.State.{progress, cursor_of, step_of, Ready, state_of, Holds, Does}

-- ---- rows that stand one after another

pub words_append : (rs ss : List (Row Place)) → words (rs ++ ss) ≡ words rs ++ words ss
unfolding words
words_append [] ss = refl
words_append (r ∷ rs) ss = rw (words_append rs ss) (sym (append_assoc (row_words r) (words rs) (words ss)))

pub rows_append : (l : List ℕ) (n : ℕ) (rs ss : List (Row Place)) → sets (sets l (row_width * n) (words rs)) (row_width * (n + length rs)) (words ss) ≡ sets l (row_width * n) (words (rs ++ ss))
rows_append l n rs ss =
    let e : row_width * (n + length rs) ≡ row_width * n + length (words rs) = omega (arith, words-length rs) in
    rw (e, words_append) (sets-append l (row_width * n) (words rs) (words ss))

-- ---- what a step does

pub along : {m w w' l l' : List ℕ} {most n : ℕ} {r : Result Progress Refusal} {a a' : Answer (List (Row Place) × State (in_message m))} → a ≡ a' → Does m most w w' n l l' r a' → Does m most w w' n l l' r a
along {m} {w} {w'} {l} {l'} {most} {n} {r} e d = subst (λ x. Does m most w w' n l l' r x) (sym e) d

pub refuses-after : {m w w' l l' : List ℕ} {most n : ℕ} (e : Refusal) → second_of e ≡ 0 → Same w w' → Does m most w w' n l l' (Err e) (refused e)
refuses-after e z k = record { answer = refl; left = (z, k) }

-- at once, with the work as it was
pub refuses : {m w l l' : List ℕ} {most n : ℕ} (e : Refusal) → second_of e ≡ 0 → Does m most w w n l l' (Err e) (refused e)
refuses {w = w} e z = refuses-after e z (same_self w)

pub holds_then : {m w w₁ w₂ : List ℕ} {most n : ℕ} {s : State (in_message m)} → Same w w₁ → Holds m most w₁ w₂ n s → Holds m most w w₂ n s
holds_then a h = record { state = h.state; ready = h.ready; inside = h.inside; same = same_then a h.same }

pub ends : {m w l : List ℕ} (most n : ℕ) (c : Cursor) → Ready m w → Inside m c → Does m most w w n l l (Ok (progress c n)) (ok ([], state_of m most w c n))
unfolding words
ends {w = w} most n c g i = record { answer = simp add-zero; left = (refl, record { state = simp add-zero; ready = g; inside = i; same = same_self w }, λ h. omega arith) }

-- the rows rs stand in the buffer, and a does the rest
after-does : {m w w₁ w₂ l l₁ l₂ : List ℕ} {most n : ℕ} {r : Result Progress Refusal} (rs : List (Row Place)) (a : Answer (List (Row Place) × State (in_message m)))
    → l₁ ≡ sets l (row_width * n) (words rs) → (n ≤ most → n + length rs ≤ most) → Same w w₁ → Does m most w₁ w₂ (n + length rs) l₁ l₂ r a → Does m most w w₂ n l l₂ r (a >>= (λ y. ok (rs ++ y.0, y.1)))
unfolding ◌>>=◌
after-does {m} {w} {w₁} {w₂} {l} {l₁} {l₂} {most} {n} rs (ok y) e b k d =
    let s : n + length rs + length y.0 ≡ n + length (rs ++ y.0) = omega (arith, length-append rs y.0) in
    record {
      answer = d.answer ∙ ap (λ i. ok (progress (cursor_of y.1.core) i)) s;
      left = (d.left.0 ∙ rw (e, rows_append l n rs y.0), holds_then k (subst (λ i. Holds m most w₁ w₂ i y.1) s d.left.1), λ h. omega (arith, d.left.2 (b h)));
    }
after-does rs (refuse e i) q b k d = record { answer = d.answer; left = (d.left.0, same_then k d.left.1) }

-- what was done, as the definition answers it
step-is : {m w w' l l' : List ℕ} {most n : ℕ} {r : Result Progress Refusal} {p : Progress} (a : Answer (List (Row Place) × State (in_message m))) → Does m most w w' n l l' r a → r ≡ Ok p → step_of n a ≡ ok p
step-is a d q = sym d.answer ∙ ap answered q

-- one step after another
pub seqs : {m w w₁ w₂ l l₁ l₂ : List ℕ} {most n : ℕ} {p : Progress} {r r₁ : Result Progress Refusal} (a : Answer (List (Row Place) × State (in_message m))) (g : State (in_message m) → Answer (List (Row Place) × State (in_message m)))
    → Does m most w w₁ n l l₁ r₁ a → r₁ ≡ Ok p → Does m most w₁ w₂ p.rows l₁ l₂ r (g (state_of m most w₁ p.core p.rows))
    → Does m most w w₂ n l l₂ r (a >>= (λ x. g x.1 >>= (λ y. ok (x.0 ++ y.0, y.1))))
unfolding ◌>>=◌
seqs (refuse e i) g d q d₂ = absurd-ok (step-is (refuse e i) d q)
seqs {m} {w} {w₁} {w₂} {l} {l₁} {l₂} {most} {n} {p} {r} (ok x) g d q d₂ =
    let p₁ : Progress = progress (cursor_of x.1.core) (n + length x.0) in
    let e : p ≡ p₁ = cc (step-is (ok x) d q) in
    let d₃ : Does m most w₁ w₂ (n + length x.0) l₁ l₂ r (g (state_of m most w₁ p₁.core p₁.rows)) = subst (λ (y : Progress). Does m most w₁ w₂ y.rows l₁ l₂ r (g (state_of m most w₁ y.core y.rows))) e d₂ in
    let d₄ : Does m most w₁ w₂ (n + length x.0) l₁ l₂ r (g x.1) = subst (λ (s : State (in_message m)). Does m most w₁ w₂ (n + length x.0) l₁ l₂ r (g s)) d.left.1.state d₃ in
    after-does x.0 (g x.1) d.left.0 d.left.2 d.left.1.same d₄

-- whatever is done after a refusal
pub seqs-not : {m w w₁ l l₁ : List ℕ} {most n : ℕ} {e : Refusal} {r : Result Progress Refusal} (a : Answer (List (Row Place) × State (in_message m))) (f : List (Row Place) × State (in_message m) → Answer (List (Row Place) × State (in_message m)))
    → Does m most w w₁ n l l₁ r a → r ≡ Err e → Does m most w w₁ n l l₁ r (a >>= f)
unfolding ◌>>=◌
seqs-not (refuse e i) f d q = record { answer = d.answer; left = d.left }
seqs-not (ok x) f d q = absurd-ok (sym (ap answered q) ∙ d.answer)

-- what a step that is done has left
module _ {m w w' l l' : List ℕ} {most n : ℕ} {p : Progress} {r : Result Progress Refusal} where
  done-holds : (a : Answer (List (Row Place) × State (in_message m))) → Does m most w w' n l l' r a → r ≡ Ok p → Ready m w' × Inside m p.core × Same w w'
  done-holds (ok x) d q =
      let c₁ : Cursor = cursor_of x.1.core in
      let e : c₁ ≡ p.core = cc (step-is (ok x) d q) in
      (d.left.1.ready, subst (λ (y : Cursor). Inside m y) e d.left.1.inside, d.left.1.same)
  done-holds (refuse e i) d q = absurd-ok (step-is (refuse e i) d q)

  pub done-ready : (a : Answer (List (Row Place) × State (in_message m))) → Does m most w w' n l l' r a → r ≡ Ok p → Ready m w'
  done-ready a d q = (done-holds a d q).0

  pub done-inside : (a : Answer (List (Row Place) × State (in_message m))) → Does m most w w' n l l' r a → r ≡ Ok p → Inside m p.core
  done-inside a d q = (done-holds a d q).1

  pub done-same : (a : Answer (List (Row Place) × State (in_message m))) → Does m most w w' n l l' r a → r ≡ Ok p → Same w w'
  done-same a d q = (done-holds a d q).2

-- ---- a row, and then the rest

room : {n n₁ most : ℕ} {q : Result ℕ Refusal} → q ≡ put_of most n → q ≡ Ok n₁ → (n < most) × (n₁ ≡ n + 1)
room {n} {n₁} {most} h q = go (ltb n most) refl (sym h ∙ q)
  where
    go : (b : Bool) → ltb n most ≡ b → cond b (Ok (n + 1)) (Err ManyRows) ≡ Ok n₁ → (n < most) × (n₁ ≡ n + 1)
    go true e z = (ltb-true n most e, cc)
    go false e z = let z₁ : ◌≡◌ {A = ℕ} 0 1 = cc in absurd (omega arith)

full : {n most : ℕ} {e : Refusal} {q : Result ℕ Refusal} → q ≡ put_of most n → q ≡ Err e → (most ≤ n) × (ManyRows ≡ e)
full {n} {most} {e} h q = go (ltb n most) refl (sym h ∙ q)
  where
    go : (b : Bool) → ltb n most ≡ b → cond b (Ok (n + 1)) (Err ManyRows) ≡ Err e → (most ≤ n) × (ManyRows ≡ e)
    go true l z = let z₁ : ◌≡◌ {A = ℕ} 0 1 = cc in absurd (omega arith)
    go false l z = (ltb-false n most l, cc)

taken : (m w : List ℕ) (most n : ℕ) (c : Cursor) → n < most → take_row (in_message m) (state_of m most w c n) ≡ ok (state_of m most w c (n + 1))
unfolding take_row need_at ◌>>◌
taken m w most n c h =
    let h₁ : 0 < most - n = omega arith in
    let e : most - n - 1 ≡ most - (n + 1) = omega arith in
    rw (lt-ltb 0 (most - n) h₁, e)

taken_not : (m w : List ℕ) (most n : ℕ) (c : Cursor) → most ≤ n → take_row (in_message m) (state_of m most w c n) ≡ refuse 31 0
unfolding take_row need_at ◌>>◌
taken_not m w most n c h =
    let h₁ : most - n ≤ 0 = omega arith in
    rw (le-ltb 0 (most - n) h₁)

stored : (l l₁ ws : List ℕ) (most n : ℕ) (x : Row Place) → l₁ ≡ put_in most l n ws → row_words x ≡ ws → n < most → l₁ ≡ sets l (row_width * n) (words (x ∷ []))
unfolding words
stored l l₁ ws most n x e q h = e ∙ simp (lt-ltb n most h, ← q, append-nil)

-- q is the answer of putting the row x, and l₁ what is then in the buffer
module _ {m w w₂ l l₁ l₂ ws : List ℕ} {most n n₁ : ℕ} {c : Cursor} {r : Result Progress Refusal} {q : Result ℕ Refusal} (x : Row Place) (g : State (in_message m) → Answer (List (Row Place) × State (in_message m))) where
  pub pushes : q ≡ put_of most n → l₁ ≡ put_in most l n ws → q ≡ Ok n₁ → row_words x ≡ ws → Does m most w w₂ n₁ l₁ l₂ r (g (state_of m most w c n₁))
      → Does m most w w₂ n l l₂ r (take_row (in_message m) (state_of m most w c n) >>= (λ s. g s >>= (λ y. ok (x ∷ y.0, y.1))))
  unfolding ◌>>=◌
  pushes h s z v d =
      let (b, e) = room h z in
      let d₁ : Does m most w w₂ (n + 1) l₁ l₂ r (g (state_of m most w c (n + 1))) = subst (λ (i : ℕ). Does m most w w₂ i l₁ l₂ r (g (state_of m most w c i))) e d in
      along (ap (λ a. a >>= (λ s. g s >>= (λ y. ok (x ∷ y.0, y.1)))) (taken m w most n c b)) (after-does (x ∷ []) (g (state_of m most w c (n + 1))) (stored l l₁ ws most n x s v b) (λ h. omega arith) (same_self w) d₁)

pub push-not : {m w l l₁ : List ℕ} {most n : ℕ} {e : Refusal} {q : Result ℕ Refusal} (c : Cursor) (f : State (in_message m) → Answer (List (Row Place) × State (in_message m))) → q ≡ put_of most n → q ≡ Err e
    → Does m most w w n l l₁ (Err e) (take_row (in_message m) (state_of m most w c n) >>= f)
unfolding ◌>>=◌
push-not {m} {w} {most = most} {n} c f h z =
    let (b, v) = full h z in
    rw (← v) (along (ap (λ a. a >>= f) (taken_not m w most n c b)) (refuses ManyRows refl))

-- a row and no more
module _ {m w l l₁ : List ℕ} {most n : ℕ} {q : Result ℕ Refusal} (c : Cursor) (i : ℕ) (x : Says Place) where
  pub row_put : {ws : List ℕ} {n₁ : ℕ} → Ready m w → Inside m c → q ≡ put_of most n → l₁ ≡ put_in most l n ws → q ≡ Ok n₁ → row_words (row i x) ≡ ws → Does m most w w n l l₁ (Ok (progress c n₁)) (one_row (in_message m) i x (state_of m most w c n))
  unfolding one_row ◌>>=◌
  row_put {n₁ = n₁} g a h s z v = pushes (row i x) (λ s. ok ([], s)) h s z v (ends most n₁ c g a)

  pub row-not : {e : Refusal} → q ≡ put_of most n → q ≡ Err e → Does m most w w n l l₁ (Err e) (one_row (in_message m) i x (state_of m most w c n))
  unfolding one_row
  row-not h z = push-not c (λ s. ok (row i x ∷ [], s)) h z
