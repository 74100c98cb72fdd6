-- Texts: what is kept of a literal, and the two ways to write a text.
use mathlib.Core.Path.{◌≡◌, refl, sym, ap, ◌∙◌}
use mathlib.Core.Bool.{Bool, true, false}
use mathlib.Core.List.{List, [], ◌∷◌, ◌++◌, map, map-append}
use mathlib.Core.Option.{Option, none, some}
use Prim.Native.Nat.{ℕ, zero, suc, ◌+◌, ◌<◌, ◌≤◌}
use native.Mathlib.Omega.{arith}
use lib.Dec.{eqb}
use lib.IntN.{pos}
use lib.ListN.{length, get_or, length-map, get_or-map}
use Rattle.std.specs.Prelude.{Result, Ok, Err}
use borrow.Author.Tests.{lt-ltb, le-ltb, eqb-true, eqb-false}
use Rattle.format.specs.Answer.{Answer, ok, refuse, ◌>>=◌}
use Rattle.format.specs.Label.{label}
use Rattle.format.specs.Table.{Held}
use Rattle.format.specs.Row.{Place, Text, bytes_at}
use Rattle.format.specs.Read.{add_at, total, number_label, is_numbered, ending}
use Rattle.format.specs.Write.{text, choose, first_equal}
use Rattle.store.specs.Store.{lookup}
use Rattle.write_literals.specs.Store.{Literal, Store, added, overfull}
use Rattle.write_literals.specs.Words.{store_of, Good, Changes}
use Rattle.laws.specs.Facts.{absurd-bool, absurd-ok, ok_same, by_bool, by-lt}
use Rattle.theory.specs.Lists.{add-here, add-elsewhere}
use Rattle.write_passes.specs.Plan.{Plan, emit_literal, emit_core, emit_slot, emit_bytes, emit_front, emit_choice, emit_text, emit_body, emit_event}
use Rattle.write_passes.specs.Laws.{slot-new, slot-none, literal-plain, literal-kept, literal-over}
use Rattle.write_search.specs.Search.{text_of, texts_of, AreLiterals, KeepsText, number, last-stands}
use Rattle.write_search.specs.Parts.{part_length}
use Rattle.write_search.specs.declared.Found.{Found}
use Rattle.write_search.specs.declared.Found.TheVariants.{Number, Nothing}
use Rattle.format.specs.declared.refusal.Refusal.{Refusal}
use Rattle.write_bytes.specs.State.{plan_in, plan_of, Ready, Does, Emits, Puts}
use Rattle.write_bytes.specs.Does.{along, does-ok, does-done, does-then, does-stop, core-emits}
use Rattle.write_bytes.specs.Text.{kept, EmitsText}

-- ---- what is kept of a literal

module _ (k : ℕ) (x : Literal) (s : Store) where
  kept-over : 4096 ≤ total s.literals → kept true k x s ≡ overfull s
  unfolding kept
  kept-over h = rw (le-ltb _ _ h, kept)

  kept_more : total s.literals < 4096 → kept true k x s ≡ added k x s
  unfolding kept
  kept_more h = rw (lt-ltb _ _ h, kept)

module _ (numbered : Bool) (k : ℕ) (x : Literal) {w : List ℕ} where
  pub keeps-none : numbered ≡ false → Good w → Changes w w (kept numbered k x)
  unfolding kept
  keeps-none b g = rw b (record { good = g; store = refl; size = refl; outside = λ i h. refl })

  keeps-by : {w' : List ℕ} {f : Store → Store} → numbered ≡ true → kept true k x (store_of w) ≡ f (store_of w) → Changes w w' f → Changes w w' (kept numbered k x)
  keeps-by b e c = rw b (record { good = c.good; store = c.store ∙ sym e; size = c.size; outside = c.outside })

  pub keeps-over : {w' : List ℕ} → numbered ≡ true → 4096 ≤ total (store_of w).literals → Changes w w' overfull → Changes w w' (kept numbered k x)
  keeps-over b h c = keeps-by b (kept-over k x (store_of w) h) c

  pub keeps-more : {w' : List ℕ} → numbered ≡ true → total (store_of w).literals < 4096 → Changes w w' (added k x) → Changes w w' (kept numbered k x)
  keeps-more b h c = keeps-by b (kept_more k x (store_of w) h) c

-- the literals as texts
module _ {A B : Type 0} (f : A → B) where
  total-map : (ls : List (List A)) → total (map (λ l. map f l) ls) ≡ total ls
  unfolding total
  total-map [] = refl
  total-map (l ∷ ls) = rw (length-map l f, total-map ls)

  add-map : (k : ℕ) (x : A) (ls : List (List A)) → map (λ l. map f l) (add_at k x ls) ≡ add_at k (f x) (map (λ l. map f l) ls)
  unfolding add_at
  add-map zero x [] = refl
  add-map zero x (l ∷ ls) = rw (map-append f l (x ∷ []))
  add-map (suc k) x [] = ap (λ ls. [] ∷ ls) (add-map k x [])
  add-map (suc k) x (l ∷ ls) = ap (λ ls. map f l ∷ ls) (add-map k x ls)

module _ (pool : List ℕ) (k : ℕ) (x : Literal) where
  literal-is : (out : List ℕ) (core : ℕ) (numbered : Bool) (s : Store) {v : Text} → (numbered ≡ true → text_of pool x ≡ v) → plan_in pool out core (kept numbered k x s) ≡ emit_literal numbered k v (plan_in pool out core s)
  unfolding kept
  literal-is out core false s {v} e = sym (literal-plain k v (plan_in pool out core s))
  literal-is out core true s e =
      let t = total-map (text_of pool) s.literals in
      rw (← e refl) (by-lt (total s.literals) 4096
      (λ h. rw (kept_more k x s h, literal-kept k (text_of pool x) (plan_in pool out core s) (omega arith), add-map (text_of pool) k x s.literals))
      (λ h. rw (kept-over k x s h, literal-over k (text_of pool x) (plan_in pool out core s) (omega arith))))

  module _ (p : Place) (given : p.start + p.size ≤ length pool) where
    inside-added : (ls : List (List Literal)) → KeepsText pool (texts_of pool (get_or ls k [])) p x → AreLiterals pool ls → AreLiterals pool (add_at k x ls)
    inside-added ls kp h = record {
      inside = λ i j y e. by_bool (eqb k i)
          (λ t. let q : k ≡ i = eqb-true k i t in rw (← q, add-here k x ls) (last-stands pool (get_or ls k []) p x given kp (h.inside k) j y (rw (← q, add-here k x ls) at e)))
          (λ t. rw (add-elsewhere k i x ls (eqb-false k i t)) (h.inside i j y (rw (add-elsewhere k i x ls (eqb-false k i t)) at e)));
    }

    inside-kept : (numbered : Bool) (s : Store) → (numbered ≡ true → KeepsText pool (texts_of pool (get_or s.literals k [])) p x) → AreLiterals pool s.literals → AreLiterals pool (kept numbered k x s).literals
    unfolding kept
    inside-kept false s kp h = h
    inside-kept true s kp h = by-lt (total s.literals) 4096
        (λ l. rw (kept_more k x s l) (inside-added s.literals (kp refl) h)) (λ l. rw (kept-over k x s l) h)

    keep-does : (out : List ℕ) (core : ℕ) (numbered : Bool) {w w' : List ℕ} → (numbered ≡ true → KeepsText pool (texts_of pool (get_or (store_of w).literals k [])) p x) → Ready pool w → Changes w w' (kept numbered k x)
        → Does pool w w' out (Ok core) (ok (emit_literal numbered k (bytes_at pool p) (plan_of pool out w core)))
    keep-does out core numbered {w} {w'} kp g c =
        let e : plan_of pool out w' core ≡ emit_literal numbered k (bytes_at pool p) (plan_of pool out w core) = ap (plan_in pool out core) c.store ∙ literal-is out core numbered (store_of w) (λ n. ap (bytes_at pool) (kp n).place) in
        along (ap ok (sym e)) (does-ok (record { small = g.small; good = c.good; inside = rw c.store (inside-kept numbered (store_of w) kp g.inside) }) (record { at = c.outside }))

-- a value changes no literal
module _ (put : Bool) (k : ℕ) (bs : List ℕ) (p : Plan) {q : Plan} where
  answered : (m : Answer (List ℕ)) (f : List ℕ → Plan) → ((o : List ℕ) → (f o).literals ≡ p.literals) → (m >>= (λ o. ok (f o))) ≡ ok q → q.literals ≡ p.literals
  unfolding ◌>>=◌
  answered (ok o) f h e = ap (λ (x : Plan). x.literals) (sym (ok_same e)) ∙ h o
  answered (refuse r i) f h e = absurd-ok e

  slot-literals : (b : Bool) (o : Option ℕ) → emit_slot b k bs o p ≡ ok q → q.literals ≡ p.literals
  unfolding emit_slot
  slot-literals b (some at) e = answered _ _ (λ o. refl) e
  slot-literals false none e = ap (λ (x : Plan). x.literals) (sym (ok_same (sym (slot-new k bs p) ∙ e)))
  slot-literals true none e = absurd-ok (sym (slot-none k bs p) ∙ e)

  bytes-literals : (inline : Bool) → emit_bytes put inline k bs p ≡ ok q → q.literals ≡ p.literals
  unfolding emit_bytes emit_core
  bytes-literals true e = answered _ _ (λ o. refl) e
  bytes-literals false e = slot-literals put (lookup k p.slots) e

texts-at : (pool : List ℕ) (k : ℕ) (ls : List (List Literal)) → get_or (map (λ l. texts_of pool l) ls) k [] ≡ texts_of pool (get_or ls k [])
texts-at pool k ls = get_or-map (λ l. texts_of pool l) ls k []

-- ---- a literal

module _ (put inline numbered ended : Bool) (k core : ℕ) {pool w out : List ℕ} (x : Place) (g : Ready pool w) (given : x.start + x.size ≤ length pool)
    {out₁ : List ℕ} {r₁ : Result ℕ Refusal} (d₁ : Puts put core (label (pos x.size)) out out₁ r₁) where
  abbrev written : ℕ → (ℕ → Held) → Answer Plan
  written modes held = emit_choice put modes held k (bytes_at pool x) none (plan_of pool out w core)

  first : Does pool w w out₁ r₁ (emit_core put (label (pos (length (bytes_at pool x)))) (plan_of pool out w core))
  first = rw (part_length pool x given) ((core-emits put w d₁).does pool g)

  pub literal-stop : {n : Refusal} → r₁ ≡ Err n → EmitsText inline numbered ended k pool w w out₁ (Err n) written
  unfolding emit_choice
  literal-stop q = record { does = λ modes held i n t. does-stop _ _ first q }

  module _ {next : ℕ} (q₁ : r₁ ≡ Ok next) {w₁ out₂ : List ℕ} {r₂ : Result ℕ Refusal} (d₂ : Emits w w₁ out₁ out₂ next r₂ (emit_bytes put inline k (bytes_at pool x ++ ending ended))) where
    then : Does pool w w₁ out₂ r₂ (emit_bytes put inline k (bytes_at pool x ++ ending ended) (plan_of pool out₁ w next))
    then = d₂.does pool (does-done _ first q₁).ready

    pub literal-full : {n : Refusal} → r₂ ≡ Err n → EmitsText inline numbered ended k pool w w₁ out₂ (Err n) written
    unfolding emit_choice
    literal-full q = record { does = λ modes held i n t. does-then _ _ first q₁ (rw (i, t) (does-stop _ _ then q)) }

    pub literal-good : {end : ℕ} → r₂ ≡ Ok end → Good w₁
    literal-good q = (does-done _ then q).ready.good

    module _ {end : ℕ} {w₂ : List ℕ} {y : Literal} (q : r₂ ≡ Ok end) (kp : numbered ≡ true → KeepsText pool (texts_of pool (get_or (store_of w).literals k [])) x y) (c : Changes w₁ w₂ (kept numbered k y)) where
      same-texts : texts_of pool (get_or (store_of w).literals k []) ≡ texts_of pool (get_or (store_of w₁).literals k [])
      same-texts =
          let e = bytes-literals put k (bytes_at pool x ++ ending ended) (plan_of pool out₁ w next) inline (does-done _ then q).is in
          sym (texts-at pool k (store_of w).literals) ∙ ap (λ (ls : List (List Text)). get_or ls k []) (sym e) ∙ texts-at pool k (store_of w₁).literals

      pub literal-done : EmitsText inline numbered ended k pool w w₂ out₂ (Ok end) written
      unfolding emit_choice
      literal-done = record {
        does = λ modes held i n t.
            does-then _ _ first q₁ (rw (i, n, t) (does-then _ _ then q (keep-does pool k y x given out₂ end numbered (λ b. rw same-texts at (kp b)) (does-done _ then q).ready c)));
      }

-- ---- a text

module _ (numbered : Bool) (v : Text) (l : List Text) where
  pub choose-not : numbered ≡ false → none ≡ choose numbered v l
  unfolding choose
  choose-not b = rw b

  pub choose-so : {o : Option ℕ} → numbered ≡ true → o ≡ first_equal v l → o ≡ choose numbered v l
  unfolding choose
  choose-so b e = rw b e

pub not-numbered : {numbered : Bool} {P : Type 0} → numbered ≡ false → numbered ≡ true → P
not-numbered {numbered} b n = absurd-bool (sym b ∙ n)

module _ (put inline numbered ended : Bool) (k core : ℕ) (pool w out : List ℕ) (x : Place) (f : Found) (c : number f ≡ choose numbered (bytes_at pool x) (texts_of pool (get_or (store_of w).literals k []))) where
  abbrev row : ℕ → (ℕ → Held) → Answer Plan
  row modes held = emit_event put modes held (record { front = none; body = text k (bytes_at pool x) }) (plan_of pool out w core)

  row_by : {o : Option ℕ} (modes : ℕ) (held : ℕ → Held) → is_numbered modes (held k) ≡ numbered → number f ≡ o → row modes held ≡ emit_choice put modes held k (bytes_at pool x) o (plan_of pool out w core)
  unfolding emit_event emit_front emit_body emit_text ◌>>=◌
  row_by modes held n e = rw (n, texts-at pool k (store_of w).literals, ← c, e)

  pub row_out : {w' out' : List ℕ} {r : Result ℕ Refusal} {first second : ℕ} → f ≡ Nothing first second → EmitsText inline numbered ended k pool w w' out' r (λ modes held. emit_choice put modes held k (bytes_at pool x) none (plan_of pool out w core)) → EmitsText inline numbered ended k pool w w' out' r row
  row_out q d = record { does = λ modes held i n t. along (row_by modes held n (ap number q)) (d.does modes held i n t) }

  pub row_named : {j : ℕ} {out' : List ℕ} {r : Result ℕ Refusal} → f ≡ Number j → Ready pool w → Puts put core (label (number_label j)) out out' r → EmitsText inline numbered ended k pool w w out' r row
  unfolding emit_choice
  row_named q g d = record { does = λ modes held i n t. along (row_by modes held n (ap number q)) ((core-emits put w d).does pool g) }
