-- What a step may do to a plan, in either pass: how far the core and the slots move, and what stays. While counting no step refuses.
use Rattle.std.specs.Prelude.{◌≡◌, refl, Bool, true, false, ℤ, pos}
use Rattle.std.proofs.Common.{sym, ◌∙◌, arith}
use mathlib.Core.List.{List, [], ◌∷◌, ◌++◌}
use Rattle.std.proofs.Math.Option.{Option, none, some}
use Prim.Native.Nat.{ℕ, suc, ◌+◌, ◌≤◌}
use Rattle.std.proofs.Math.ListN.{length, length-append}
use Rattle.std.proofs.Math.Seq.{length-sets}
use Rattle.format.specs.Answer.{Answer, ok, refuse, ◌>>=◌}
use Rattle.format.specs.Label.{label}
use Rattle.format.specs.Modes.{inline_everything}
use Rattle.format.specs.Table.{Held}
use Rattle.format.specs.Row.{Text}
use Rattle.format.specs.Read.{number_label, total, is_numbered, is_ended, ending}
use Rattle.format.specs.Write.{Body, nothing, text, value, Event}
use Rattle.label.specs.Laws.{label-most}
use Rattle.store.specs.Store.{lookup}
use Rattle.laws.specs.Facts.{absurd-ok, absurd-bool, ok_same, by-lt}
use Rattle.write_passes.specs.Plan.{Plan, slots_to, put_bytes, emit_literal, emit_core, emit_label, emit_slot, emit_bytes, emit_front, emit_choice, emit_text, emit_body, emit_event, emit_events}
use Rattle.write_passes.specs.Slots.{most, most-change, most-append, Apart, apart-change, apart-append}
use Rattle.write_passes.specs.Laws.{put-not, put-fits, put-over, slot-new, slot-none, literal-plain, literal-kept, literal-over}
use Rattle.write_passes.specs.Follow.{After}

-- from p to q, by at most n bytes
pub record Moves (put : Bool) (n : ℕ) (p q : Plan) : Type 0 where
  pub out : put ≡ false → q.out ≡ p.out
  pub room : length q.out ≡ length p.out
  pub core : q.core ≤ p.core + n
  pub slots : most q.slots ≤ most p.slots + n
  pub apart : Apart p.slots → Apart q.slots
  pub over : p.over ≡ true → q.over ≡ true

moves_not : (put : Bool) (p : Plan) → Moves put 0 p p
moves_not put p = record { out = λ e. refl; room = refl; core = omega arith; slots = omega arith; apart = λ a. a; over = λ e. e }

moves_both : (put : Bool) (n m : ℕ) (p q r : Plan) → Moves put n p q → Moves put m q r → Moves put (n + m) p r
moves_both put n m p q r a b =
    record {
      out = λ e. b.out e ∙ a.out e;
      room = b.room ∙ a.room;
      core = omega (arith, a.core, b.core);
      slots = omega (arith, a.slots, b.slots);
      apart = λ h. b.apart (a.apart h);
      over = λ e. b.over (a.over e);
    }

moves_more : (put : Bool) (n m : ℕ) (p q : Plan) → n ≤ m → Moves put n p q → Moves put m p q
moves_more put n m p q h a = record { out = a.out; room = a.room; core = omega (arith, a.core); slots = omega (arith, a.slots); apart = a.apart; over = a.over }

-- the core and every slot go no further than m: sums of sizes, or of places, stay small
pub record Within (m : ℕ) (p : Plan) : Type 0 where
  pub core : p.core ≤ m
  pub slots : most p.slots ≤ m

pub within-moves : (put : Bool) (m n : ℕ) (p q : Plan) → Within m p → Moves put n p q → Within (m + n) q
within-moves put m n p q w a = record { core = omega (arith, w.core, a.core); slots = omega (arith, w.slots, a.slots) }

-- only while putting may a step refuse
pub data Fine {A : Type 0} (put : Bool) (P : A → Type 0) : Answer A → Type 0 where
  fine : {a : A} → P a → Fine put P (ok a)
  refused : {r i : ℕ} → put ≡ true → Fine put P (refuse r i)

fine-then : {A B : Type 0} (put : Bool) (P : A → Type 0) (Q : B → Type 0) (m : Answer A) (f : A → Answer B) → Fine put P m → ((a : A) → P a → Fine put Q (f a)) → Fine put Q (m >>= f)
unfolding ◌>>=◌
fine-then put P Q (ok a) f (fine h) g = g a h
fine-then put P Q (refuse r i) f (refused e) g = refused e

fine-weaker : {A : Type 0} (put : Bool) (P Q : A → Type 0) (m : Answer A) → Fine put P m → ((a : A) → P a → Q a) → Fine put Q m
fine-weaker put P Q (ok a) (fine h) g = fine (g a h)
fine-weaker put P Q (refuse r i) (refused e) g = refused e

pub fine-is : (put : Bool) (P : Plan → Type 0) (m : Answer Plan) (q : Plan) → Fine put P m → m ≡ ok q → P q
fine-is put P (ok a) q (fine h) e = rw (ok_same e) at h
fine-is put P (refuse r i) q (refused t) e = absurd-ok e

pub fine-counts : (P : Plan → Type 0) (m : Answer Plan) → Fine false P m → After P m
fine-counts P (ok q) (fine h) = (q, refl, h)
fine-counts P (refuse r i) (refused e) = absurd-bool e

put-fine : (put : Bool) (at : ℕ) (bs out : List ℕ) → Fine put (λ o. (put ≡ false → o ≡ out) × (length o ≡ length out)) (put_bytes put at bs out)
put-fine false at bs out = rw put-not (fine (λ e. refl, refl))
put-fine true at bs out = by-lt (length out) (at + length bs) (λ l. rw (put-over at bs out l) (refused refl)) (λ l. rw (put-fits at bs out l) (fine (λ e. absurd-bool (sym e), length-sets out at bs)))

abbrev pub Step : Bool → ℕ → Plan → Answer Plan → Type 0
Step put n p m = Fine put (λ q. Moves put n p q) m

step_then : (put : Bool) (n k : ℕ) (p : Plan) (m : Answer Plan) (f : Plan → Answer Plan) → Step put n p m → ((q : Plan) → Step put k q (f q)) → Step put (n + k) p (m >>= f)
step_then put n k p m f h g = fine-then put _ _ m f h (λ q a. fine-weaker put _ _ (f q) (g q) (λ r b. moves_both put n k p q r a b))

step-more : (put : Bool) (n k : ℕ) (p : Plan) (m : Answer Plan) → n ≤ k → Step put n p m → Step put k p m
step-more put n k p m l h = fine-weaker put _ _ m h (λ q a. moves_more put n k p q l a)

core-moves : (put : Bool) (bs : List ℕ) (p : Plan) → Step put (length bs) p (emit_core put bs p)
unfolding emit_core
core-moves put bs p = fine-then put _ _ _ _ (put-fine put p.core bs p.out)
    (λ out h. fine (record { out = h.0; room = h.1; core = omega arith; slots = omega arith; apart = λ a. a; over = λ e. e }))

slot-moves : (put : Bool) (k : ℕ) (bs : List ℕ) (o : Option ℕ) (p : Plan) → lookup k p.slots ≡ o → Step put (length bs) p (emit_slot put k bs o p)
unfolding emit_slot
slot-moves put k bs (some at) p e = fine-then put _ _ _ _ (put-fine put at bs p.out)
    (λ out h. fine (record { out = h.0; room = h.1; core = omega arith; slots = most-change k (length bs) p.slots; apart = λ a. apart-change k _ p.slots a; over = λ e. e }))
slot-moves false k bs none p e =
    let q : Plan = slots_to p.out (p.slots ++ (k, length bs) ∷ []) p in
    let m : Moves false (length bs) p q = record { out = λ e. refl; room = refl; core = omega arith; slots = omega (arith, most-append k (length bs) p.slots); apart = λ a. apart-append k (length bs) p.slots a e; over = λ e. e } in
    rw slot-new (fine m)
slot-moves true k bs none p e = rw slot-none (refused refl)

bytes-moves : (put inline : Bool) (k : ℕ) (bs : List ℕ) (p : Plan) → Step put (length bs) p (emit_bytes put inline k bs p)
unfolding emit_bytes
bytes-moves put true k bs p = core-moves put bs p
bytes-moves put false k bs p = slot-moves put k bs (lookup k p.slots) p refl

label-moves : (put : Bool) (l : ℤ) (p : Plan) → Step put 10 p (emit_label put l p)
label-moves put l p = step-more put (length (label l)) 10 p _ (label-most l) (core-moves put (label l) p)

literal-moves : (put b : Bool) (k : ℕ) (v : Text) (p : Plan) → Moves put 0 p (emit_literal b k v p)
literal-moves put false k v p = rw literal-plain (moves_not put p)
literal-moves put true k v p = by-lt (total p.literals) 4096
    (λ l. rw (literal-kept k v p l) (record { out = λ e. refl; room = refl; core = omega arith; slots = omega arith; apart = λ a. a; over = λ e. e }))
    (λ l. rw (literal-over k v p l) (record { out = λ e. refl; room = refl; core = omega arith; slots = omega arith; apart = λ a. a; over = λ e. refl }))

-- how many bytes a row writes at most beside its labels
unfoldable pub body_size : Body → ℕ
body_size nothing = 0
body_size (text k v) = suc (length v)  -- a 00 may stand behind it
body_size (value k bs) = length bs

-- two labels of at most ten bytes stand in front of it
unfoldable pub most_bytes : List Event → ℕ
most_bytes [] = 0
most_bytes (e ∷ es) = 20 + body_size e.body + most_bytes es

pub ending-most : (b : Bool) → length (ending b) ≤ 1
unfolding ending
ending-most true = omega arith
ending-most false = omega arith

front-moves : (put : Bool) (f : Option ℤ) (p : Plan) → Step put 10 p (emit_front put f p)
unfolding emit_front
front-moves put none p = fine (moves_more put 0 10 p p (omega arith) (moves_not put p))
front-moves put (some l) p = label-moves put l p

module _ (put : Bool) (modes : ℕ) (held : ℕ → Held) where
  choice-moves : (k : ℕ) (v : Text) (o : Option ℕ) (p : Plan) → Step put (10 + suc (length v)) p (emit_choice put modes held k v o p)
  unfolding emit_choice
  choice-moves k v (some j) p = step-more put 10 (10 + suc (length v)) p _ (omega arith) (label-moves put (number_label j) p)
  choice-moves k v none p = step_then put 10 (suc (length v)) p _ _ (label-moves put (pos (length v)) p) (λ p₁.
      let bs : List ℕ = v ++ ending (is_ended modes (held k).leaf) in
      step-more put (length bs + 0) (suc (length v)) p₁ _ (omega (arith, length-append v (ending (is_ended modes (held k).leaf)), ending-most (is_ended modes (held k).leaf)))
      (step_then put (length bs) 0 p₁ _ _ (bytes-moves put (inline_everything modes) k bs p₁) (λ p₂. fine (literal-moves put (is_numbered modes (held k)) k v p₂))))

  body-moves : (b : Body) (p : Plan) → Step put (10 + body_size b) p (emit_body put modes held b p)
  unfolding emit_body emit_text body_size
  body-moves nothing p = fine (moves_more put 0 (10 + 0) p p (omega arith) (moves_not put p))
  body-moves (text k v) p = choice-moves k v _ p
  body-moves (value k bs) p = step-more put (length bs) (10 + length bs) p _ (omega arith) (bytes-moves put (inline_everything modes) k bs p)

  pub event-moves : (e : Event) (p : Plan) → Step put (20 + body_size e.body) p (emit_event put modes held e p)
  unfolding emit_event
  event-moves e p = step-more put (10 + (10 + body_size e.body)) (20 + body_size e.body) p _ (omega arith) (step_then put 10 (10 + body_size e.body) p _ _ (front-moves put e.front p) (λ q. body-moves e.body q))

  pub events-move : (es : List Event) (p : Plan) → Step put (most_bytes es) p (emit_events put modes held es p)
  unfolding emit_events most_bytes
  events-move [] p = fine (moves_not put p)
  events-move (e ∷ es) p = step_then put (20 + body_size e.body) (most_bytes es) p _ _ (event-moves e p) (λ q. events-move es q)

-- Each row goes at most 65,557 bytes further, counting or writing.
module _ (put : Bool) (modes : ℕ) (held : ℕ → Held) where
  pub within-event : (e : Event) (m : ℕ) (p q : Plan) → body_size e.body ≤ 65537 → Within m p → emit_event put modes held e p ≡ ok q → Within (m + 65557) q
  within-event e m p q l w h = within-moves put m 65557 p q w (moves_more put _ 65557 p q (omega arith) (fine-is put _ _ q (event-moves put modes held e p) h))

  pub events-apart : (es : List Event) (p q : Plan) → Apart p.slots → emit_events put modes held es p ≡ ok q → Apart q.slots
  events-apart es p q a h = (fine-is put _ _ q (events-move put modes held es p) h).apart a
