-- What the work holds after a key's block was given to it or moved on, and what was then read at the key. Assumes nothing.
use mathlib.Core.Path.{◌≡◌, refl, sym, ap, ◌∙◌, subst}
use mathlib.Core.Bool.{Bool, true, false}
use mathlib.Core.List.{List, [], ◌∷◌, ◌++◌}
use mathlib.Core.Option.{Option, none, some, some-injective}
use Prim.Native.Nat.{ℕ, ◌+◌, ◌-◌, ◌≤◌, ◌<◌, ◌^◌}
use native.Mathlib.Omega.{arith}
use lib.IntN.{ℤ}
use lib.ListN.{length}
use Rattle.format.specs.Answer.{Answer, ok, refuse, ◌>>=◌}
use Rattle.format.specs.Read.{Reading, in_message, State, at_key}
use Rattle.laws.specs.Facts.{by-eq}
use Rattle.label.specs.declared.cursor.Cursor.{Cursor}
use Rattle.std.specs.Prelude as code
use Rattle.std.specs.Prelude.{Some, None}
use Rattle.read_pieces.specs.Chain.{waiting_of}
use Rattle.read_pieces.specs.Pieces.{reading_of, Inside, Blocks, blocks_of, Left, Gave}
use Rattle.store.specs.Store.{Store, lookup, put, opened, advanced, rested}
use Rattle.store.specs.Words.{rest_of, start_of, GoodSlots, Moved, Begun}
use Rattle.store.specs.Laws.{move-put, lookup-put, lookup-append, lookup-append-other, lookup-change-other}
use Rattle.store.specs.Same.{Same, same_then}
use Rattle.store.specs.Keeping.{moved}
use Rattle.read_literals.specs.Words.{store_of, Changes}
use Rattle.read_literals.specs.Laws.{keeping, begins}
use Rattle.read_leaf.specs.State.{cursor_of, Ready, state_of, Took, Takes}
use Rattle.read_leaf.specs.Takes.{took-along, took-refuses, took-ends, took-is, took-ready, then-takes, then-takes-not}
use Rattle.read_leaf.specs.Touch.{given, touch, put_block, touch-has, at-key}
use Rattle.read_leaf.specs.Promises.{given_of, GivenIn, Opened}

pub same-words : {w w' : List ℕ} {f : Store → Store} → Changes w w' f → Same w w'
same-words d = record { at = d.outside }

some_is : {X : Type 0} {o : Option X} {x y : X} → o ≡ some x → o ≡ some y → x ≡ y
some_is {x = x} {y} e h = some-injective x y (sym e ∙ h)

-- ---- a block moved on

module _ {w w' : List ℕ} (k : ℕ) (p : Reading) (q : Cursor) (e : lookup k (store_of w).slots ≡ some p) (z : q.end ≡ p.end) (d : Changes w w' (advanced k q.at)) where
  slots-put : (store_of w').slots ≡ put k (reading_of q) (store_of w).slots
  slots-put =
      let y : ◌≡◌ {A = Reading} (record { at = q.at; end = p.end }) (reading_of q) = rw z in
      ap (λ s. s.slots) d.store ∙ move-put k q.at (store_of w).slots e ∙ ap (λ r. put k r (store_of w).slots) y

  slot-moved : (m : List ℕ) → Ready m w → Inside m q → (j : ℕ) (r : Reading) → lookup j (store_of w').slots ≡ some r → Inside m (cursor_of r)
  slot-moved m g i j r h = by-eq j k
      (λ y. subst (λ x. Inside m (cursor_of x)) (some_is (lookup-put k (store_of w).slots (reading_of q) e) (sym (ap (λ l. lookup k l) slots-put) ∙ rw y at h)) i)
      (λ n. g.slots j r (sym (lookup-change-other k j n (λ y. reading_of q) (store_of w).slots) ∙ sym (ap (λ l. lookup j l) slots-put) ∙ h))

  module _ (s : (j : ℕ) → start_of w' j ≡ start_of w j) (b : p.at ≤ q.at) where
    start-moved : (m : List ℕ) → Ready m w → (j : ℕ) (r : Reading) → j < 32 → lookup j (store_of w').slots ≡ some r → start_of w' j ≤ r.at
    start-moved m g j r l h = by-eq j k
        (λ y.
        let a = some_is (lookup-put k (store_of w).slots (reading_of q) e) (sym (ap (λ l. lookup k l) slots-put) ∙ rw y at h) in
        let f : start_of w j ≤ p.at = g.starts j p l (rw y e) in
        let z₁ : q.at ≡ r.at = ap (λ (x : Reading). x.at) a in
        omega (arith, s j))
        (λ n. rw (s j) (g.starts j r l (sym (lookup-change-other k j n (λ y. reading_of q) (store_of w).slots) ∙ sym (ap (λ l. lookup j l) slots-put) ∙ h)))

    ready_moved : (m : List ℕ) → Ready m w → Inside m q → Ready m w'
    ready_moved m g i = record {
      small = g.small;
      good = d.good;
      blocks = rw d.store g.blocks;
      slots = slot-moved m g i;
      starts = start-moved m g;
    }

  state-moved : (m : List ℕ) (most n : ℕ) (c : Cursor) → state_of m most w' c n ≡ put_block (in_message m) k (reading_of q) (state_of m most w c n)
  state-moved m most n c =
      ap (λ s. record { core = reading_of c; blocks = (store_of w').slots; waiting = waiting_of m s.rest.at s.rest.end; literals = s.literals; rows = most - n }) d.store
      ∙ ap (λ bs. record { core = reading_of c; blocks = bs; waiting = waiting_of m (store_of w).rest.at (store_of w).rest.end; literals = (store_of w).literals; rows = most - n }) slots-put

-- ---- what is read at a key

module _ {X : Type 0} (m : List ℕ) (k : ℕ) (f : Reading → Answer (X × Reading)) (c : Cursor) where
  -- in the core
  pub core-takes : (w : List ℕ) (x : X) (next : Cursor) → Ready m w → Inside m next → f (reading_of c) ≡ ok (x, reading_of next) → Takes m w w c (ok (x, next)) (at_key (in_message m) true k f)
  unfolding at_key ◌>>=◌
  core-takes w x next g i e = record { took = λ most n. took-along (rw e) (took-ends x next g i) }

  pub core-not : (w : List ℕ) (r : ℕ) → f (reading_of c) ≡ refuse r 0 → Takes m w w c (refuse r 0) (at_key (in_message m) true k f)
  unfolding at_key ◌>>=◌
  core-not w r e = record { took = λ most n. took-along (rw e) (took-refuses r) }

  -- in the key's block
  module _ {w w₁ : List ℕ} {r : code.Option Cursor} (o : Opened m k w w₁ r) (i : Inside m c) where
    touched : (most n : ℕ) → Took m most w w₁ n (given_of c r) (touch (in_message m) k (state_of m most w c n))
    touched most n = (o.takes c i).took most n

    pub block_none : r ≡ None → Takes m w w₁ c (refuse 29 0) (at_key (in_message m) false k f)
    block_none q = record { took = λ most n. took-along (at-key (in_message m) k f (state_of m most w c n)) (then-takes-not _ (touched most n) _ (ap (given_of c) q)) }

    pub block-not : {p : Cursor} (e : ℕ) → r ≡ Some p → f (reading_of p) ≡ refuse e 0 → Takes m w w₁ c (refuse e 0) (at_key (in_message m) false k f)
    unfolding ◌>>=◌
    block-not e q h = record { took = λ most n. took-along (at-key (in_message m) k f (state_of m most w c n)) (then-takes _ (touched most n) _ (ap (given_of c) q) (took-along (rw h) (took-refuses e))) }

    pub block-takes : {w₂ : List ℕ} {p : Cursor} (x : X) (next : Cursor) → r ≡ Some p → f (reading_of p) ≡ ok (x, reading_of next) → next.end ≡ p.end → p.at ≤ next.at → Inside m next → Moved w₁ w₂ (advanced k next.at)
        → Takes m w w₂ c (ok (x, c)) (at_key (in_message m) false k f)
    unfolding ◌>>=◌
    block-takes {w₂} {p} x next q h z b y v = record { took = λ most n. took-along (at-key (in_message m) k f (state_of m most w c n)) (then-takes _ (touched most n) _ (ap (given_of c) q) (rw h (after most n))) }
      where
        after : (most n : ℕ) → Took m most w₁ w₂ n (ok (x, c)) (ok (x, put_block (in_message m) k (reading_of next) (state_of m most w₁ c n)))
        after most n =
            let t = took-is _ (touched most n) (ap (given_of c) q) in
            let g = took-ready _ (touched most n) (ap (given_of c) q) in
            let d = moved keeping g.good v in
            let has : lookup k (store_of w₁).slots ≡ some (reading_of p) = touch-has (in_message m) k (state_of m most w c n) (state_of m most w₁ c n) (reading_of p) t in
            record { answer = refl; left = record { state = state-moved k (reading_of p) next has z d m most n c; ready = ready_moved k (reading_of p) next has z d (λ j. v.behind (1216 + j) (omega arith)) b m g y; inside = i; same = same-words d } }

-- ---- the block of a key

-- it has one
pub block-known : {m w : List ℕ} (k : ℕ) (p : Cursor) → Ready m w → lookup k (store_of w).slots ≡ some (reading_of p) → Opened m k w w (Some p)
unfolding touch given
block-known {m} {w} k p g e = record { takes = λ c i. record { took = λ most n. took-along (rw e) (took-ends (reading_of p) c g i) }; inside = g.slots k (reading_of p) e }

module _ {m w : List ℕ} (k : ℕ) (e : lookup k (store_of w).slots ≡ none) where
  -- it gets none
  pub block-missing : [] ≡ waiting_of m (store_of w).rest.at (store_of w).rest.end → Opened m k w w None
  unfolding touch given
  block-missing h = record { takes = λ c i. record { took = λ most n. took-along (rw (e, ← h)) (took-refuses 29) }; inside = tt }

  -- it gets the next
  module _ {w₁ w₂ w₃ : List ℕ} (p : Cursor) (g : Ready m w) (h : reading_of p ∷ waiting_of m p.end (store_of w).rest.end ≡ waiting_of m (store_of w).rest.at (store_of w).rest.end)
      (i : Inside m p) (b : Blocks m p.end (store_of w).rest.end) (d : Changes w w₁ (opened k (reading_of p))) (d₁ : Changes w₁ w₂ (rested (record { at = p.end; end = (store_of w).rest.end })))
      (d₂ : Changes w₂ w₃ (λ s. s)) (s : start_of w₃ k ≡ p.at) (s₁ : (j : ℕ) → (j ≡ k → ⊥) → start_of w₃ j ≡ start_of w j) where
    both : store_of w₃ ≡ record { slots = (store_of w).slots ++ (k, reading_of p) ∷ []; rest = record { at = p.end; end = (store_of w).rest.end }; literals = (store_of w).literals }
    both = d₂.store ∙ d₁.store ∙ rw d.store

    slot-given : (j : ℕ) (r : Reading) → lookup j (store_of w₃).slots ≡ some r → Inside m (cursor_of r)
    slot-given j r z = by-eq j k
        (λ y. subst (λ x. Inside m (cursor_of x)) (some_is (lookup-append k (store_of w).slots (reading_of p) e) (rw (y, both) at z)) i)
        (λ y. g.slots j r (sym (lookup-append-other k j y (store_of w).slots (reading_of p)) ∙ rw both at z))

    start-given : (j : ℕ) (r : Reading) → j < 32 → lookup j (store_of w₃).slots ≡ some r → start_of w₃ j ≤ r.at
    start-given j r l z = by-eq j k
        (λ y.
        let a = some_is (lookup-append k (store_of w).slots (reading_of p) e) (rw (y, both) at z) in
        let z₁ : p.at ≡ r.at = ap (λ (x : Reading). x.at) a in
        rw y (omega (arith, s)))
        (λ y. rw (s₁ j y) (g.starts j r l (sym (lookup-append-other k j y (store_of w).slots (reading_of p)) ∙ rw both at z)))

    ready-given : Ready m w₃
    ready-given = record { small = g.small; good = d₂.good; blocks = rw both b; slots = slot-given; starts = start-given }

    pub block-given : Opened m k w w₃ (Some p)
    unfolding touch given
    block-given = record {
      takes = λ c y. record { took = λ most n. rw (e, ← h) (record { answer = refl; left = record { state = rw both; ready = ready-given; inside = y; same = same_then (same-words d) (same_then (same-words d₁) (same-words d₂)) } }) };
      inside = i;
    }

-- ---- the same from what the calls answered

pub inside-small : {m : List ℕ} {p : Cursor} → length m ≤ 65536 → Inside m p → (p.at < 2 ^ 32) × (p.end < 2 ^ 32)
inside-small h i = (omega (arith, i.ordered, i.inside), omega (arith, i.inside))

pub gave_left : {m : List ℕ} {at end : ℕ} {r : code.Option Cursor} {p : Cursor} → Gave m at end r → r ≡ Some p → Inside m p × Blocks m p.end end
gave_left {m} {end = end} y q = subst (λ (x : code.Option Cursor). Left m end x) q y.left

module _ {m w : List ℕ} {at end : ℕ} (z : ◌≡◌ {A = Reading} (record { at = at; end = end }) (rest_of w)) where
  pub rest-blocks : Ready m w → Blocks m at end
  unfolding store_of
  rest-blocks g = subst (λ (r : Reading). Blocks m r.at r.end) (sym z) g.blocks

  module _ {r : code.Option Cursor} (k : ℕ) (e : lookup k (store_of w).slots ≡ none) (y : Gave m at end r) where
    pub gave-none : r ≡ None → Opened m k w w None
    unfolding store_of
    gave-none q = block-missing k e (sym (ap (blocks_of m end) q) ∙ y.is ∙ ap (λ (p : Reading). waiting_of m p.at p.end) z)

    pub gave-first : {p : Cursor} {w₁ w₂ w₃ : List ℕ} → r ≡ Some p → k < 32 → Ready m w → Moved w w₁ (opened k (reading_of p)) → Moved w₁ w₂ (rested (record { at = p.end; end = (rest_of w₁).end })) → Begun w₂ w₃ k p.at
        → Opened m k w w₃ (Some p)
    unfolding store_of
    gave-first {p} {w₁} {w₂} q kh g v v₁ v₂ =
        let d = moved keeping g.good v in
        let d₁ = moved keeping d.good v₁ in
        let d₂ = begins kh d₁.good v₂ in
        let x : end ≡ (store_of w).rest.end = ap (λ (a : Reading). a.end) z in
        let x₁ : (rest_of w₁).end ≡ (store_of w).rest.end = ap (λ (s : Store). s.rest.end) (v.store []) in
        let (i, b) = gave_left y q in
        let h : reading_of p ∷ waiting_of m p.end (store_of w).rest.end ≡ waiting_of m (store_of w).rest.at (store_of w).rest.end =
        ap (λ (j : ℕ). reading_of p ∷ waiting_of m p.end j) (sym x) ∙ sym (ap (blocks_of m end) q) ∙ y.is ∙ ap (λ (a : Reading). waiting_of m a.at a.end) z in
        block-given k e p g h i (subst (λ (j : ℕ). Blocks m p.end j) x b) d (subst (λ (j : ℕ). Changes w₁ w₂ (rested (record { at = p.end; end = j }))) x₁ d₁) d₂ v₂.is
        (λ j o. v₂.others (1216 + j) (λ y. o (omega arith)) ∙ v₁.behind (1216 + j) (omega arith) ∙ v.behind (1216 + j) (omega arith))

module _ {m w w₁ : List ℕ} {k : ℕ} {r : code.Option Cursor} {p : Cursor} (o : Opened m k w w₁ r) (q : r ≡ Some p) where
  pub opened_inside : Inside m p
  opened_inside = subst (λ (x : code.Option Cursor). GivenIn m x) q o.inside

  pub opened-start : (c : Cursor) → Inside m c → k < 32 → start_of w₁ k ≤ p.at
  opened-start c i l =
      let t = (o.takes c i).took 0 0 in
      let has : lookup k (store_of w₁).slots ≡ some (reading_of p) = touch-has (in_message m) k (state_of m 0 w c 0) (state_of m 0 w₁ c 0) (reading_of p) (took-is _ t (ap (given_of c) q)) in
      (took-ready _ t (ap (given_of c) q)).starts k (reading_of p) l has

  pub opened-good : (c : Cursor) → Inside m c → GoodSlots w₁
  opened-good c i = (took-ready _ ((o.takes c i).took 0 0) (ap (given_of c) q)).good.slots

-- where the values of keys stand
pub takes-in : {X : Type 0} {m w w' : List ℕ} {c : Cursor} {r : Answer (X × Cursor)} {b b' : Bool} (k : ℕ) (f : Reading → Answer (X × Reading)) → b ≡ b'
    → Takes m w w' c r (at_key (in_message m) b k f) → Takes m w w' c r (at_key (in_message m) b' k f)
takes-in {m = m} {w} {w'} {c} {r} k f e t = subst (λ (x : Bool). Takes m w w' c r (at_key (in_message m) x k f)) e t

-- the number that was read, as the code holds it
pub takes-number : {m w w' : List ℕ} {c d : Cursor} {n v : ℤ} (f : State (in_message m) → Answer (ℤ × State (in_message m))) → n ≡ v → Takes m w w' c (ok (v, d)) f → Takes m w w' c (ok (n, d)) f
takes-number {m} {w} {w'} {c} {d} f e t = subst (λ (x : ℤ). Takes m w w' c (ok (x, d)) f) (sym e) t
