-- Whether everything has been read, as the code tells it: a reading place inside the message has been read when it stands at its end.
use mathlib.Core.Path.{◌≡◌, refl, sym, ap, ◌∙◌, subst}
use mathlib.Core.Bool.{Bool, true, false, cond, ◌&&◌, and-false, and-true}
use mathlib.Core.List.{List}
use mathlib.Core.Option.{some, some-injective}
use Prim.Native.Nat.{ℕ, zero, suc, ◌+◌, ◌-◌, ◌<◌, ◌≤◌}
use native.Mathlib.Numerals.{add-one}
use native.Mathlib.Omega.{arith}
use lib.Dec.{eqb}
use lib.ListN.{length, take, drop, length-take, length-drop, drop_of_length-le}
use borrow.Author.Tests.{eq-eqb, ne_eqb, eqb-true}
use Rattle.format.specs.Read.{Reading, in_message, nth, is_read, all_read, is_done}
use Rattle.label.specs.declared.cursor.Cursor.{Cursor}
use Rattle.read_pieces.specs.Chain.{waiting_of, none-waiting}
use Rattle.read_pieces.specs.Pieces.{reading_of, Inside}
use Rattle.store.specs.declared.Touched.{Touched}
use Rattle.store.specs.Lists.{upto, upto-length, upto-nth}
use Rattle.store.specs.Store.{lookup}
use Rattle.store.specs.Words.{key_of, reading_of as place_of, slot_of, slot_count, slots_of, rest_of}
use Rattle.store.specs.Meaning.{touched, reading}
use Rattle.store.specs.Laws.{drop_nth}
use Rattle.read_literals.specs.Words.{store_of}
use Rattle.read_leaf.specs.State.{Ready, cursor_of}
use Rattle.reader.specs.Reader.{AllRead, IsDone}

read_length : (m : List ℕ) (p : Reading) → Inside m (cursor_of p) → length (take (p.end - p.at) (drop p.at m)) ≡ p.end - p.at
read_length m p i = length-take (p.end - p.at) (drop p.at m) ∙ omega (arith, length-drop p.at m, i.ordered, i.inside)

read_all : (m : List ℕ) (p : Reading) → Inside m (cursor_of p) → p.at ≡ p.end → is_read (in_message m) p ≡ true
unfolding is_read
read_all m p i e = eq-eqb _ 0 (read_length m p i ∙ omega arith)

read-not : (m : List ℕ) (p : Reading) → Inside m (cursor_of p) → (p.at ≡ p.end → ⊥) → is_read (in_message m) p ≡ false
unfolding is_read
read-not m p i z =
    let h : length (take (p.end - p.at) (drop p.at m)) ≡ 0 → ⊥ = λ e. z (omega (arith, read_length m p i, i.ordered)) in
    ne_eqb _ 0 h

-- ---- the slots

-- a key's place is looked up by the key alone
lookup-upto : {X : Type 0} (f : ℕ → ℕ) (g : ℕ → X) (n j : ℕ) → j < n → lookup (f j) (upto (λ i. (f i, g (f i))) n) ≡ some (g (f j))
unfolding lookup upto
lookup-upto f g zero j h = absurd (omega arith)
lookup-upto f g (suc n) zero h = rw (eq-eqb (f 0) (f 0) refl)
lookup-upto {X} f g (suc n) (suc j) h = go (eqb (f 0) (f (suc j))) refl (lookup-upto (λ i. f (suc i)) g n j (omega arith))
  where
    go : (b : Bool) → eqb (f 0) (f (suc j)) ≡ b → lookup (f (suc j)) (upto (λ i. (f (suc i), g (f (suc i)))) n) ≡ some (g (f (suc j)))
        → cond b (some (g (f 0))) (lookup (f (suc j)) (upto (λ i. (f (suc i), g (f (suc i)))) n)) ≡ some (g (f (suc j)))
    go true e q = rw (eqb-true (f 0) (f (suc j)) e) refl
    go false e q = q

module _ (w : List ℕ) (i : ℕ) (r : Touched) (e : nth (slots_of w) i ≡ some (touched r)) (h : i < length (slots_of w)) where
  slot-found : lookup r.key (slots_of w) ≡ some (touched r).1
  unfolding slots_of
  slot-found =
      let b : i < slot_count w = omega (arith, upto-length (slot_of w) (slot_count w)) in
      let q : slot_of w i ≡ touched r = some-injective _ _ (sym (upto-nth (slot_of w) (slot_count w) i b) ∙ e) in
      let k : key_of w i ≡ r.key = ap (λ p. p.0) q in
      let p : place_of w (key_of w i) ≡ (touched r).1 = ap (λ p. p.1) q in
      rw (← k, ← p) (lookup-upto (key_of w) (place_of w) (slot_count w) i b)

  module _ (m : List ℕ) (ready : Ready m w) where
    slot-inside : Inside m (cursor_of (touched r).1)
    unfolding store_of
    slot-inside = ready.slots r.key (touched r).1 slot-found

    slot-left : all_read (in_message m) (drop i (slots_of w)) ≡ (is_read (in_message m) (touched r).1 && all_read (in_message m) (drop (i + 1) (slots_of w)))
    unfolding all_read
    slot-left = rw (drop_nth (slots_of w) i e, add-one i)

-- all are read if those from the i-th on are
pub record LeftAt (w : List ℕ) (i : ℕ) : Type 0 where
  pub is : (m : List ℕ) → Ready m w → all_read (in_message m) (slots_of w) ≡ all_read (in_message m) (drop i (slots_of w))

module _ (w : List ℕ) (i : ℕ) (r : Touched) (x : LeftAt w i) (e : nth (slots_of w) i ≡ some (touched r)) (h : i < length (slots_of w)) where
  pub left-next : r.at ≡ r.end → LeftAt w (i + 1)
  left-next q = record { is = λ m g. x.is m g ∙ slot-left w i r e h m g ∙ rw (read_all m (touched r).1 (slot-inside w i r e h m g) q) refl }

  pub left_not : (r.at ≡ r.end → ⊥) → AllRead w false
  unfolding store_of
  left_not z = record { is = λ m g. x.is m g ∙ slot-left w i r e h m g ∙ rw (read-not m (touched r).1 (slot-inside w i r e h m g) z) refl }

pub left-none : (w : List ℕ) (i : ℕ) → LeftAt w i → length (slots_of w) ≤ i → AllRead w true
unfolding all_read store_of
left-none w i x h = record { is = λ m g. x.is m g ∙ rw (drop_of_length-le (slots_of w) h) refl }

-- ---- core, blocks given and blocks that wait

module _ (w : List ℕ) (c : Cursor) where
  pub core-left : (c.at ≡ c.end → ⊥) → IsDone w c false
  unfolding is_done
  core-left z = record { is = λ m most n g i. rw (read-not m (reading_of c) i z) refl }

  module _ (e : c.at ≡ c.end) (p : Cursor) (q : reading p ≡ rest_of w) where
    waits : (m : List ℕ) (b : Bool) → Ready m w → eqb p.at p.end ≡ b → eqb (length (waiting_of m (store_of w).rest.at (store_of w).rest.end)) 0 ≡ b
    unfolding store_of
    waits m b g h = none-waiting g.blocks.chain ∙ subst (λ (x : Reading). eqb x.at x.end ≡ b) q h

    pub block-left : (p.at ≡ p.end → ⊥) → IsDone w c false
    unfolding is_done
    block-left z = record { is = λ m most n g i. rw (waits m false g (ne_eqb _ _ z)) (and-false (is_read (in_message m) (reading_of c) && all_read (in_message m) (store_of w).slots)) }

    pub rest_read : (r : Bool) → p.at ≡ p.end → AllRead w r → IsDone w c r
    unfolding is_done
    rest_read r z a = record { is = λ m most n g i. rw (waits m true g (eq-eqb _ _ z), read_all m (reading_of c) i e, a.is m g) (and-true r) }
