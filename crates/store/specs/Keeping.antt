-- A way to keep literals in the words, and what calls on the slots and on the counts make of a store kept so.
use Rattle.std.specs.Prelude.{◌≡◌, List, ℕ, ◌+◌, ◌<◌, ◌≤◌, min, length}
use Rattle.std.proofs.Common.{sym, ap, ◌∙◌, arith}
use Rattle.format.specs.Row.{Place}
use Rattle.format.specs.Read.{no_literals}
use Rattle.store.specs.Lists.{upto, sum_to, sum-ext}
use Rattle.store.specs.Store.{Store, empty, lookup, unnumbered}
use Rattle.store.specs.Words.{word, slot_count, index_of, slots_of, GoodSlots, held, Moved, Cleared}
use Rattle.store.specs.Slots.{reading-eq, store-eq, slots-below}

-- What is so of the words at all times: `Sound` says it of the literals.
pub record Good (Sound : List ℕ → Type 0) (w : List ℕ) : Type 0 where
  pub slots : GoodSlots w
  pub literals : Sound w

-- What a call leaves: a good store, changed by f, and the caller's own words as they were.
pub record Changes (Sound : List ℕ → Type 0) (store_of : List ℕ → Store) (w w' : List ℕ) (f : Store → Store) : Type 0 where
  pub good : Good Sound w'
  pub store : store_of w' ≡ f (store_of w)
  pub size : length w' ≡ length w
  pub outside : (i : ℕ) → i < 1024 → word w' i ≡ word w i

-- Literals are kept in the words from 1,155 on, and zeros up to the last count mean that there are none.
pub record Keeping (Sound : List ℕ → Type 0) (literals_of : List ℕ → List (List Place)) (store_of : List ℕ → Store) : Type 0 where
  pub is : (w : List ℕ) → store_of w ≡ held w (literals_of w)
  pub sound : (w w' : List ℕ) → ((i : ℕ) → 1155 ≤ i → word w' i ≡ word w i) → Sound w → Sound w'
  pub same : (w w' : List ℕ) → ((i : ℕ) → 1155 ≤ i → word w' i ≡ word w i) → literals_of w' ≡ literals_of w
  pub none : (w : List ℕ) → ((i : ℕ) → 1155 ≤ i → i < 1216 → word w i ≡ 0) → Sound w × (literals_of w ≡ no_literals)

-- the slots of zeros
good-empty : (w : List ℕ) → 16384 ≤ length w → ((i : ℕ) → 1120 ≤ i → i < 1216 → word w i ≡ 0) → GoodSlots w
unfolding sum_to
good-empty w whole z =
    record {
      whole = whole;
      named = λ i h. absurd (none i h);
      indexed = λ i h. absurd (none i h);
      listed = λ k i h e. absurd (omega (arith, index k h));
      room = z 1152 (omega arith) (omega arith) ∙ sym (sum-ext (λ k. min 1 (index_of w k)) (λ k. 0) 32 (λ k h. let e = index k h in omega arith));
    }
  where
    none : (i : ℕ) → i < slot_count w → ⊥
    none i h = omega (arith, z 1152 (omega arith) (omega arith))

    index : (k : ℕ) → k < 32 → index_of w k ≡ 0
    index k h = z (1120 + k) (omega arith) (omega arith)

slots-empty : (w : List ℕ) → slot_count w ≡ 0 → slots_of w ≡ empty.slots
unfolding slots_of upto
slots-empty w e = rw e

module _ {Sound : List ℕ → Type 0} {literals_of : List ℕ → List (List Place)} {store_of : List ℕ → Store} (keeping : Keeping Sound literals_of store_of) where
  -- what stands under a key
  pub looked-up : (w : List ℕ) (k : ℕ) → lookup k (slots_of w) ≡ lookup k (store_of w).slots
  looked-up w k = ap (λ (s : Store). lookup k s.slots) (sym (keeping.is w))

module _ {Sound : List ℕ → Type 0} {literals_of : List ℕ → List (List Place)} {store_of : List ℕ → Store} (keeping : Keeping Sound literals_of store_of) {w w' : List ℕ} where
  -- a call on the slots
  pub moved : {f : Store → Store} → Good Sound w → Moved w w' f → Changes Sound store_of w w' f
  moved {f} g m = record {
    good = record { slots = m.good; literals = keeping.sound w w' m.behind g.literals };
    store = keeping.is w' ∙ ap (held w') (keeping.same w w' m.behind) ∙ m.store (literals_of w) ∙ ap f (sym (keeping.is w));
    size = m.size;
    outside = m.outside;
  }

  -- all cleared
  pub cleared : 16384 ≤ length w → Cleared 1120 w w' → Changes Sound store_of w w' (λ s. empty)
  cleared whole c =
      let z : (i : ℕ) → 1120 ≤ i → i < 1216 → word w' i ≡ 0 = c.zeros in
      let n = keeping.none w' (λ i h b. z i (omega arith) b) in
      record {
        good = record { slots = good-empty w' (omega (arith, c.size)) z; literals = n.0 };
        store = keeping.is w' ∙ store-eq (slots-empty w' (z 1152 (omega arith) (omega arith))) (reading-eq (z 1153 (omega arith) (omega arith)) (z 1154 (omega arith) (omega arith))) n.1;
        size = c.size;
        outside = λ i h. c.below i (omega arith);
      }

  -- the literals cleared
  pub forgotten : Good Sound w → Cleared 1155 w w' → Changes Sound store_of w w' unnumbered
  forgotten g c =
      let s = slots-below w w' g.slots c.size (λ i h. c.below i (omega arith)) in
      let n = keeping.none w' c.zeros in
      record {
        good = record { slots = s.0; literals = n.0 };
        store = keeping.is w' ∙ store-eq s.1 (reading-eq (c.below 1153 (omega arith)) (c.below 1154 (omega arith))) n.1 ∙ ap unnumbered (sym (keeping.is w));
        size = c.size;
        outside = λ i h. c.below i (omega arith);
      }
