-- Words after a store, and the slots where their words stay as they were.
use Rattle.std.specs.Prelude.{◌≡◌, List, ℕ, ◌+◌, ◌<◌, ◌≤◌, min, length, set}
use Rattle.std.proofs.Common.{sym, ap, ◌∙◌, arith, get_or-set_same, get_or-set_other}
use Rattle.format.specs.Row.{Place}
use Rattle.format.specs.Read.{Reading}
use Rattle.store.specs.Lists.{upto-ext, sum-ext, sum-most}
use Rattle.store.specs.Store.{Store}
use Rattle.store.specs.Words.{word, key_of, index_of, slot_count, slot_of, slots_of, GoodSlots}

pub skip : (w : List ℕ) (i x a : ℕ) → (a ≡ i → ⊥) → word (set w i x) a ≡ word w a
skip w i x a h = get_or-set_other w i a x 0 h

pub hit : (w : List ℕ) (i x : ℕ) → i < length w → word (set w i x) i ≡ x
hit w i x h = get_or-set_same w i x 0 h

pub reading-eq : {a b c d : ℕ} → a ≡ c → b ≡ d → ◌≡◌ {A = Reading} (record { at = a; end = b }) (record { at = c; end = d })
reading-eq e f = rw (e, f)

pub place-eq : {a b c d : ℕ} → a ≡ c → b ≡ d → ◌≡◌ {A = Place} (record { start = a; size = b }) (record { start = c; size = d })
place-eq e f = rw (e, f)

pub store-eq : {a a' : List (ℕ × Reading)} {b b' : Reading} {c c' : List (List Place)} → a ≡ a' → b ≡ b' → c ≡ c'
    → ◌≡◌ {A = Store} (record { slots = a; rest = b; literals = c }) (record { slots = a'; rest = b'; literals = c' })
store-eq e f g = rw (e, f, g)

pub slot-most : (w : List ℕ) → GoodSlots w → slot_count w ≤ 32
slot-most w g = omega (arith, g.room, sum-most (λ k. min 1 (index_of w k)) 32 (λ j. omega arith))

module _ (w w' : List ℕ) (g : GoodSlots w) (l : length w' ≡ length w) (c : slot_count w' ≡ slot_count w) (a : (i : ℕ) → i < 32 → key_of w' i ≡ key_of w i) where
  key-kept : (i : ℕ) → i < slot_count w → key_of w' i ≡ key_of w i
  key-kept i h = let m = slot-most w g in a i (omega arith)

  pub good-slots-kept : ((k : ℕ) → k < 32 → index_of w' k ≡ index_of w k) → GoodSlots w'
  good-slots-kept x =
      record {
        whole = omega (arith, g.whole);
        named = λ i h. let h₁ : i < slot_count w = omega arith in rw (key-kept i h₁) (g.named i h₁);
        indexed = λ i h. let h₁ : i < slot_count w = omega arith in rw (key-kept i h₁, x (key_of w i) (g.named i h₁)) (g.indexed i h₁);
        listed = λ k i h q. let r = g.listed k i h (sym (x k h) ∙ q) in (rw c r.0, key-kept i r.0 ∙ r.1);
        room = c ∙ g.room ∙ sum-ext (λ k. min 1 (index_of w k)) (λ k. min 1 (index_of w' k)) 32 (λ k h. ap (λ (n : ℕ). min 1 n) (sym (x k h)));
      }

module _ (w w' : List ℕ) (g : GoodSlots w) (l : length w' ≡ length w) (e : (i : ℕ) → i < 1153 → word w' i ≡ word w i) where
  pub slots-below : GoodSlots w' × (slots_of w' ≡ slots_of w)
  unfolding slots_of
  slots-below =
      let c : slot_count w' ≡ slot_count w = e 1152 (omega arith) in
      let a : (i : ℕ) → i < 32 → key_of w' i ≡ key_of w i = λ i h. e (1024 + i) (omega arith) in (
        good-slots-kept w w' g l c a (λ k h. e (1120 + k) (omega arith)),
        rw c (upto-ext (λ i. slot_of w' i) (λ i. slot_of w i) (slot_count w) (λ i h.
            let n = g.named i h in
            rw (key-kept w w' g l c a i h, e (1056 + key_of w i) (omega arith), e (1088 + key_of w i) (omega arith)))),
      )
