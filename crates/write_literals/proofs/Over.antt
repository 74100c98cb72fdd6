-- A literal too many: the word that says so is none of the slots and none of the literals.
use mathlib.Core.Path.{◌≡◌, ap}
use mathlib.Core.List.{List}
use Prim.Native.Nat.{ℕ, ◌≤◌}
use native.Mathlib.Omega.{arith}
use lib.Dec.{ltb}
use lib.ListN.{set, length-set}
use Rattle.store.specs.Words.{word}
use Rattle.store.specs.Slots.{skip, hit, slots-below}
use Rattle.write_literals.specs.Store.{overfull, store-eq}
use Rattle.write_literals.specs.Words.{store_of, Good, Changes}
use Rattle.write_literals.specs.Laws.{literals-kept, good-literals-kept}

module _ (w : List ℕ) (good : Good w) where
  abbrev w₁ : List ℕ
  w₁ = set w 1155 1

  same : (i : ℕ) → (i ≡ 1155 → ⊥) → word w₁ i ≡ word w i
  same i d = skip w 1155 1 i d

  pub over-set : Changes w w₁ overfull
  unfolding store_of
  over-set =
      let behind : (i : ℕ) → 1156 ≤ i → word w₁ i ≡ word w i = λ i h. same i (omega arith) in
      let s = slots-below w w₁ good.slots (simp length-set) (λ i h. same i (omega arith)) in
      record {
        good = record { slots = s.0; literals = good-literals-kept w w₁ behind good.literals };
        store = store-eq s.1 (literals-kept w w₁ behind) (ap (λ (n : ℕ). ltb 0 n) (hit w 1155 1 (omega (arith, good.slots.whole))));
        size = simp length-set;
        outside = λ i h. same i (omega arith);
      }
