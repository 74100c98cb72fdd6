-- Laws of the literals for the callers: how many there are, and that calls on the slots and the counts are calls on this store.
use Rattle.std.specs.Prelude.{◌≡◌, Bool, ◌&&◌, List, [], ◌∷◌, ◌++◌, eqb, get_or}
use Rattle.std.proofs.Math.Path.{refl, sym, ap}
use Rattle.std.proofs.Common.{ap₂, ◌∙◌}
use Rattle.std.proofs.Math.Bool.{true, false, cond}
use Prim.Native.Nat.{ℕ, zero, suc, ◌+◌, ◌-◌, ◌*◌, ◌/◌, ◌%◌, ◌<◌, ◌≤◌}
use native.Mathlib.Omega.{arith}
use Rattle.std.proofs.Math.Dec.{ltb}
use Rattle.std.proofs.Math.ListN.{length}
use borrow.Author.Tests.{eq-eqb, ne_eqb, lt-ltb, le-ltb}
use Rattle.format.specs.Read.{Reading, no_literals, total}
use Rattle.store.specs.Lists.{upto, sum_to, upto-get_or, upto-ext, upto-replicate, upto-total, sum-ext, sum-ge}
use Rattle.store.specs.Words.{word, all_of, count_of, slots_of, held, Moved, Cleared}
use Rattle.store.specs.Store as memory
use Rattle.store.specs.Keeping.{Keeping}
use Rattle.store.specs.Keeping as kept
use Rattle.write_literals.specs.Store.{Literal, Store, empty, opened, advanced, unnumbered, literal-eq, store-eq}
use Rattle.write_literals.specs.Words.{literal_at, owner_of, key_at, bucket, bucket_of, key_literals, store_of, lane, head_of, link_of, On, First, Linked, GoodLiterals, Good, Changes}

-- ---- how many there are

pub literals-at : (w : List ℕ) (k : ℕ) → k < 32 → get_or (store_of w).literals k [] ≡ key_literals w k (all_of w)
unfolding store_of
literals-at w k h = upto-get_or (λ i. key_literals w i (all_of w)) 32 k [] h

module _ (w : List ℕ) (g : GoodLiterals w) where
  pub count-is : (k : ℕ) → k < 32 → count_of w k ≡ length (get_or (store_of w).literals k [])
  count-is k h = g.counted k h ∙ sym (ap length (literals-at w k h))

  pub count_most : (k : ℕ) → k < 32 → count_of w k ≤ all_of w
  count_most k h = omega (arith, sum-ge (λ i. count_of w i) 32 k h, g.total)

  pub total-is : all_of w ≡ total (store_of w).literals
  unfolding store_of
  total-is = g.total ∙ sym (upto-total (λ k. key_literals w k (all_of w)) 32 ∙ sum-ext (λ k. length (key_literals w k (all_of w))) (λ k. count_of w k) 32 (λ k h. sym (g.counted k h)))

-- ---- heads

module _ (w : List ℕ) (b : ℕ) where
  pub head-none : head_of w b 0 ≡ 0
  unfolding head_of
  head-none = refl

  -- a literal of the bucket
  pub head-on : (r : ℕ) → 0 < r → r ≤ all_of w → bucket_of w (r - 1) ≡ b → head_of w b r ≡ r
  unfolding head_of
  head-on zero p h e = absurd (omega arith)
  head-on (suc g) p h e = let q : suc g - 1 ≡ g = omega arith in rw (lt-ltb g (all_of w) (omega arith), eq-eqb (bucket_of w g) b (rw q at e))

  -- a literal of another one
  pub head-off : (r : ℕ) → (bucket_of w (r - 1) ≡ b → ⊥) → head_of w b r ≡ 0
  unfolding head_of
  head-off zero d = refl
  head-off (suc g) d = let q : suc g - 1 ≡ g = omega arith in rw (ne_eqb (bucket_of w g) b (rw q at d)) (go (ltb g (all_of w)))
    where
      go : (t : Bool) → cond (t && false) (suc g) 0 ≡ 0
      go true = refl
      go false = refl

  -- no literal
  pub head-beyond : (r : ℕ) → all_of w < r → head_of w b r ≡ 0
  unfolding head_of
  head-beyond zero h = refl
  head-beyond (suc g) h = rw (le-ltb g (all_of w) (omega arith))

pub head-kept : (w w' : List ℕ) (b r : ℕ) → all_of w' ≡ all_of w → ((g : ℕ) → bucket_of w' g ≡ bucket_of w g) → head_of w' b r ≡ head_of w b r
unfolding head_of
head-kept w w' b zero a s = refl
head-kept w w' b (suc g) a s = ap₂ (λ (t c : ℕ). cond (ltb g t && eqb c b) (suc g) 0) a (s g)

pub first_done : (w : List ℕ) (b i t : ℕ) → t ≤ i → First w b i t 0
first_done w b i t h = record {
  most = omega arith;
  least = λ l. absurd (omega arith);
  here = λ g e. absurd (omega arith);
  before = λ g l m e. omega arith;
  none = λ z g l m e. omega arith;
}

-- ---- what stays where the words stay

module _ (w w' : List ℕ) where
  pub key-literals-kept : (k t : ℕ) → ((g : ℕ) → g < t → key_at w' g ≡ key_at w g) → ((g : ℕ) → g < t → literal_at w' g ≡ literal_at w g) → key_literals w' k t ≡ key_literals w k t
  unfolding key_literals
  key-literals-kept k zero a b = refl
  key-literals-kept k (suc t) a b =
      rw (key-literals-kept k t (λ g h. a g (omega arith)) (λ g h. b g (omega arith)))
      (ap₂ (λ (n : ℕ) (x : Literal). key_literals w k t ++ cond (eqb n k) (x ∷ []) []) (a t (omega arith)) (b t (omega arith)))

  pub on-kept : {b r t : ℕ} → ((g : ℕ) → g < t → bucket_of w' g ≡ bucket_of w g) → r ≤ t → On w b r → On w' b r
  on-kept s m o g e = s g (omega arith) ∙ o g e

  pub on-was : {b r t : ℕ} → ((g : ℕ) → g < t → bucket_of w' g ≡ bucket_of w g) → r ≤ t → On w' b r → On w b r
  on-was s m o g e = sym (s g (omega arith)) ∙ o g e

  pub first-kept : {b i t r : ℕ} → ((g : ℕ) → g < t → bucket_of w' g ≡ bucket_of w g) → First w b i t r → First w' b i t r
  first-kept s f =
      let m = f.most in
      record {
        most = m;
        least = f.least;
        here = on-kept s m f.here;
        before = λ g h l e. f.before g h l (sym (s g (omega arith)) ∙ e);
        none = λ z g h l e. f.none z g h l (sym (s g l) ∙ e);
      }

-- word 1,155 is none of theirs
module _ (w w' : List ℕ) (e : (i : ℕ) → 1156 ≤ i → word w' i ≡ word w i) where
  all_same : all_of w' ≡ all_of w
  all_same = e 1156 (omega arith)

  owner-same : (g : ℕ) → owner_of w' g ≡ owner_of w g
  owner-same g = ap (λ (m : ℕ). m / 8192) (e (4096 + 3 * g + 2) (omega arith))

  key-same : (g : ℕ) → key_at w' g ≡ key_at w g
  key-same g = ap (λ (m : ℕ). m / 4096) (owner-same g)

  key-literals-same : (k t : ℕ) → key_literals w' k t ≡ key_literals w k t
  key-literals-same k t = key-literals-kept w w' k t (λ g h. key-same g) (λ g h. literal-eq (e (4096 + 3 * g) (omega arith)) (e (4096 + 3 * g + 1) (omega arith)))

  bucket-same : (g : ℕ) → bucket_of w' g ≡ bucket_of w g
  bucket-same g = ap₂ (λ (k s : ℕ). bucket k s) (key-same g) (e (4096 + 3 * g + 1) (omega arith))

  pub literals-kept : upto (λ k. key_literals w' k (all_of w')) 32 ≡ upto (λ k. key_literals w k (all_of w)) 32
  literals-kept = upto-ext (λ k. key_literals w' k (all_of w')) (λ k. key_literals w k (all_of w)) 32 (λ k h. ap (λ (t : ℕ). key_literals w' k t) all_same ∙ key-literals-same k (all_of w))

  leads-same : (b i : ℕ) → link_of w' b i ≡ link_of w b i
  unfolding link_of
  leads-same b zero = head-kept w w' b _ all_same bucket-same ∙ ap (λ (x : ℕ). head_of w b (lane (b % 2) x)) (e (2048 + b / 2) (omega arith))
  leads-same b (suc g) = ap (lane 0) (e (4096 + 3 * g + 2) (omega arith))

  linked-same : Linked w (all_of w) → Linked w' (all_of w')
  linked-same l b i h m o =
      let m₁ : i ≤ all_of w = rw (← all_same) m in
      rw (all_same, leads-same b i) (first-kept w w' (λ g z. bucket-same g) (l b i h m₁ (on-was w w' (λ g z. bucket-same g) m₁ o)))

  pub good-literals-kept : GoodLiterals w → GoodLiterals w'
  good-literals-kept g =
      let c : (k : ℕ) → count_of w' k ≡ count_of w k = λ k. e (1184 + k) (omega arith) in
      let a = all_same in
      record {
        total = a ∙ g.total ∙ sum-ext (λ k. count_of w k) (λ k. count_of w' k) 32 (λ k h. sym (c k));
        most = rw a g.most;
        counted = λ k h. c k ∙ g.counted k h ∙ sym (ap (λ (t : ℕ). length (key_literals w' k t)) a ∙ ap length (key-literals-same k (all_of w)));
        numbered = λ i h. ap (λ (m : ℕ). m % 4096) (owner-same i) ∙ g.numbered i (rw a at h) ∙ sym (ap (λ (k : ℕ). length (key_literals w' k i)) (key-same i) ∙ ap length (key-literals-same (key_at w i) i));
        linked = linked-same g.linked;
      }

module _ (w : List ℕ) (z : (i : ℕ) → 1155 ≤ i → i < 1216 → word w i ≡ 0) where
  none-all : all_of w ≡ 0
  none-all = z 1156 (omega arith) (omega arith)

  none-count : (k : ℕ) → k < 32 → count_of w k ≡ 0
  none-count k h = z (1184 + k) (omega arith) (omega arith)

  none-of-key : (k : ℕ) → key_literals w k (all_of w) ≡ []
  unfolding key_literals
  none-of-key k = rw none-all

  leads-none : (b i : ℕ) → i ≡ 0 → link_of w b i ≡ 0
  unfolding link_of
  leads-none b zero e = go (lane (b % 2) (word w (2048 + b / 2)))
    where
      go : (r : ℕ) → head_of w b r ≡ 0
      go zero = head-none w b
      go (suc g) = head-beyond w b (suc g) (omega (arith, none-all))
  leads-none b (suc g) e = absurd (omega arith)

  good_none : GoodLiterals w
  unfolding sum_to
  good_none = record {
    total = none-all ∙ sym (sum-ext (λ k. count_of w k) (λ k. 0) 32 none-count);
    most = omega (arith, none-all);
    counted = λ k h. none-count k h ∙ sym (ap length (none-of-key k));
    numbered = λ g h. absurd (omega (arith, none-all));
    linked = λ b i h l o. let z₀ : i ≡ 0 = omega (arith, none-all) in rw (leads-none b i z₀) (first_done w b i (all_of w) (omega (arith, none-all)));
  }

  literals-none : upto (λ k. key_literals w k (all_of w)) 32 ≡ no_literals
  literals-none = upto-ext (λ k. key_literals w k (all_of w)) (λ k. []) 32 (λ k h. none-of-key k) ∙ upto-replicate {A = List Literal} [] 32

-- The slots are those of `store`, where they stand with no literals.
abbrev slots_in : List ℕ → memory.Store
slots_in w = held w no_literals

keeping : Keeping GoodLiterals (λ w. no_literals) slots_in
keeping = record { is = λ w. refl; sound = λ w w' e. good-literals-kept w w' (λ i h. e i (omega arith)); same = λ w w' e. refl; none = λ w z. (good_none w z, refl) }

pub looked-up : (w : List ℕ) (k : ℕ) → memory.lookup k (slots_of w) ≡ memory.lookup k (store_of w).slots
unfolding store_of
looked-up w k = refl

module _ {w w' : List ℕ} where
  by_slots : {f : memory.Store → memory.Store} {g : Store → Store} → kept.Changes GoodLiterals slots_in w w' f → store_of w' ≡ g (store_of w) → Changes w w' g
  by_slots c e = record { good = c.good; store = e; size = c.size; outside = c.outside }

  -- a call on the slots
  moved_store : {f : memory.Store → memory.Store} → Moved w w' f → store_of w' ≡ record { slots = (f (slots_in w)).slots; literals = (store_of w).literals; over = (store_of w).over }
  unfolding store_of
  moved_store m = store-eq (ap (λ (s : memory.Store). s.slots) (m.store no_literals)) (literals-kept w w' (λ i h. m.behind i (omega arith))) (ap (λ (x : ℕ). ltb 0 x) (m.behind 1155 (omega arith)))

  pub moved-opened : (k : ℕ) (p : Reading) → Good w → Moved w w' (memory.opened k p) → Changes w w' (opened k p)
  unfolding store_of
  moved-opened k p g m = by_slots (kept.moved keeping g m) (moved_store m)

  pub moved-advanced : (k n : ℕ) → Good w → Moved w w' (memory.advanced k n) → Changes w w' (advanced k n)
  unfolding store_of
  moved-advanced k n g m = by_slots (kept.moved keeping g m) (moved_store m)

  -- all cleared
  pub cleared : 16384 ≤ length w → Cleared 1120 w w' → Changes w w' (λ s. empty)
  unfolding store_of
  cleared whole c =
      let d = kept.cleared keeping whole c in
      let z : (i : ℕ) → 1155 ≤ i → i < 1216 → word w' i ≡ 0 = λ i h l. c.zeros i (omega arith) l in
      by_slots d (store-eq (ap (λ (s : memory.Store). s.slots) d.store) (literals-none w' z) (le-ltb 0 (word w' 1155) (omega (arith, z 1155 (omega arith) (omega arith)))))

  -- the literals cleared
  pub forgotten : Good w → Cleared 1155 w w' → Changes w w' unnumbered
  unfolding store_of
  forgotten g c =
      let d = kept.forgotten keeping g c in
      by_slots d (store-eq (ap (λ (s : memory.Store). s.slots) d.store) (literals-none w' c.zeros) (le-ltb 0 (word w' 1155) (omega (arith, c.zeros 1155 (omega arith) (omega arith)))))
