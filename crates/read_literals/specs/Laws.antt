-- Laws of the literals for the callers: how many there are, and that calls on the slots and the counts are calls on this store.
use Rattle.std.specs.Prelude.{◌≡◌, refl, ℕ, ◌+◌, ◌*◌, ◌/◌, ◌<◌, ◌≤◌, length, get_or}
use Rattle.std.proofs.Math.Path.{sym}
use Rattle.std.proofs.Common.{ap, ◌∙◌, arith}
use mathlib.Core.List.{List, []}
use Rattle.format.specs.Row.{Place}
use Rattle.format.specs.Read.{no_literals, total}
use Rattle.store.specs.Lists.{upto, sum_to, upto-length, upto-get_or, upto-ext, upto-replicate, upto-total, sum-ext, sum-ge}
use Rattle.store.specs.Words.{word, all_of, count_of, Begun}
use Rattle.store.specs.Slots.{reading-eq, place-eq, store-eq, slots-below}
use Rattle.store.specs.Keeping.{Keeping}
use Rattle.read_literals.specs.Words.{taken, pages, page_of, cell_at, literal_of, literals_of, store_of, GoodLiterals, Good, Changes}

pub literals-length : (w : List ℕ) (k : ℕ) → length (literals_of w k) ≡ count_of w k
unfolding literals_of
literals-length w k = upto-length (λ j. literal_of w k j) (count_of w k)

pub literals-at : (w : List ℕ) (k : ℕ) → k < 32 → get_or (store_of w).literals k [] ≡ literals_of w k
unfolding store_of
literals-at w k h = upto-get_or (λ i. literals_of w i) 32 k [] h

pub count-is : (w : List ℕ) (k : ℕ) → k < 32 → count_of w k ≡ length (get_or (store_of w).literals k [])
count-is w k h = sym (ap length (literals-at w k h) ∙ literals-length w k)

pub total-is : (w : List ℕ) → GoodLiterals w → all_of w ≡ total (store_of w).literals
unfolding store_of
total-is w g = g.total ∙ sym (upto-total (λ k. literals_of w k) 32 ∙ sum-ext (λ k. length (literals_of w k)) (λ k. count_of w k) 32 (λ k h. literals-length w k))

pub count_most : (w : List ℕ) → GoodLiterals w → (k : ℕ) → k < 32 → count_of w k ≤ all_of w
count_most w g k h = omega (arith, sum-ge (λ i. count_of w i) 32 k h, g.total)

-- the words between the last count and the pages make no difference
module _ (w w' : List ℕ) (e : (i : ℕ) → 1155 ≤ i → i < 1216 → word w' i ≡ word w i) (f : (i : ℕ) → 2048 ≤ i → word w' i ≡ word w i) where
  literals-kept : upto (λ k. literals_of w' k) 32 ≡ upto (λ k. literals_of w k) 32
  unfolding literals_of
  literals-kept = upto-ext (λ k. literals_of w' k) (λ k. literals_of w k) 32 (λ k h.
      rw (e (1184 + k) (omega arith) (omega arith)) (upto-ext (λ j. literal_of w' k j) (λ j. literal_of w k j) (count_of w k) (λ j b.
      let p = page_of w k (j / 64) in
      rw (f (2048 + 64 * k + j / 64) (omega arith)) (place-eq (f (cell_at p j) (omega arith)) (f (cell_at p j + 64) (omega arith))))))

  good-literals-kept : GoodLiterals w → GoodLiterals w'
  good-literals-kept g =
      let c : (k : ℕ) → k < 32 → count_of w' k ≡ count_of w k = λ k h. e (1184 + k) (omega arith) (omega arith) in
      let p : (k i : ℕ) → page_of w' k i ≡ page_of w k i = λ k i. f (2048 + 64 * k + i) (omega arith) in
      let a : all_of w' ≡ all_of w = e 1156 (omega arith) (omega arith) in
      let t : taken w' ≡ taken w = e 1155 (omega arith) (omega arith) in
      record {
        total = a ∙ g.total ∙ sum-ext (λ k. count_of w k) (λ k. count_of w' k) 32 (λ k h. sym (c k h));
        most = rw a g.most;
        room = t ∙ g.room ∙ sum-ext (λ k. pages (count_of w k)) (λ k. pages (count_of w' k)) 32 (λ k h. ap (λ (n : ℕ). pages n) (sym (c k h)));
        inside = λ k i h b. rw (p k i, t) (g.inside k i h (rw (c k h) at b));
        apart = λ k i k' i' h h' b b' q. g.apart k i k' i' h h' (rw (c k h) at b) (rw (c k' h') at b') (sym (p k i) ∙ q ∙ p k' i');
      }

module _ (w : List ℕ) (z : (i : ℕ) → 1155 ≤ i → i < 1216 → word w i ≡ 0) where
  no-literal : (k : ℕ) → k < 32 → count_of w k ≡ 0
  no-literal k h = z (1184 + k) (omega arith) (omega arith)

  no-page : (k i : ℕ) → k < 32 → i < pages (count_of w k) → ⊥
  no-page k i h b = let e = no-literal k h in omega arith

  -- where these words are 0, there are no literals
  good_none : GoodLiterals w
  unfolding sum_to
  good_none =
      record {
        total = z 1156 (omega arith) (omega arith) ∙ sym (sum-ext (λ k. count_of w k) (λ k. 0) 32 no-literal);
        most = omega (arith, z 1156 (omega arith) (omega arith));
        room = z 1155 (omega arith) (omega arith) ∙ sym (sum-ext (λ k. pages (count_of w k)) (λ k. 0) 32 (λ k h. let e = no-literal k h in omega arith));
        inside = λ k i h b. absurd (no-page k i h b);
        apart = λ k i k' i' h h' b b' q. absurd (no-page k i h b);
      }

  literals-none : upto (λ k. literals_of w k) 32 ≡ no_literals
  unfolding literals_of upto
  literals-none =
      let e : upto (λ k. literals_of w k) 32 ≡ upto (λ k. []) 32 = upto-ext (λ k. literals_of w k) (λ k. []) 32 (λ k h. rw (no-literal k h)) in
      e ∙ upto-replicate {A = List Place} [] 32

pub keeping : Keeping GoodLiterals (λ w. upto (λ k. literals_of w k) 32) store_of
unfolding store_of
keeping = record { is = λ w. refl; sound = λ w w' e. good-literals-kept w w' (λ i h b. e i h) (λ i h. e i (omega arith)); same = λ w w' e. literals-kept w w' (λ i h b. e i h) (λ i h. e i (omega arith)); none = λ w z. (good_none w z, literals-none w z) }

-- where a key's piece begins makes no difference
pub begins : {w w' : List ℕ} {k start : ℕ} → k < 32 → Good w → Begun w w' k start → Changes w w' (λ s. s)
unfolding store_of
begins {w} {w'} h g b =
    let e : (i : ℕ) → i < 1216 → word w' i ≡ word w i = λ i l. b.others i (omega arith) in
    let f : (i : ℕ) → 2048 ≤ i → word w' i ≡ word w i = λ i l. b.others i (omega arith) in
    let s = slots-below w w' g.slots b.size (λ i l. e i (omega arith)) in
    record {
      good = record { slots = s.0; literals = good-literals-kept w w' (λ i l n. e i n) f g.literals };
      store = store-eq s.1 (reading-eq (e 1153 (omega arith)) (e 1154 (omega arith))) (literals-kept w w' (λ i l n. e i n) f);
      size = b.size;
      outside = λ i l. e i (omega arith);
    }
