-- Literals: where one stands, that there is always a page for the next, and what one more makes of them.
use mathlib.Core.Path.{◌≡◌, sym, ap, ap₂, ◌∙◌}
use mathlib.Core.List.{List, [], ◌∷◌, ◌++◌}
use mathlib.Core.Option.{some}
use Prim.Native.Nat.{ℕ, ◌+◌, ◌-◌, ◌*◌, ◌/◌, ◌%◌, ◌<◌, ◌≤◌}
use native.Mathlib.Omega.{arith}
use native.Mathlib.Numerals.{add-one}
use lib.ListN.{length, get_or, set, length-set}
use borrow.Author.Tests.{ne_eqb}
use Rattle.format.specs.Row.{Place}
use Rattle.format.specs.Read.{nth, total}
use Rattle.laws.specs.Facts.{by-eq}
use Rattle.store.specs.Lists.{upto, upto-nth, upto-ext, upto_snoc, upto-add_at, sum-at, sum-pages}
use Rattle.store.specs.Store.{added}
use Rattle.store.specs.Words.{word, all_of, count_of}
use Rattle.read_literals.specs.Words.{taken, pages, page_of, cell_at, cell_of, place_at, literal_of, literals_of, store_of, GoodLiterals, Good, Changes, next_page, Written}
use Rattle.read_literals.specs.Laws.{literals-at, count-is, count_most, total-is}
use Rattle.store.specs.Slots.{skip, hit, reading-eq, place-eq, store-eq, slots-below}

literal-is : (w : List ℕ) (k j : ℕ) → k < 32 → j < count_of w k → nth (get_or (store_of w).literals k []) j ≡ some (literal_of w k j)
unfolding literals_of
literal-is w k j h b = ap (λ (xs : List Place). nth xs j) (literals-at w k h) ∙ upto-nth (λ i. literal_of w k i) (count_of w k) j b

pub page-new : (w : List ℕ) (k : ℕ) → count_of w k % 64 ≡ 0 → next_page w k ≡ taken w
unfolding next_page
page-new w k e = rw e

pub page-old : (w : List ℕ) (k : ℕ) → (count_of w k % 64 ≡ 0 → ⊥) → next_page w k ≡ page_of w k (count_of w k / 64)
unfolding next_page
page-old w k e = rw (ne_eqb (count_of w k % 64) 0 e)

module _ (w : List ℕ) (g : GoodLiterals w) where
  taken-most : 64 * taken w ≤ all_of w + 2016
  taken-most = omega (arith, sum-pages (λ i. count_of w i) 32, g.total, g.room)

  page-most : (k j : ℕ) → k < 32 → j < count_of w k → page_of w k (j / 64) < 96
  page-most k j h b =
      let i : j / 64 < pages (count_of w k) = omega arith in
      omega (arith, g.inside k (j / 64) h i, taken-most, g.most)

  -- the page of a key's next literal
  module _ (key : ℕ) (hk : key < 32) where
    abbrev n : ℕ
    n = count_of w key

    next-below : next_page w key < taken w + (pages (n + 1) - pages n)
    next-below = by-eq (n % 64) 0
        (λ e. omega (arith, page-new w key e))
        (λ e. let i : n / 64 < pages n = omega arith in omega (arith, page-old w key e, g.inside key (n / 64) hk i))

    next-most : all_of w < 4096 → next_page w key < 96
    next-most room = omega (arith, next-below, taken-most)

    -- no page in use is that of the next literal, but its own
    next-apart : (k i : ℕ) → k < 32 → i < pages (count_of w k) → (k ≡ key → i ≡ n / 64 → ⊥) → page_of w k i ≡ next_page w key → ⊥
    next-apart k i h b o q = by-eq (n % 64) 0
        (λ e. omega (arith, page-new w key e, g.inside k i h b))
        (λ e. let b₁ : n / 64 < pages n = omega arith in
        let r = g.apart k i key (n / 64) h hk b b₁ (q ∙ page-old w key e) in
        o r.0 r.1)

-- ---- the words after the stores, one by one

-- starts that meet are of one page and one number on it; and a start is no size
cell-page : (a b p q : ℕ) → cell_at a p ≡ cell_at b q → a ≡ b
cell-page a b p q e = let x : p % 64 < 64 = omega arith in let y : q % 64 < 64 = omega arith in omega arith

cell-on : (a b p q : ℕ) → cell_at a p ≡ cell_at b q → p % 64 ≡ q % 64
cell-on a b p q e = let z = cell-page a b p q e in omega arith

start-size : (a b p q : ℕ) → cell_at a p ≡ cell_at b q + 64 → ⊥
start-size a b p q e = let x : p % 64 < 64 = omega arith in let y : q % 64 < 64 = omega arith in omega arith

module _ (w : List ℕ) (key n p q all s l : ℕ) (whole : 16384 ≤ length w) (hk : key < 32) (hn : n < 4096) (hp : p < 96) (ha : all ≡ all_of w) where
  abbrev w₁ : List ℕ
  w₁ = set w (2048 + 64 * key + n / 64) p

  abbrev w₂ : List ℕ
  w₂ = set w₁ (cell_at p n) s

  abbrev w₃ : List ℕ
  w₃ = set w₂ (cell_at p n + 64) l

  abbrev w₄ : List ℕ
  w₄ = set w₃ (1184 + key) (n + 1)

  abbrev w₅ : List ℕ
  w₅ = set w₄ 1155 q

  abbrev w₆ : List ℕ
  w₆ = set w₅ 1156 (all + 1)

  same : (a : ℕ) → (a ≡ 1156 → ⊥) × (a ≡ 1155 → ⊥) × (a ≡ 1184 + key → ⊥) × (a ≡ cell_at p n + 64 → ⊥) × (a ≡ cell_at p n → ⊥) × (a ≡ 2048 + 64 * key + n / 64 → ⊥) → word w₆ a ≡ word w a
  same a o = skip w₅ 1156 _ a o.0 ∙ skip w₄ 1155 _ a o.1 ∙ skip w₃ (1184 + key) _ a o.2 ∙ skip w₂ (cell_at p n + 64) _ a o.3 ∙ skip w₁ (cell_at p n) _ a o.4 ∙ skip w (2048 + 64 * key + n / 64) _ a o.5

  pub written : Written w w₆ key n p q (record { start = s; size = l })
  written =
      let b₁ : cell_at p n < length w₁ = simp length-set (omega arith) in
      let b₂ : cell_at p n + 64 < length w₂ = simp length-set (omega arith) in
      let b₃ : 1184 + key < length w₃ = simp length-set (omega arith) in
      let b₄ : 1155 < length w₄ = simp length-set (omega arith) in
      let b₅ : 1156 < length w₅ = simp length-set (omega arith) in
      record {
        size = simp length-set;
        below = λ i h. same i (omega arith);
        between = λ i h b. same i (omega arith);
        next = skip w₅ 1156 _ 1155 (omega arith) ∙ hit w₄ 1155 q b₄;
        all = hit w₅ 1156 (all + 1) b₅ ∙ ap (λ (m : ℕ). m + 1) ha;
        counted = let a : ℕ = 1184 + key in skip w₅ 1156 _ a (omega arith) ∙ skip w₄ 1155 _ a (omega arith) ∙ hit w₃ a (n + 1) b₃;
        counts = λ k h o. same (1184 + k) (omega arith);
        page = let a : ℕ = 2048 + 64 * key + n / 64 in
            skip w₅ 1156 _ a (omega arith) ∙ skip w₄ 1155 _ a (omega arith) ∙ skip w₃ (1184 + key) _ a (omega arith) ∙ skip w₂ (cell_at p n + 64) _ a (omega arith)
            ∙ skip w₁ (cell_at p n) _ a (omega arith) ∙ hit w a p (omega arith);
        pages = λ k i h b o. same (2048 + 64 * k + i) (omega arith, omega arith, omega arith, omega arith, omega arith, λ e. o (omega arith) (omega arith));
        here = let a : ℕ = cell_at p n in place-eq
            (skip w₅ 1156 _ a (omega arith) ∙ skip w₄ 1155 _ a (omega arith) ∙ skip w₃ (1184 + key) _ a (omega arith) ∙ skip w₂ (a + 64) _ a (omega arith) ∙ hit w₁ a s b₁)
            (skip w₅ 1156 _ (a + 64) (omega arith) ∙ skip w₄ 1155 _ (a + 64) (omega arith) ∙ skip w₃ (1184 + key) _ (a + 64) (omega arith) ∙ hit w₂ (a + 64) l b₂);
        cells = λ p' j h o. place-eq
            (same (cell_at p' j) (omega arith, omega arith, omega arith, start-size p' p j n, (λ e. o (cell-page p' p j n e) (cell-on p' p j n e)), omega arith))
            (same (cell_at p' j + 64) (
              omega arith,
              omega arith,
              omega arith,
              (λ e. let e₁ : cell_at p' j ≡ cell_at p n = omega arith in o (cell-page p' p j n e₁) (cell-on p' p j n e₁)),
              (λ e. start-size p p' n j (sym e)),
              omega arith,
            ));
      }

-- ---- a literal more

module _ (w w' : List ℕ) (key : ℕ) (x : Place) (good : Good w) (hk : key < 32) (room : all_of w < 4096)
    (c : Written w w' key (count_of w key) (next_page w key) (taken w + (pages (count_of w key + 1) - pages (count_of w key))) x) where
  abbrev g : GoodLiterals w
  g = good.literals

  abbrev m : ℕ
  m = count_of w key

  -- a page in use afterwards is that of the new literal, or was in use
  at-page : {P : Type 0} (k i : ℕ) → k < 32 → i < pages (count_of w' k)
      → (k ≡ key → i ≡ m / 64 → page_of w' k i ≡ next_page w key → P)
      → (i < pages (count_of w k) → (k ≡ key → i ≡ m / 64 → ⊥) → page_of w' k i ≡ page_of w k i → P) → P
  at-page k i h b f o =
      let s = count_most w g k h in
      by-eq k key
      (λ e. let b₁ : i < pages (m + 1) = rw (← c.counted, ← e) b in
      by-eq i (m / 64)
      (λ e₁. f e e₁ (rw (e, e₁) c.page))
      (λ z. let z₁ : k ≡ key → i ≡ m / 64 → ⊥ = λ y y₁. z y₁ in
      let b₂ : i < pages (count_of w k) = rw e (omega arith) in
      o b₂ z₁ (c.pages k i h (omega arith) z₁)))
      (λ z. let z₁ : k ≡ key → i ≡ m / 64 → ⊥ = λ y y₁. z y in
      let b₁ : i < pages (count_of w k) = rw (← c.counts k h z) b in
      o b₁ z₁ (c.pages k i h (omega arith) z₁))

  good-added : GoodLiterals w'
  good-added =
      let t = sum-at (λ k. count_of w k) (λ k. count_of w' k) 32 key 1 hk c.counted c.counts in
      let u = sum-at (λ k. pages (count_of w k)) (λ k. pages (count_of w' k)) 32 key (pages (m + 1) - pages m) hk (omega (arith, c.counted)) (λ j h z. ap (λ (y : ℕ). pages y) (c.counts j h z)) in
      let y = next-below w g key hk in
      record {
        total = omega (arith, c.all, g.total);
        most = omega (arith, c.all);
        room = omega (arith, c.next, g.room);
        inside = λ k i h b. at-page k i h b
            (λ e e₁ q. omega (arith, c.next))
            (λ b₁ z q. omega (arith, c.next, g.inside k i h b₁));
        apart = λ k i k' i' h h' b b' q. at-page k i h b
            (λ e e₁ d. at-page k' i' h' b'
            (λ f f₁ d'. (e ∙ sym f, e₁ ∙ sym f₁))
            (λ b₁ z d'. absurd (next-apart w g key hk k' i' h' b₁ z (sym d' ∙ sym q ∙ d))))
            (λ b₁ z d. at-page k' i' h' b'
            (λ f f₁ d'. absurd (next-apart w g key hk k i h b₁ z (sym d ∙ q ∙ d')))
            (λ b₂ z' d'. g.apart k i k' i' h h' b₁ b₂ (sym d ∙ q ∙ d')));
      }

  -- a literal that was there is where it was
  page-kept : (k j : ℕ) → k < 32 → j < count_of w k → page_of w' k (j / 64) ≡ page_of w k (j / 64)
  page-kept k j h b =
      let s = count_most w g k h in
      by-eq k key
      (λ e. by-eq (j / 64) (m / 64)
      (λ e₁. let b₁ : j < m = rw (← e) b in
      let z : m % 64 ≡ 0 → ⊥ = λ y. omega arith in
      rw (e, e₁) (c.page ∙ page-old w key z))
      (λ z. c.pages k (j / 64) h (omega arith) (λ y y₁. z y₁)))
      (λ z. c.pages k (j / 64) h (omega arith) (λ y y₁. z y))

  literal-kept : (k j : ℕ) → k < 32 → j < count_of w k → literal_of w' k j ≡ literal_of w k j
  literal-kept k j h b =
      let b₁ : j / 64 < pages (count_of w k) = omega arith in
      ap (λ (y : ℕ). place_at w' (cell_at y j)) (page-kept k j h b)
      ∙ c.cells (page_of w k (j / 64)) j (page-most w g k j h b)
      (λ e r. next-apart w g key hk k (j / 64) h b₁ (λ f f₁. let b₂ : j < m = rw (← f) b in omega arith) e)

  others : (k : ℕ) → k < 32 → (k ≡ key → ⊥) → literals_of w' k ≡ literals_of w k
  unfolding literals_of
  others k h z = rw (c.counts k h z) (upto-ext (λ j. literal_of w' k j) (λ j. literal_of w k j) (count_of w k) (λ j b. literal-kept k j h b))

  mine : literals_of w' key ≡ literals_of w key ++ x ∷ []
  unfolding literals_of
  mine =
      let f : upto (λ j. literal_of w' key j) m ≡ upto (λ j. literal_of w key j) m = upto-ext (λ j. literal_of w' key j) (λ j. literal_of w key j) m (λ j b. literal-kept key j hk b) in
      let y : literal_of w' key m ≡ x = ap (λ (i : ℕ). place_at w' (cell_at i m)) c.page ∙ c.here in
      ap (λ (i : ℕ). upto (λ j. literal_of w' key j) i) (c.counted ∙ add-one m) ∙ upto_snoc (λ j. literal_of w' key j) m ∙ ap₂ (λ (ls : List Place) (a : Place). ls ++ a ∷ []) f y

  all-added : Changes w w' (added key x)
  unfolding store_of
  all-added =
      let b : (i : ℕ) → i < 1155 → word w' i ≡ word w i = c.below in
      let s = slots-below w w' good.slots c.size (λ i h. b i (omega arith)) in
      record {
        good = record { slots = s.0; literals = good-added };
        store = store-eq
            s.1
            (reading-eq (b 1153 (omega arith)) (b 1154 (omega arith)))
            (upto-add_at (λ k. literals_of w k) (λ k. literals_of w' k) 32 key x hk mine others);
        size = c.size;
        outside = λ i h. b i (omega arith);
      }

-- ---- as the code has it

module _ (w : List ℕ) (good : Good w) (k j : ℕ) (hk : k < 32) (h : j < length (get_or (store_of w).literals k [])) where
  counted : j < count_of w k
  counted = omega (arith, count-is w k hk)

  pub get_in : (j < 4096) × (page_of w k (j / 64) < 96)
  get_in = (omega (arith, counted, count_most w good.literals k hk, good.literals.most), page-most w good.literals k j hk counted)

  pub get-is : {at s l : ℕ} → at ≡ cell_of w k j → s ≡ word w at → l ≡ word w (at + 64) → nth (get_or (store_of w).literals k []) j ≡ some (record { start = s; size = l })
  get-is e a b = rw (a, b, e) (literal-is w k j hk counted)

module _ (w : List ℕ) (good : Good w) (key : ℕ) (hk : key < 32) (room : total (store_of w).literals < 4096) {n p t a b : ℕ}
    (en : n ≡ count_of w key) (ep : p ≡ next_page w key) (et : t ≡ taken w) (ea : a ≡ pages (n + 1)) (eb : b ≡ pages n) where
  all_room : all_of w < 4096
  all_room = omega (arith, total-is w good.literals)

  pub add-in : (n < 4096) × (p < 96) × (t + a - b ≤ 96) × (all_of w < 4096)
  add-in =
      let g = good.literals in
      let r = all_room in
      (omega (arith, count_most w g key hk), omega (arith, next-most w g key hk r), omega (arith, taken-most w g), r)

  pub add_is : {w' : List ℕ} {x : Place} → Written w w' key n p (t + a - b) x → Changes w w' (added key x)
  add_is {w'} {x} c =
      let q : t + a - b ≡ taken w + (pages (n + 1) - pages n) = omega arith in
      all-added w w' key x good hk all_room (rw (← en, ← ep, ← q) c)
