-- Pass 15: the notes of the keys' first BLOCKs.
use mathlib.Core.Path.{◌≡◌, refl, sym, ap, ◌∙◌}
use mathlib.Core.Bool.{Bool, true, false, ◌&&◌}
use mathlib.Core.List.{List, ◌++◌}
use Prim.Native.Nat.{ℕ, zero, suc, ◌+◌, ◌-◌, ◌<◌, ◌≤◌}
use native.Mathlib.Omega.{arith}
use lib.Dec.{eqb}
use lib.ListN.{length, get_or, take, drop, set, length-set, length-append, length-drop, length-replicate, get_or-replicate, get_or-append}
use lib.Seq.{length-take-le, get_or-set_same, get_or-set_other, get_or-take, get_or-append-add}
use borrow.Author.Tests.{eq-eqb, ne_eqb, eqb-true, eqb-false}
use Rattle.format.specs.Answer.{zeros}
use Rattle.format.specs.Table.{TableNode, BLOCK, first_from, is_block_of, first_block, alike, agrees}
use Rattle.laws.specs.Facts.{by-lt}
use Rattle.table.specs.Passes.{First, Note, note_in, Notes, first_of, Beside}

-- ---- a note, for any test

module _ (test : ℕ → Bool) where
  from_first : (f : ℕ) → First test f → (m i o : ℕ) → i ≤ f → f < i + m → first_from i m test o ≡ f
  unfolding first_from First
  from_first f h zero i o a b = absurd (omega arith)
  from_first f h (suc m) i o a b = by-lt i f
      (λ l. let t : test i ≡ false = h.1 i l in simp t (from_first f h m (suc i) o (omega arith) (omega arith)))
      (λ l. let e : i ≡ f = omega arith in rw e (simp h.0))

  pub first-is : (n f : ℕ) → First test f → f < n → first_from 0 n test n ≡ f
  first-is n f h l = from_first f h n 0 n (omega arith) (omega arith)

  module _ (i x : ℕ) (h : Note test i x) where
    pub note-more : test i ≡ false → Note test (i + 1) x
    note-more t = record {
      none = λ z k l. by-lt k i (λ m. h.none z k m) (λ m. let e : k ≡ i = omega arith in rw e t);
      some = h.some;
      within = omega (arith, h.within);
    }

    first-none : x ≡ 0 → first_of x i ≡ i
    unfolding first_of
    first-none z = simp z

    first_some : (x ≡ 0 → ⊥) → first_of x i ≡ x - 1
    unfolding first_of
    first_some z = simp (ne_eqb _ _ z)

    -- where node i passes, the note leads to the first that does
    pub note-first : test i ≡ true → First test (first_of x i)
    unfolding First
    note-first t = go (eqb x 0) refl
      where
        go : (b : Bool) → eqb x 0 ≡ b → First test (first_of x i)
        go true e = rw (first-none (eqb-true x 0 e)) (t, h.none (eqb-true x 0 e))
        go false e = let z = eqb-false x 0 e in rw (first_some z) (h.some (x - 1) (omega arith))

    pub first-within : first_of x i ≤ i
    first-within = go (eqb x 0) refl
      where
        go : (b : Bool) → eqb x 0 ≡ b → first_of x i ≤ i
        go true e = omega (arith, first-none (eqb-true x 0 e))
        go false e = omega (arith, first_some (eqb-false x 0 e), h.within)

    pub note-noted : test i ≡ true → Note test (i + 1) (first_of x i + 1)
    note-noted t = record {
      none = λ z k l. absurd (omega arith);
      some = λ f e. let q : first_of x i ≡ f = omega arith in rw (← q) (note-first t);
      within = omega (arith, first-within);
    }

-- ---- all keys

module _ (n : ℕ) (at : ℕ → TableNode) (i : ℕ) where
  other_key : (key : ℕ) → ((at i).argument ≡ key → ⊥) → is_block_of key (at i) ≡ false
  unfolding is_block_of
  other_key key z = go (eqb (at i).kind BLOCK)
    where
      go : (b : Bool) → (b && eqb (at i).argument key) ≡ false
      go true = ne_eqb _ _ z
      go false = refl

  own_key : (key : ℕ) → (at i).kind ≡ BLOCK → key ≡ (at i).argument → is_block_of key (at i) ≡ true
  unfolding is_block_of
  own_key key k e = simp (k, eq-eqb _ _ (sym e))

  no_key : (key : ℕ) → ((at i).kind ≡ BLOCK → ⊥) → is_block_of key (at i) ≡ false
  unfolding is_block_of
  no_key key z = simp (ne_eqb _ _ z)

  pub agrees-none : ((at i).kind ≡ BLOCK → ⊥) → true ≡ agrees n at i
  unfolding agrees
  agrees-none z = simp (ne_eqb _ _ z)

  pub agrees-block : (f : ℕ) → (at i).kind ≡ BLOCK → f ≡ first_block n at (at i).argument → alike at f i ≡ agrees n at i
  unfolding agrees alike
  agrees-block f k e = simp (k, e)

  module _ (work : List ℕ) (h : Notes at i work) where
    pub notes-more : ((at i).kind ≡ BLOCK → ⊥) → Notes at (i + 1) work
    notes-more z = record { note = λ key l. note-more _ i _ (h.note key l) (no_key key z) }

    module _ (key : ℕ) (l : key < 32) (k : (at i).kind ≡ BLOCK) (e : key ≡ (at i).argument) where
      pub first-block : i < n → first_of (note_in work key) i ≡ first_block n at (at i).argument
      first-block m = sym (first-is (λ j. is_block_of key (at j)) n _ (note-first _ i _ (h.note key l) (own_key key k e)) (omega (arith, first-within _ i _ (h.note key l)))) ∙ ap (first_block n at) e

      pub notes-noted : 1056 ≤ length work → Notes at (i + 1) (set work (1024 + key) (first_of (note_in work key) i + 1))
      notes-noted s = record { note = λ key' l'. go key' l' (eqb key' key) refl }
        where
          go : (key' : ℕ) → key' < 32 → (b : Bool) → eqb key' key ≡ b → Note (λ j. is_block_of key' (at j)) (i + 1) (note_in (set work (1024 + key) (first_of (note_in work key) i + 1)) key')
          go key' l' true q = rw (eqb-true key' key q, get_or-set_same work (1024 + key) (first_of (note_in work key) i + 1) 0 (omega arith)) (note-noted _ i _ (h.note key l) (own_key key k e))
          go key' l' false q =
              let z : key' ≡ key → ⊥ = eqb-false key' key q in
              rw (get_or-set_other work (1024 + key) (1024 + key') (first_of (note_in work key) i + 1) 0 (λ p. z (omega arith)))
              (note-more _ i _ (h.note key' l') (other_key key' (λ p. z (sym p ∙ sym e))))

-- ---- the words beside the notes

pub beside-self : (l : List ℕ) → Beside l l
beside-self l = record { size = refl; low = λ k h. refl }

pub beside-then : {l l₁ l₂ : List ℕ} → Beside l l₁ → Beside l₁ l₂ → Beside l l₂
beside-then a b = record { size = b.size ∙ a.size; low = λ k h. b.low k h ∙ a.low k h }

pub beside-note : (l : List ℕ) (key x : ℕ) → key < 32 → Beside l (set l (1024 + key) x)
beside-note l key x h = record { size = length-set l (1024 + key) x; low = λ k m. get_or-set_other l (1024 + key) k x 0 (λ e. omega arith) }

-- ---- node i, a BLOCK, against the first of its key

pub noted : (n : ℕ) (at : ℕ → TableNode) (i : ℕ) (work work' : List ℕ) (key f : ℕ) → Notes at i work → i < n → 1056 ≤ length work → key < 32 → (at i).kind ≡ BLOCK → key ≡ (at i).argument
    → f ≡ first_of (note_in work key) i → work' ≡ set work (1024 + key) (f + 1) → (alike at f i ≡ agrees n at i) × (Notes at (i + 1) work' × Beside work work')
noted n at i work work' key f h m s l k e q w = (
  agrees-block n at i f k (q ∙ first-block n at i work h key l k e m),
  (rw (w, q) (notes-noted n at i work h key l k e s), rw w (beside-note work key (f + 1) l)),
)

-- ---- the notes are zeroed before the first node

module _ (xs ys : List ℕ) (s : 1056 ≤ length xs) (e : ys ≡ zeros (length (take 32 (drop 1024 xs)))) where
  abbrev cleared : List ℕ
  cleared = take 1024 xs ++ (ys ++ drop 32 (drop 1024 xs))

  front : length (take 1024 xs) ≡ 1024
  front = length-take-le 1024 xs (omega arith)

  part : length (take 32 (drop 1024 xs)) ≡ 32
  part = length-take-le 32 (drop 1024 xs) (omega (arith, length-drop 1024 xs))

  sized : length cleared ≡ length xs
  sized =
      let a = length-append (take 1024 xs) (ys ++ drop 32 (drop 1024 xs)) in
      let b = length-append ys (drop 32 (drop 1024 xs)) in
      let c = length-drop 32 (drop 1024 xs) in
      omega (arith, a, b, c, length-drop 1024 xs, front, part, ap length e, length-replicate {A = ℕ} (length (take 32 (drop 1024 xs))) 0)

  pub cleared-beside : Beside xs cleared
  cleared-beside = record { size = sized; low = λ k h. get_or-append (take 1024 xs) _ 0 k (omega (arith, front)) ∙ get_or-take 1024 xs k 0 h }

  note-cleared : (key : ℕ) → key < 32 → note_in cleared key ≡ 0
  note-cleared key h =
      let a : 1024 + key ≡ length (take 1024 xs) + key = omega (arith, front) in
      let b : key < length ys = omega (arith, ap length e, length-replicate {A = ℕ} (length (take 32 (drop 1024 xs))) 0, part) in
      ap (λ (k : ℕ). get_or cleared k 0) a ∙ get_or-append-add (take 1024 xs) _ key 0 ∙ get_or-append ys _ 0 key b ∙ rw (e, part) (get_or-replicate 32 key 0 0 h)

  pub notes-cleared : (at : ℕ → TableNode) → Notes at 0 cleared
  notes-cleared at = record { note = λ key l. rw (note-cleared key l) (record { none = λ z k h. absurd (omega arith); some = λ f e. absurd (omega arith); within = omega arith }) }
