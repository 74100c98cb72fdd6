-- The loops over the slots: how long the blocks are with their labels, and each at its start.
use mathlib.Core.Path.{◌≡◌, refl, sym, ap, ◌∙◌}
use mathlib.Core.Bool.{Bool, true, false}
use mathlib.Core.List.{List, [], ◌∷◌, ◌++◌, append_assoc}
use mathlib.Core.Option.{some}
use Prim.Native.Nat.{ℕ, zero, suc, ◌+◌, ◌≤◌}
use native.Mathlib.Numerals.{add-one}
use native.Mathlib.Omega.{arith}
use lib.IntN.{pos}
use lib.ListN.{length, set, drop, drop_of_length-le, length-append, length-map}
use lib.Seq.{sets, length-sets}
use Rattle.format.specs.Label.{label, label_size}
use Rattle.format.specs.Modes.{inline_everything, header}
use Rattle.format.specs.Read.{Reading, nth}
use Rattle.label.specs.Laws.{framed}
use Rattle.store.specs.Words as words
use Rattle.store.specs.Store.{put}
use Rattle.write_literals.specs.Store.{advanced, unnumbered}
use Rattle.write_literals.specs.Words.{store_of, Good, Changes}
use Rattle.store.specs.Laws.{drop_nth}
use Rattle.store.specs.Same.{Same, same_self, same_then}
use Rattle.laws.specs.Facts.{absurd-some, some_same}
use Rattle.write_passes.specs.Layout.{block_space, core_label, starts, core_start, message_length, put_labels, lay_out}
use Rattle.write_passes.specs.Slots.{under, change-under, Apart, apart-change, apart-middle, put-middle}
use Rattle.write_bytes.specs.State.{slots_of}
use Rattle.write_bytes.specs.Layout.{LaysBlocks, LaysOut}

nth-under : {X Y : Type 0} (f : X → Y) (xs : List (ℕ × X)) (i : ℕ) {k : ℕ} {p : X} → nth xs i ≡ some (k, p) → nth (under f xs) i ≡ some (k, f p)
unfolding nth
nth-under f [] i e = absurd-some e
nth-under f (x ∷ xs) zero e = ap (λ y. some (y.0, f y.1)) (some_same e)
nth-under f (x ∷ xs) (suc i) e = nth-under f xs i e

module _ (w : List ℕ) where
  pub slot-there : (i : ℕ) {k : ℕ} {p : Reading} → nth (words.slots_of w) i ≡ some (k, p) → nth (slots_of w) i ≡ some (k, p.at)
  unfolding store_of
  slot-there i e = nth-under (λ p. p.at) (words.slots_of w) i e

  pub slots_length : length (slots_of w) ≡ length (words.slots_of w)
  unfolding store_of
  slots_length = length-map (words.slots_of w) _

-- ---- how long they are

module _ (xs : List (ℕ × ℕ)) (i : ℕ) where
  pub space-next : {k n : ℕ} → nth xs i ≡ some (k, n) → block_space (drop i xs) ≡ framed n + block_space (drop (i + 1) xs)
  unfolding block_space
  space-next e = rw (drop_nth xs i e, add-one)

  pub space-end : length xs ≤ i → block_space (drop i xs) ≡ 0
  unfolding block_space
  space-end h = let e = drop_of_length-le xs {i = i} h in rw e

-- ---- where they start

-- i blocks are laid out, and the next label stands at `at`: laying out the others makes everything what it is to be
pub record Laying (w₀ out₀ w out : List ℕ) (at i : ℕ) : Type 0 where
  pub front : List (ℕ × ℕ)
  pub behind : List (ℕ × ℕ)
  pub is : slots_of w ≡ front ++ behind
  pub count : length front ≡ i
  pub slots : front ++ starts at behind ≡ starts 1 (slots_of w₀)
  pub labels : put_labels at behind out ≡ put_labels 1 (slots_of w₀) out₀
  pub room : at + block_space behind ≡ 1 + block_space (slots_of w₀)
  pub good : Good w
  pub apart : Apart (slots_of w)
  pub same : Same w₀ w
  pub all : length (slots_of w) ≡ length (slots_of w₀)
  pub size : length out ≡ length out₀
  pub words : length w ≡ length w₀

pub laying-start : (w out : List ℕ) → Good w → Apart (slots_of w) → Laying w out w out 1 0
laying-start w out g a = record {
  front = [];
  behind = slots_of w;
  is = refl;
  count = refl;
  slots = refl;
  labels = refl;
  room = refl;
  good = g;
  apart = a;
  same = same_self _;
  all = refl;
  size = refl;
  words = refl;
}

-- what stands behind the front is the next slot
next-slot : {X : Type 0} (us vs : List X) (i : ℕ) {x : X} → length us ≡ i → nth (us ++ vs) i ≡ some x → (rest : List X) × (vs ≡ x ∷ rest)
unfolding nth
next-slot [] [] i c e = absurd-some e
next-slot [] (v ∷ vs) zero c e = (vs, rw (some_same e))
next-slot [] (v ∷ vs) (suc i) c e = absurd (omega arith)
next-slot (u ∷ us) vs zero c e = absurd (omega arith)
next-slot (u ∷ us) vs (suc i) c e = next-slot us vs i (omega arith) e

module _ {w₀ out₀ w out : List ℕ} {at i : ℕ} (l : Laying w₀ out₀ w out at i) where
  module _ {k n : ℕ} (e : nth (slots_of w) i ≡ some (k, n)) where
    next : (rest : List (ℕ × ℕ)) × (l.behind ≡ (k, n) ∷ rest)
    next = next-slot l.front l.behind i l.count (ap (λ xs. nth xs i) (sym l.is) ∙ e)

    -- the next block is inside the output
    pub laying-room : at + framed n ≤ 1 + block_space (slots_of w₀)
    unfolding block_space
    laying-room = let h : at + (framed n + block_space next.0) ≡ 1 + block_space (slots_of w₀) = ap (λ xs. at + block_space xs) (sym next.1) ∙ l.room in omega arith

    module _ {w' : List ℕ} (start : ℕ) (f : start ≡ at + label_size (pos n)) (c : Changes w w' (advanced k start)) where
      moved : slots_of w' ≡ put k start (slots_of w)
      moved = ap (λ s. under (λ p. p.at) s.slots) c.store ∙ change-under (λ p. p.at) k (λ p. record { at = start; end = p.end }) (λ m. start) (store_of w).slots (λ p z. refl)

      split : slots_of w ≡ l.front ++ (k, n) ∷ next.0
      split = l.is ∙ ap (λ xs. l.front ++ xs) next.1

      moved-is : slots_of w' ≡ l.front ++ (k, start) ∷ next.0
      moved-is = moved ∙ ap (λ xs. put k start xs) split ∙ put-middle k start n l.front next.0 (apart-middle (k, n) l.front next.0 (rw split at l.apart))

      pub laying-more : {out' : List ℕ} → out' ≡ sets out at (label (pos n)) → Laying w₀ out₀ w' out' (start + n) (i + 1)
      unfolding starts put_labels block_space
      laying-more {out'} o =
          let b : start + n ≡ at + framed n = omega arith in
          record {
            front = l.front ++ (k, start) ∷ [];
            behind = next.0;
            is = moved-is ∙ sym (append_assoc l.front ((k, start) ∷ []) next.0);
            count = length-append l.front ((k, start) ∷ []) ∙ omega (arith, l.count);
            slots = append_assoc l.front ((k, start) ∷ []) (starts (start + n) next.0) ∙ rw (b, f) (ap (λ xs. l.front ++ starts at xs) (sym next.1) ∙ l.slots);
            labels = rw (b, o) (ap (λ xs. put_labels at xs out) (sym next.1) ∙ l.labels);
            room = let h : at + (framed n + block_space next.0) ≡ 1 + block_space (slots_of w₀) = ap (λ xs. at + block_space xs) (sym next.1) ∙ l.room in omega arith;
            good = c.good;
            apart = rw moved (apart-change k (λ m. start) (slots_of w) l.apart);
            same = same_then l.same (record { at = c.outside });
            all = rw (moved-is, length-append) (sym (length-append l.front ((k, n) ∷ next.0)) ∙ ap length (sym split) ∙ l.all);
            size = ap length o ∙ length-sets out at (label (pos n)) ∙ l.size;
            words = c.size ∙ l.words;
          }

  pub laying-end : length (slots_of w) ≤ i → LaysBlocks w₀ w out₀ out at
  unfolding starts put_labels block_space
  laying-end h =
      let e : l.behind ≡ [] = none_left l.behind (let z = ap length l.is ∙ length-append l.front l.behind in omega (arith, l.count)) in
      record {
        good = l.good;
        slots = l.is ∙ ap (λ xs. l.front ++ xs) e ∙ ap (λ xs. l.front ++ starts at xs) (sym e) ∙ l.slots;
        same = l.same;
        labels = ap (λ xs. put_labels at xs out) (sym e) ∙ l.labels;
        end = let z : at + block_space [] ≡ 1 + block_space (slots_of w₀) = ap (λ xs. at + block_space xs) (sym e) ∙ l.room in omega arith;
      }
    where
      none_left : (xs : List (ℕ × ℕ)) → length xs ≡ 0 → xs ≡ []
      none_left [] z = refl
      none_left (x ∷ xs) z = absurd (omega arith)

-- ---- the whole message

module _ (core : ℕ) (xs : List (ℕ × ℕ)) where
  pub length-inline : {inline : Bool} → inline ≡ true → 1 + block_space xs + core ≡ message_length inline core xs
  unfolding message_length core_start core_label
  length-inline i = rw i (omega arith)

  pub length-framed : {inline : Bool} → inline ≡ false → 1 + block_space xs + framed core ≡ message_length inline core xs
  unfolding message_length core_start core_label
  length-framed i = rw i (omega arith)

  -- the blocks, and the core too, are within the message
  pub length-blocks : (inline : Bool) → 1 + block_space xs + core ≤ message_length inline core xs
  unfolding message_length core_start
  length-blocks inline = omega arith

module _ (modes core : ℕ) {w w₁ w₂ out out₁ : List ℕ} {at : ℕ} (l : LaysBlocks w w₁ (set out 0 (header modes)) out₁ at) (c : Changes w₁ w₂ unnumbered) where
  lays : {out₂ : List ℕ} {r : ℕ} → out₂ ≡ lay_out modes core (slots_of w) out → r ≡ core_start (inline_everything modes) core (slots_of w) → LaysOut modes core w w₂ out out₂ r
  lays e f = record {
    good = c.good;
    slots = ap (λ s. under (λ p. p.at) s.slots) c.store ∙ l.slots;
    literals = ap (λ s. s.literals) c.store;
    few = ap (λ s. s.over) c.store;
    same = same_then l.same (record { at = c.outside });
    labels = e;
    start = f;
  }

  pub lays-inline : inline_everything modes ≡ true → LaysOut modes core w w₂ out out₁ at
  unfolding lay_out core_start core_label
  lays-inline i = lays (rw i l.labels) (rw i (omega (arith, l.end)))

  pub lays-framed : {out₂ : List ℕ} {r : ℕ} → inline_everything modes ≡ false → out₂ ≡ sets out₁ at (label (pos core)) → r ≡ at + label_size (pos core) → LaysOut modes core w w₂ out out₂ r
  unfolding lay_out core_start core_label
  lays-framed i e f = lays (rw (i, e, l.labels, l.end)) (rw i (omega (arith, l.end)))
