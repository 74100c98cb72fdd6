-- STRING and BYTES: a literal by its refusals in order, a literal again, and the label in front. Assumes nothing.
use mathlib.Core.Path.{◌≡◌, refl, sym, ap, ◌∙◌, subst}
use mathlib.Core.Bool.{Bool, true, false, not}
use mathlib.Core.List.{List, []}
use mathlib.Core.Option.{Option, some}
use Prim.Native.Nat.{ℕ, ◌+◌, ◌-◌, ◌^◌, ◌≤◌, ◌<◌}
use native.Mathlib.Omega.{arith}
use lib.Dec.{eqb}
use lib.IntN.{ℤ, pos, negsuc}
use lib.ListN.{length, get_or, take, drop}
use lib.Seq.{slice}
use borrow.Author.Tests.{le-leb, lt-leb, lt-ltb, le-ltb}
use mir.Syntax.{w64}
use mir.Val.{SFits, to_z, of_z}
use mir.ValLaws.{to_z-of_z}
use Rattle.format.specs.Answer.{Answer, ok, refuse, need, need_at, or_refuse, ◌>>=◌, ◌>>◌}
use Rattle.format.specs.Utf8.{is_text}
use Rattle.format.specs.Modes.{null_terminated_strings, inline_everything}
use Rattle.format.specs.Row.{Place, bytes_at}
use Rattle.format.specs.Table.{Leaf, Held}
use Rattle.format.specs.Read.{in_message, State, nth, total, is_ended, is_right, is_numbered, ending, read_bytes, read_literal, at_key, from_key, add_literal, read_text, own_label}
use Rattle.laws.specs.Facts.{bind-then}
use Rattle.label.specs.declared.cursor.Cursor.{Cursor}
use Rattle.read_pieces.specs.Pieces.{Inside}
use Rattle.store.specs.Store.{added}
use Rattle.store.specs.Words.{all_of}
use Rattle.store.specs.Laws.{nth_beyond}
use Rattle.read_literals.specs.Words.{store_of, Good, Changes, Between}
use Rattle.read_literals.specs.Laws.{total-is}
use Rattle.table.specs.declared.nodes.Leaf as code
use Rattle.read_leaf.specs.declared.front.Size.{Size}
use Rattle.read_leaf.specs.declared.front.Size.TheVariants.{Of}
use Rattle.read_leaf.specs.Meaning.{held_leaf, size_label}
use Rattle.read_leaf.specs.State.{Ready, Takes}
use Rattle.read_leaf.specs.Takes.{took-along, took-refuses, took-ends, took-ready, took-inside, then-takes, then-takes-not}
use Rattle.read_leaf.specs.Touch.{then-read, key-then}
use Rattle.read_leaf.specs.Promises.{is_ending, literal_of, text_of}
use Rattle.read_leaf.proofs.Blocks.{same-words}
use Rattle.read_leaf.proofs.Reading.{take-drop, shown, literal-at}

pub takes-good : {X : Type 0} {m w w₁ : List ℕ} {c c₁ : Cursor} {x : X} {r : Answer (X × Cursor)} {f : State (in_message m) → Answer (X × State (in_message m))} → Takes m w w₁ c r f → r ≡ ok (x, c₁) → Good w₁
takes-good t q = (took-ready _ (t.took 0 0) q).good

need-then : {X Y : Type 0} (b : Bool) (e : ℕ) (x : X) (f : X → Answer Y) → (need b e >> f x) ≡ (need b e >> ok x >>= f)
unfolding need_at ◌>>◌ ◌>>=◌
need-then true e x f = refl
need-then false e x f = refl

-- one literal more changes nothing else
ready-added : {m w w' : List ℕ} (key : ℕ) (v : Place) → Ready m w → Changes w w' (added key v) → Between w w' → Ready m w'
ready-added key v g d b = record { starts = λ j p l e. rw (b.at (1216 + j) (omega arith) (omega arith)) (g.starts j p l (rw d.store at e)); small = g.small; good = d.good; blocks = rw d.store g.blocks; slots = λ j p e. g.slots j p (rw d.store at e) }

-- ---- a literal's bytes, and the 00 behind them

module _ (m : List ℕ) (modes key : ℕ) (l : Leaf) (size : ℕ) (c : Cursor) {w w₁ : List ℕ} {r : Answer (Place × Cursor)} where
  -- all that it takes has been read; ended is what the code says of the modes and the key
  module _ {ended : Bool} {k : ℕ} (z : ended ≡ is_ended modes l) (y : k ≡ size + length (ending ended)) (t : Takes m w w₁ c r (at_key (in_message m) (inline_everything modes) key (read_bytes (in_message m) k))) where
    abbrev ended-read : State (in_message m) → Answer (Place × State (in_message m))
    ended-read = at_key (in_message m) (inline_everything modes) key (read_literal (in_message m) (is_ended modes l) size)

    ended_is : (s : State (in_message m)) → ended-read s ≡ (at_key (in_message m) (inline_everything modes) key (read_bytes (in_message m) k) s >>= then-read (shown m ended size))
    ended_is s = rw (← z, y) (key-then (in_message m) key (read_bytes (in_message m) (size + length (ending ended))) (shown m ended size) (read_literal (in_message m) ended size) (λ p. literal-at m size p ended) (inline_everything modes) s)

    ended-not : {e i : ℕ} → r ≡ refuse e i → Takes m w w₁ c (refuse e i) ended-read
    ended-not q = record { took = λ most n. took-along (ended_is _) (then-takes-not _ (t.took most n) _ q) }

    module _ {v : Place} {c₁ : Cursor} (q : r ≡ ok (v, c₁)) {ends : Bool} (x : ends ≡ is_ending m ended (v.start + size)) where
      ended-35 : ends ≡ false → Takes m w w₁ c (refuse 35 0) ended-read
      unfolding need_at ◌>>◌ ◌>>=◌
      ended-35 e = record { took = λ most n. took-along (ended_is _) (then-takes _ (t.took most n) _ q (rw (← x, e) (took-refuses 35))) }

      ended-ok : ends ≡ true → Takes m w w₁ c (ok (record { start = v.start; size = size }, c₁)) ended-read
      unfolding need_at ◌>>◌ ◌>>=◌
      ended-ok e = record { took = λ most n. took-along (ended_is _) (then-takes _ (t.took most n) _ q (rw (← x, e) (took-ends _ c₁ (took-ready _ (t.took most n) q) (took-inside _ (t.took most n) q)))) }

      -- right is what the code says of the bytes
      module _ {right : Bool} (x₁ : right ≡ is_right l (bytes_at m (record { start = v.start; size = size }))) (e : ends ≡ true) where
        pub bytes-28 : right ≡ false → Takes m w w₁ c (refuse 28 0) (literal_of m modes l key size)
        unfolding literal_of need_at ◌>>◌
        bytes-28 e₁ = record { took = λ most n. then-takes _ ((ended-ok e).took most n) _ refl (rw (← x₁, e₁) (took-refuses 28)) }

        pub bytes-right : right ≡ true → Takes m w w₁ c (ok (record { start = v.start; size = size }, c₁)) (literal_of m modes l key size)
        unfolding literal_of need_at ◌>>◌
        bytes-right e₁ = record { took = λ most n. then-takes _ ((ended-ok e).took most n) _ refl (rw (← x₁, e₁) (took-ends _ c₁ (took-ready _ (t.took most n) q) (took-inside _ (t.took most n) q))) }

      pub bytes-35 : ends ≡ false → Takes m w w₁ c (refuse 35 0) (literal_of m modes l key size)
      unfolding literal_of
      bytes-35 e = record { took = λ most n. then-takes-not _ ((ended-35 e).took most n) _ refl }

    pub bytes-refused : {e i : ℕ} → r ≡ refuse e i → Takes m w w₁ c (refuse e i) (literal_of m modes l key size)
    unfolding literal_of
    bytes-refused q = record { took = λ most n. then-takes-not _ ((ended-not q).took most n) _ refl }

-- ---- a literal

module _ (m : List ℕ) (modes key : ℕ) (h : Held) (size : ℕ) (c : Cursor) {w w₁ : List ℕ} {r : Answer (Place × Cursor)}
    (t : Takes m w w₁ c r (literal_of m modes h.leaf key size)) where
  abbrev read : State (in_message m) → Answer (Place × State (in_message m))
  read = read_text (in_message m) modes (λ i. h) key (pos size)

  -- what is done with a literal that is right
  abbrev kept : Place × State (in_message m) → Answer (Place × State (in_message m))
  kept x = add_literal (in_message m) (is_numbered modes h) key x.0 x.1 >>= (λ s. ok (x.0, s))

  read_is : (s : State (in_message m)) → read s ≡ (literal_of m modes h.leaf key size s >>= kept)
  unfolding read_text from_key literal_of
  read_is s = bind-then _ _ _ kept (λ x. need-then (is_right h.leaf (bytes_at m x.0)) 28 x kept)

  pub literal-not : {e i : ℕ} → r ≡ refuse e i → Takes m w w₁ c (refuse e i) read
  literal-not q = record { took = λ most n. took-along (read_is _) (then-takes-not _ (t.took most n) _ q) }

  -- numbered is what the code says of the key
  module _ {v : Place} {c₁ : Cursor} (q : r ≡ ok (v, c₁)) {numbered : Bool} (y : numbered ≡ is_numbered modes h) where
    pub literal-plain : numbered ≡ false → Takes m w w₁ c (ok (v, c₁)) read
    unfolding add_literal ◌>>=◌
    literal-plain e = record { took = λ most n. took-along (read_is _) (then-takes _ (t.took most n) kept q (rw (← y, e) (took-ends v c₁ (took-ready _ (t.took most n) q) (took-inside _ (t.took most n) q)))) }

    module _ (e : numbered ≡ true) where
      -- the work counts all literals in one word
      counted : all_of w₁ ≡ total (store_of w₁).literals
      counted = total-is w₁ (takes-good t q).literals

      pub literal-32 : 4096 ≤ all_of w₁ → Takes m w w₁ c (refuse 32 0) read
      unfolding need_at ◌>>◌ add_literal ◌>>=◌
      literal-32 b = record { took = λ most n. took-along (read_is _) (then-takes _ (t.took most n) kept q (rw (← y, e, le-ltb _ _ (rw counted at b)) (took-refuses 32))) }

      pub literal-noted : {w₂ : List ℕ} → all_of w₁ < 4096 → Changes w₁ w₂ (added key v) → Between w₁ w₂ → Takes m w w₂ c (ok (v, c₁)) read
      unfolding need_at ◌>>◌ add_literal ◌>>=◌
      literal-noted b d y₁ = record {
        took = λ most n. took-along (read_is _) (then-takes _ (t.took most n) kept q (rw (← y, e, lt-ltb _ _ (rw counted at b)) (record {
          answer = refl;
          left = record { state = rw d.store; ready = ready-added key v (took-ready _ (t.took most n) q) d y₁; inside = took-inside _ (t.took most n) q; same = same-words d };
        })));
      }

pub takes-inside : {X : Type 0} {m w w₁ : List ℕ} {c c₁ : Cursor} {x : X} {r : Answer (X × Cursor)} {f : State (in_message m) → Answer (X × State (in_message m))} → Takes m w w₁ c r f → r ≡ ok (x, c₁) → Inside m c₁
takes-inside t q = took-inside _ (t.took 0 0) q

-- a literal again
module _ (modes key : ℕ) (h : Held) (k : ℕ) (w : List ℕ) where
  abbrev again : (m : List ℕ) → State (in_message m) → Answer (Place × State (in_message m))
  again m = read_text (in_message m) modes (λ i. h) key (negsuc k)

  pub back-24 : (m : List ℕ) (c : Cursor) → k < 3 → Takes m w w c (refuse 24 0) (again m)
  unfolding read_text need_at ◌>>◌
  back-24 m c b = record { took = λ most n. rw (lt-leb 3 k b) (took-refuses 24) }

  module _ (b : 3 ≤ k) {numbered : Bool} (y : numbered ≡ is_numbered modes h) where
    pub back-26 : (m : List ℕ) (c : Cursor) → numbered ≡ false → Takes m w w c (refuse 26 0) (again m)
    unfolding read_text need_at ◌>>◌
    back-26 m c e = record { took = λ most n. rw (le-leb 3 k b, ← y, e) (took-refuses 26) }

    module _ (e : numbered ≡ true) where
      pub back_none : (m : List ℕ) (c : Cursor) → length (get_or (store_of w).literals key []) ≤ k - 3 → Takes m w w c (refuse 26 0) (again m)
      unfolding read_text need_at ◌>>◌ or_refuse ◌>>=◌
      back_none m c z = record { took = λ most n. rw (le-leb 3 k b, ← y, e, nth_beyond (get_or (store_of w).literals key []) (k - 3) z) (took-refuses 26) }

      pub back_is : (m : List ℕ) (c : Cursor) {v : Place} → Ready m w → Inside m c → nth (get_or (store_of w).literals key []) (k - 3) ≡ some v → Takes m w w c (ok (v, c)) (again m)
      unfolding read_text need_at ◌>>◌ or_refuse ◌>>=◌
      back_is m c {v} g i z = record { took = λ most n. rw (le-leb 3 k b, ← y, e, z) (took-ends v c g i) }

-- the label in front, and then the text
module _ (m : List ℕ) (modes key : ℕ) (h : Held) (l : Option ℤ) (c : Cursor) {w : List ℕ} {r : Answer (ℤ × Cursor)} (t : Takes m w w c r (own_label (in_message m) l)) where
  pub text-not : {e i : ℕ} → r ≡ refuse e i → Takes m w w c (refuse e i) (text_of m modes h key l)
  text-not q = record { took = λ most n. then-takes-not _ (t.took most n) _ q }

  pub text-is : {w₂ : List ℕ} {c₁ : Cursor} {x : Answer (Place × Cursor)} {k : ℤ} (j : ℤ) → r ≡ ok (k, c₁) → j ≡ k → Takes m w w₂ c₁ x (read_text (in_message m) modes (λ i. h) key j) → Takes m w w₂ c x (text_of m modes h key l)
  text-is j q e d = record { took = λ most n. then-takes _ (t.took most n) _ q (rw (← e) (d.took most n)) }

-- what a key's leaf asks of its bytes
module _ (m : List ℕ) {leaf : code.Leaf} (start size : ℕ) where
  pub right-text : {b : Bool} → leaf ≡ code.TheVariants.String → b ≡ is_text (slice start (start + size) m) → b ≡ is_right (held_leaf leaf) (bytes_at m (record { start = start; size = size }))
  unfolding is_right
  right-text z e =
      let q : start + size - start ≡ size = omega arith in
      rw z (e ∙ ap is_text (sym (take-drop start (start + size) m) ∙ ap (λ (k : ℕ). take k (drop start m)) q))

  pub right-other : (leaf ≡ code.TheVariants.String → ⊥) → true ≡ is_right (held_leaf leaf) (bytes_at m (record { start = start; size = size }))
  unfolding is_right
  right-other z = go leaf z
    where
      go : (l : code.Leaf) → (l ≡ code.TheVariants.String → ⊥) → true ≡ is_right (held_leaf l) (bytes_at m (record { start = start; size = size }))
      go code.TheVariants.String n = absurd (n refl)
      go code.TheVariants.Varint n = refl
      go code.TheVariants.Float64 n = refl
      go code.TheVariants.Bytes n = refl
      go (code.TheVariants.Fixed k) n = refl

-- what it asks behind them
module _ (modes : ℕ) {leaf : code.Leaf} where
  pub ended-text : {b : Bool} → leaf ≡ code.TheVariants.String → b ≡ null_terminated_strings modes → b ≡ is_ended modes (held_leaf leaf)
  unfolding is_ended
  ended-text z e = rw z e

  pub ended-other : (leaf ≡ code.TheVariants.String → ⊥) → false ≡ is_ended modes (held_leaf leaf)
  unfolding is_ended
  ended-other z = go leaf z
    where
      go : (l : code.Leaf) → (l ≡ code.TheVariants.String → ⊥) → false ≡ is_ended modes (held_leaf l)
      go code.TheVariants.String n = absurd (n refl)
      go code.TheVariants.Varint n = refl
      go code.TheVariants.Float64 n = refl
      go code.TheVariants.Bytes n = refl
      go (code.TheVariants.Fixed k) n = refl

module _ {ended : Bool} where
  module _ (m : List ℕ) (at : ℕ) where
    pub ending-inside : ended ≡ true → at + length (ending ended) ≤ length m → at < length m
    unfolding ending
    ending-inside e h = omega (arith, rw e at h)

    pub ending-is : ended ≡ true → eqb (get_or m at 0) 0 ≡ is_ending m ended at
    unfolding is_ending
    ending-is e = rw e

    pub ending-none : ended ≡ false → not ended ≡ is_ending m ended at
    unfolding is_ending
    ending-none e = rw e

-- a size is a label, and a label has 64 bits
pub size_small : {r : Size} {size : ℕ} (l : ℤ) → SFits w64 l → size_label r ≡ to_z w64 (of_z w64 l) → r ≡ Of size → size < 2 ^ 63
size_small l f e q = (subst (λ (z : ℤ). SFits w64 z) (sym (to_z-of_z w64 l f) ∙ sym e ∙ ap size_label q) f).sfits
