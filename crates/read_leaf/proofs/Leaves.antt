-- What was read, and then its row: for each kind of value that has nothing below it. Assumes nothing.
use mathlib.Core.Logic.{◌⊎◌, inl, inr}
use mathlib.Core.Path.{◌≡◌, refl, ap, subst}
use mathlib.Core.Bool.{Bool, true, false}
use mathlib.Core.List.{List, [], ◌∷◌}
use mathlib.Core.Option.{Option}
use Prim.Native.Nat.{ℕ}
use lib.IntN.{ℤ, pos}
use lib.ListN.{length, take, drop}
use Rattle.format.specs.Answer.{Answer, ok, refuse, ◌>>=◌, ◌>>◌, need_at}
use Rattle.format.specs.Label.{word}
use Rattle.format.specs.Modes.{inline_everything}
use Rattle.format.specs.Row.{Place, Says, Row, row, bare, placed, says_words, row_words, string_row, bytes_row, fixed_row, integer_row, float_row, true_row, false_row}
use Rattle.format.specs.Table.{Leaf, string, varint, float64, bytes, fixed, Held}
use Rattle.format.specs.Read.{in_message, State, is_label, truth_of, little_endian, read_number, read_bytes, at_key, from_key, no_label, one_row, leaf, wire}
use Rattle.laws.specs.Facts.{bind-then}
use Rattle.label.specs.declared.cursor.Cursor.{Cursor}
use Rattle.std.specs.Prelude as code
use Rattle.std.specs.Prelude.{Result, Ok, Err}
use Rattle.format.specs.Refusal.{answered}
use Rattle.format.specs.declared.refusal.Refusal.{Refusal}
use Rattle.format.specs.declared.refusal.Refusal.TheVariants.{LabelPlace}
use Rattle.format.specs.declared.place.Place as part
use Rattle.read_leaf.specs.declared.Progress.{Progress}
use Rattle.read_leaf.specs.State.{most_rows, Walks, Does, Took, Takes}
use Rattle.read_leaf.specs.Does.{along, refuses}
use Rattle.read_leaf.specs.Takes.{took-ready, took-inside, then-does, then-refuses}
use Rattle.read_leaf.specs.Meaning.{front_of, part_of, held_leaf, text_row}
use Rattle.table.specs.declared.nodes.Leaf as held
use Rattle.read_leaf.specs.Promises.{Owns, Bare, PutsRow, PutsPart, Boolean, Unlabelled, text_of}

-- something was read, and its row is put behind it
module _ {X : Type 0} {m w w₁ l l₁ : List ℕ} {n : ℕ} {x : X} {c : Cursor} {r : Answer (X × Cursor)} {s : Result Progress Refusal} (a : Answer (X × State (in_message m))) (t : Took m (most_rows (length l)) w w₁ n r a) (q : r ≡ ok (x, c)) where
  then-row : {ws : List ℕ} (i : ℕ) (says : X → Says Place) → PutsRow n ws c l l₁ s → row_words (row i (says x)) ≡ ws → Does m (most_rows (length l)) w w₁ n l l₁ s (a >>= (λ y. one_row (in_message m) i (says y.0) y.1))
  then-row i says p v = then-does a t (λ y. one_row (in_message m) i (says y.0) y.1) q (p.does m w₁ i (says x) v (took-ready a t q) (took-inside a t q))

-- or it was refused
module _ {m w w₁ l l₁ : List ℕ} {n : ℕ} {p : part.Place} {c : Cursor} {r : Result (part.Place × Cursor) Refusal} (a : Answer (Place × State (in_message m))) (t : Took m (most_rows (length l)) w w₁ n (part_of r) a) where
  then-part : {kind node : ℕ} {s : Result Progress Refusal} → r ≡ Ok (p, c) → PutsPart n kind node p c l l₁ s → Does m (most_rows (length l)) w w₁ n l l₁ s (a >>= (λ x. one_row (in_message m) node (placed kind x.0) x.1))
  then-part q d = d.does m w w₁ a (subst (λ (x : Result (part.Place × Cursor) Refusal). Took m (most_rows (length l)) w w₁ n (part_of x) a) q t)

module _ {n kind node : ℕ} {p : part.Place} {c : Cursor} {l l₁ : List ℕ} where
  pub part-row : {s : Result Progress Refusal} → PutsRow n (kind ∷ p.start ∷ p.size ∷ node ∷ []) c l l₁ s → PutsPart n kind node p c l l₁ s
  unfolding row_words says_words
  part-row d = record { does = λ m w w' a t. then-row a t refl node (λ v. placed kind v) d refl }

-- ---- a BOOLEAN

module _ {m : List ℕ} {node : ℕ} {front : code.Option ℤ} {c : Cursor} {n : ℕ} {l l₁ : List ℕ} {r : Result (ℤ × Cursor) Refusal} (o : Owns m front c r) where
  pub boolean-not : {e : Refusal} → r ≡ Err e → Boolean m node front c n l l₁ (Err e)
  unfolding wire
  boolean-not q = record { does = λ modes held w g. then-refuses _ ((o.takes w g).took (most_rows (length l)) n) _ (ap answered q) }

  pub boolean-24 : {v : ℤ} {next : Cursor} → r ≡ Ok (v, next) → truth_of v ≡ refuse 24 0 → Boolean m node front c n l l₁ (Err LabelPlace)
  unfolding wire ◌>>=◌
  boolean-24 q e = record { does = λ modes held w g. then-does _ ((o.takes w g).took (most_rows (length l)) n) _ (ap answered q) (rw e (refuses LabelPlace refl)) }

  pub boolean-row : {v : ℤ} {next : Cursor} {s : Result Progress Refusal} (kind : ℕ) → r ≡ Ok (v, next) → truth_of v ≡ ok kind → PutsRow n (kind ∷ 0 ∷ 0 ∷ node ∷ []) next l l₁ s → Boolean m node front c n l l₁ s
  unfolding wire ◌>>=◌ row_words says_words
  boolean-row kind q e p = record {
    does = λ modes held w g.
        let t = (o.takes w g).took (most_rows (length l)) n in
        then-does _ t _ (ap answered q) (rw e (p.does m w node (bare kind 0) refl (took-ready _ t (ap answered q)) (took-inside _ t (ap answered q))));
  }

-- the tests of its label, as the code makes them of k
module _ (v : ℤ) {k : ℤ} (e : k ≡ v) where
  pub truth-false : {b : Bool} → b ≡ is_label k (pos 0) → b ≡ true → truth_of v ≡ ok false_row
  unfolding truth_of
  truth-false h z = rw (← e, ← h, z)

  module _ {b b₁ : Bool} (h : b ≡ is_label k (pos 0)) (z : b ≡ false) (h₁ : b₁ ≡ is_label k (pos 1)) where
    pub truth-true : b₁ ≡ true → truth_of v ≡ ok true_row
    unfolding truth_of
    truth-true z₁ = rw (← e, ← h, z, ← h₁, z₁)

    pub truth-24 : b₁ ≡ false → truth_of v ≡ refuse 24 0
    unfolding truth_of
    truth-24 z₁ = rw (← e, ← h, z, ← h₁, z₁)

-- ---- a value with no label

module _ {m w l l₁ : List ℕ} {most n : ℕ} {front : code.Option ℤ} {v : Bool} (b : Bare front v) (a : Answer (List (Row Place) × State (in_message m))) where
  front-not : v ≡ false → Does m most w w n l l₁ (Err LabelPlace) (no_label (in_message m) (front_of front) >> a)
  unfolding need_at ◌>>◌
  front-not e = rw (b.is m, e) (refuses LabelPlace refl)

  front-then : {w₁ : List ℕ} {s : Result Progress Refusal} → v ≡ true → Does m most w w₁ n l l₁ s a → Does m most w w₁ n l l₁ s (no_label (in_message m) (front_of front) >> a)
  unfolding need_at ◌>>◌
  front-then e d = rw (b.is m, e) d

module _ (m : List ℕ) (modes key node : ℕ) {front : code.Option ℤ} (w : List ℕ) (c : Cursor) (n : ℕ) {l l₁ : List ℕ} {v : Bool} (b : Bare front v) where
  pub varint-24 : v ≡ false → Unlabelled m modes key varint node front w w c n l l₁ (Err LabelPlace)
  unfolding leaf
  varint-24 e = record { does = λ held. front-not b _ e }

  pub float-24 : v ≡ false → Unlabelled m modes key float64 node front w w c n l l₁ (Err LabelPlace)
  unfolding leaf
  float-24 e = record { does = λ held. front-not b _ e }

  pub fixed-24 : (size : ℕ) → v ≡ false → Unlabelled m modes key (fixed size) node front w w c n l l₁ (Err LabelPlace)
  unfolding leaf
  fixed-24 size e = record { does = λ held. front-not b _ e }

  module _ (e : v ≡ true) {w₁ : List ℕ} where
    module _ {r : Result (ℤ × Cursor) Refusal} (t : Takes m w w₁ c (answered r) (at_key (in_message m) (inline_everything modes) key (read_number (in_message m)))) where
      pub varint-not : {x : Refusal} → r ≡ Err x → Unlabelled m modes key varint node front w w₁ c n l l₁ (Err x)
      unfolding leaf from_key
      varint-not q = record { does = λ held. front-then b _ e (then-refuses _ (t.took (most_rows (length l)) n) _ (ap answered q)) }

      pub varint-row : {x : ℤ} {a : ℕ} {next : Cursor} {s : Result Progress Refusal} → r ≡ Ok (x, next) → a ≡ word x → PutsRow n (integer_row ∷ a ∷ 0 ∷ node ∷ []) next l l₁ s → Unlabelled m modes key varint node front w w₁ c n l l₁ s
      unfolding leaf from_key row_words says_words
      varint-row q h p = record { does = λ held. front-then b _ e (then-row _ (t.took (most_rows (length l)) n) (ap answered q) node (λ y. bare integer_row (word y)) p (rw h)) }

    module _ {r : Result (part.Place × Cursor) Refusal} (size : ℕ) (t : Takes m w w₁ c (part_of r) (at_key (in_message m) (inline_everything modes) key (read_bytes (in_message m) size))) where
      pub fixed-not : {x : Refusal} → r ≡ Err x → Unlabelled m modes key (fixed size) node front w w₁ c n l l₁ (Err x)
      unfolding leaf from_key
      fixed-not q = record { does = λ held. front-then b _ e (then-refuses _ (t.took (most_rows (length l)) n) _ (ap part_of q)) }

      pub fixed-row : {p : part.Place} {next : Cursor} {s : Result Progress Refusal} → r ≡ Ok (p, next) → PutsPart n fixed_row node p next l l₁ s → Unlabelled m modes key (fixed size) node front w w₁ c n l l₁ s
      unfolding leaf from_key
      fixed-row q p = record { does = λ held. front-then b _ e (then-part _ (t.took (most_rows (length l)) n) q p) }

    module _ {r : Result (part.Place × Cursor) Refusal} (t : Takes m w w₁ c (part_of r) (at_key (in_message m) (inline_everything modes) key (read_bytes (in_message m) 8))) where
      pub float-not : {x : Refusal} → r ≡ Err x → Unlabelled m modes key float64 node front w w₁ c n l l₁ (Err x)
      unfolding leaf from_key
      float-not q = record { does = λ held. front-then b _ e (then-refuses _ (t.took (most_rows (length l)) n) _ (ap part_of q)) }

      pub float-row : {y : part.Place} {a : ℕ} {next : Cursor} {s : Result Progress Refusal} → r ≡ Ok (y, next) → y.size ≡ 8 → a ≡ little_endian (take 8 (drop y.start m)) → PutsRow n (float_row ∷ a ∷ 0 ∷ node ∷ []) next l l₁ s → Unlabelled m modes key float64 node front w w₁ c n l l₁ s
      unfolding leaf from_key row_words says_words
      float-row q z h p = record { does = λ held. front-then b _ e (then-row _ (t.took (most_rows (length l)) n) (ap part_of q) node (λ y. bare float_row (little_endian (take y.size (drop y.start m)))) p (rw (z, h))) }

-- ---- a STRING or BYTES

IsText : Leaf → ℕ → Type 0
IsText x kind = (x ≡ string) × (kind ≡ string_row) ⊎ (x ≡ bytes) × (kind ≡ bytes_row)

is-text : (v : held.Leaf) → (v ≡ held.TheVariants.String) ⊎ (v ≡ held.TheVariants.Bytes) → IsText (held_leaf v) (text_row (held_leaf v))
unfolding IsText
is-text v (inl x) = inl (rw x (refl, refl))
is-text v (inr x) = inr (rw x (refl, refl))

-- what is read of it, and its row
text-is : (m : List ℕ) (modes key : ℕ) (h : Held) (node : ℕ) (front : Option ℤ) (x : Leaf) (kind : ℕ) (s : State (in_message m)) → IsText x kind
    → leaf (in_message m) modes (λ k. h) key x node front s ≡ (text_of m modes h key front s >>= (λ y. one_row (in_message m) node (placed kind y.0) y.1))
unfolding leaf IsText
text-is m modes key h node front x kind s (inl z) = rw (z.0, z.1) (bind-then _ _ _ _ (λ x. refl))
text-is m modes key h node front x kind s (inr z) = rw (z.0, z.1) (bind-then _ _ _ _ (λ x. refl))

module _ (m : List ℕ) (modes key : ℕ) (h : Held) (node : ℕ) (front : Option ℤ) (w : List ℕ) (c : Cursor) (n : ℕ) {w₁ l l₁ : List ℕ} {r : Result (part.Place × Cursor) Refusal} (t : Takes m w w₁ c (part_of r) (text_of m modes h key front))
    (v : held.Leaf) (u : (v ≡ held.TheVariants.String) ⊎ (v ≡ held.TheVariants.Bytes)) where
  pub text-not : {e : Refusal} → r ≡ Err e → Walks m w w₁ c n l l₁ (Err e) (leaf (in_message m) modes (λ k. h) key (held_leaf v) node front)
  text-not q = along (text-is m modes key h node front _ _ _ (is-text v u)) (then-refuses _ (t.took (most_rows (length l)) n) _ (ap part_of q))

  pub text-row : {kind : ℕ} {p : part.Place} {next : Cursor} {s : Result Progress Refusal} → r ≡ Ok (p, next) → kind ≡ text_row (held_leaf v) → PutsPart n kind node p next l l₁ s → Walks m w w₁ c n l l₁ s (leaf (in_message m) modes (λ k. h) key (held_leaf v) node front)
  text-row q e p = along (text-is m modes key h node front _ _ _ (is-text v u)) (then-part _ (t.took (most_rows (length l)) n) q (rw e at p))

pub unlabelled : {m : List ℕ} {modes key node : ℕ} {x y : Leaf} {front : code.Option ℤ} {w w₁ : List ℕ} {c : Cursor} {n : ℕ} {l l₁ : List ℕ} {s : Result Progress Refusal} (held : ℕ → Held) → x ≡ y → Unlabelled m modes key y node front w w₁ c n l l₁ s
    → Walks m w w₁ c n l l₁ s (leaf (in_message m) modes held key x node (front_of front))
unlabelled held e d = rw e (d.does held)
