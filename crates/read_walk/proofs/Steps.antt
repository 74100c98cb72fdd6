-- What the functions of the walk have done once what they call has done its part.
use mathlib.Core.Path.{◌≡◌, refl, sym, ap, ◌∙◌, subst}
use mathlib.Core.Bool.{Bool, true, false}
use mathlib.Core.List.{List, [], ◌∷◌}
use Prim.Native.Nat.{ℕ, ◌+◌, ◌-◌, ◌≤◌}
use lib.Dec.{eqb}
use lib.IntN.{ℤ}
use lib.ListN.{length}
use Rattle.std.specs.Prelude as code
use Rattle.std.specs.Prelude.{Result, Ok, Err}
use Rattle.format.specs.Answer.{Answer, ok, ◌>>=◌, ◌>>◌, need_at}
use Rattle.format.specs.Refusal.{answered}
use Rattle.format.specs.declared.refusal.Refusal.{Refusal}
use Rattle.format.specs.declared.refusal.Refusal.TheVariants.{LabelPlace}
use Rattle.format.specs.Table.{u16, node_at, deduplicate, NULLABLE, BOOLEAN, RECORD, ARRAY, BLOCK, Node, Fields, leaf_of, top_of, wire_of}
use Rattle.format.specs.Row.{Place, Row, row, bare, says_words, row_words, record_row, array_row}
use Rattle.format.specs.Read.{in_message, State, own_label, count_of, take_row, entries, wire, all, leaf, field_count}
use Rattle.laws.specs.Tree.{depth_wire, HasFields}
use Rattle.laws.specs.Kinds.{top-is, by-boolean, by-record, by-array, by-block}
use Rattle.table.specs.Held.{leaf_in, leaf-held, dedup-held}
use Rattle.label.specs.declared.cursor.Cursor.{Cursor}
use Rattle.read_pieces.specs.Pieces.{Inside}
use Rattle.table.specs.declared.nodes.Leaf as held
use Rattle.rows.specs.declared.kind.Kind.{Kind}
use Rattle.rows.specs.Kind.{word_of}
use Rattle.read_leaf.specs.declared.Progress.{Progress}
use Rattle.read_leaf.specs.declared.front.Size.{Size}
use Rattle.read_leaf.specs.declared.front.Size.TheVariants.{Of, Below}
use Rattle.read_leaf.specs.State.{most_rows, Ready, state_of, Walks, Does}
use Rattle.read_leaf.specs.Meaning.{front_of, size_label, held_leaf, held_of}
use Rattle.read_leaf.specs.Push.{put_of, put_in}
use Rattle.read_leaf.specs.Does.{along, refuses, pushes, push-not}
use Rattle.read_leaf.specs.Takes.{took-inside, then-does, then-refuses}
use Rattle.read_leaf.specs.Held.{held-walks}
use Rattle.read_leaf.specs.Promises.{Owns, Bare, PutsRow, Boolean}
use Rattle.store.specs.Words.{word}
use Rattle.wire_types.specs.Typed.{held_in, IsNode, IsWire, FitsNode, FitsWire, FitFields, is_nullable, below}
use Rattle.wire_types.specs.Nodes.{nullable-is, wire-of, fits-fields}
use Rattle.wire_types.specs.Path.{path_below, path-less, fits-own}
use Rattle.read_walk.specs.declared.opening.Seen.{Seen}
use Rattle.read_walk.specs.declared.opening.Seen.TheVariants.{Gone, Here}
use Rattle.read_walk.specs.Opening.{here, opened, seen_of, opened_of, Opens, rest, value_at}
use Rattle.read_walk.specs.Walk.{ReadsValue, ReadsWire, ReadsFields, ReadsEntries}
use Rattle.read_walk.proofs.Opens.{onward, value-opens}

-- ---- a value

module _ (table m w l : List ℕ) (modes node n : ℕ) (o z : Bool) (c : Cursor) (x : Result (Seen × Cursor) Refusal) (e : z ≡ eqb (node_at table node).kind NULLABLE) (ready : Ready m w) (d : Opens m c x (opened m modes o z)) where
  -- by what the labels in front say, and then what is left
  value-by : {w' l' : List ℕ} {r : Result Progress Refusal}
      → ((v : Node) → IsNode table w node v → is_nullable v ≡ z
      → Does m (most_rows (length l)) w w' n l l' r (opened m modes o z (state_of m (most_rows (length l)) w c n) >>= onward m modes (held_in table) v))
      → ReadsValue m w w' l l' c n r table modes node o
  value-by f = record {
    does = λ v h.
        let q : is_nullable v ≡ z = nullable-is table w node v h ∙ sym e in
        along (value-opens m modes (held_in table) o v _ ∙ ap (λ y. opened m modes o y (state_of m (most_rows (length l)) w c n) >>= onward m modes (held_in table) v) q) (f v h q);
  }

  pub value-refused : {l' : List ℕ} {e : Refusal} → x ≡ Err e → ReadsValue m w w l l' c n (Err e) table modes node o
  value-refused q = value-by (λ v h t. then-refuses _ ((d.takes w ready).took (most_rows (length l)) n) (onward m modes (held_in table) v) (ap opened_of q))

  pub value_gone : {l' : List ℕ} {r : Result Progress Refusal} {y : Seen} {kind : Kind} {next : Cursor} → x ≡ Ok (y, next) → y ≡ Gone kind → PutsRow n (word_of kind ∷ 0 ∷ 0 ∷ node ∷ []) next l l' r → ReadsValue m w w l l' c n r table modes node o
  unfolding rest row_words says_words
  value_gone {kind = kind} {next} q u y = value-by (λ v h t.
      let a = (d.takes w ready).took (most_rows (length l)) n in
      let e = ap opened_of q ∙ ap (λ f. ok (seen_of f, next)) u in
      then-does _ a (onward m modes (held_in table) v) e (y.does m w (top_of v) (bare (word_of kind) 0) (ap (λ i. word_of kind ∷ 0 ∷ 0 ∷ i ∷ []) (top-is _ _ _ _ node v h)) ready (took-inside _ a e)))

  module _ {front : code.Option ℤ} {next : Cursor} {y : Seen} (p : x ≡ Ok (y, next)) (p₁ : y ≡ Here front) where
    q : opened_of x ≡ ok (here (front_of front), next)
    q = ap opened_of p ∙ ap (λ a. ok (seen_of a, next)) p₁

    pub value-here : {w' l' : List ℕ} {r : Result Progress Refusal} {i : ℕ} → i ≡ below z node → ReadsWire m w w' l l' next n r table modes i node (front_of front) → ReadsValue m w w' l l' c n r table modes node o
    unfolding rest
    value-here u y = value-by (λ v h t.
        then-does _ ((d.takes w ready).took (most_rows (length l)) n) (onward m modes (held_in table) v) q
        (rw (top-is _ _ _ _ node v h) ((rw u at y).does (wire_of v) (subst (λ j. IsWire table w (below j node) (wire_of v)) t (wire-of table w node v h)))))

    pub opened_inside : Inside m next
    opened_inside = took-inside _ ((d.takes w ready).took 0 0) q

pub value-fits : (table w : List ℕ) (left node i path : ℕ) (z : Bool) → z ≡ eqb (node_at table node).kind NULLABLE → i ≡ below z node → path ≡ path_below z left → FitsNode table w left node → FitsWire table w path i
value-fits table w left node i path z e u q f = rw (u, q) (fits-own table w left node z e f)

pub value-less : (left : ℕ) {path : ℕ} {z b : Bool} → z ≡ b → path ≡ path_below z left → path ≤ left
value-less left {z = z} e q = rw q (path-less z left)

-- ---- a record

module _ (table m w l : List ℕ) (modes node top n : ℕ) (front : code.Option ℤ) (c : Cursor) (k : (node_at table node).kind ≡ RECORD) (b : Bool) (x : Bare front b) where
  -- a row, and then the fields
  record-by : {w' l' : List ℕ} {r : Result Progress Refusal}
      → ((ws : Fields) → (node_at table node).argument ≡ field_count ws → HasFields (u16 table 5) (node_at table) (λ i. word w i) (held_in table) (node + 1) ws
      → Does m (most_rows (length l)) w w' n l l' r (need_at b 24 0 >> (take_row (in_message m) (state_of m (most_rows (length l)) w c n) >>= (λ s. all (in_message m) modes (held_in table) ws s >>= (λ y. ok (row top (bare record_row (field_count ws)) ∷ y.0, y.1))))))
      → ReadsWire m w w' l l' c n r table modes node top (front_of front)
  unfolding wire depth_wire
  record-by {w'} {l'} {r} f = record {
    does = λ v h.
        by-record _ _ _ _ (λ u. Walks m w w' c n l l' r (wire (in_message m) modes (held_in table) u top (front_of front))) node v h k
        (λ ws t a g. along (ap (λ y. y >> (take_row (in_message m) (state_of m (most_rows (length l)) w c n) >>= (λ s. all (in_message m) modes (held_in table) ws s >>= (λ y. ok (row top (bare record_row (field_count ws)) ∷ y.0, y.1))))) (x.is m)) (f ws a g));
  }

  pub record-24 : {l' : List ℕ} → b ≡ false → ReadsWire m w w l l' c n (Err LabelPlace) table modes node top (front_of front)
  unfolding need_at ◌>>◌
  record-24 e = record-by (λ ws a g. rw e (refuses LabelPlace refl))

  module _ (e : b ≡ true) (q : Result ℕ Refusal) (h : q ≡ put_of (most_rows (length l)) n) where
    pub record-full : {l' : List ℕ} {u : Refusal} → q ≡ Err u → ReadsWire m w w l l' c n (Err u) table modes node top (front_of front)
    unfolding need_at ◌>>◌
    record-full z = record-by (λ ws a g. rw e (push-not c _ h z))

    pub record-then : {count next : ℕ} {w' l₁ l₂ : List ℕ} {r : Result Progress Refusal} → count ≡ (node_at table node).argument → l₁ ≡ put_in (most_rows (length l)) l n (9 ∷ count ∷ 0 ∷ top ∷ []) → q ≡ Ok next → length l₁ ≡ length l
        → ReadsFields m w w' l₁ l₂ c next r table modes (node + 1) count → ReadsWire m w w' l l₂ c n r table modes node top (front_of front)
    unfolding need_at ◌>>◌ row_words says_words
    record-then {count} {next} {w'} {l₁} {l₂} {r} u s z y v = record-by (λ ws a g. rw e
        (pushes (row top (bare record_row (field_count ws))) (all (in_message m) modes (held_in table) ws) h s z (ap (λ j. 9 ∷ j ∷ 0 ∷ top ∷ []) (sym (u ∙ a)))
        (subst (λ j. Does m (most_rows j) w w' next l₁ l₂ r (all (in_message m) modes (held_in table) ws (state_of m (most_rows j) w c next))) y (v.does ws g (sym (u ∙ a))))))

pub record-fits : (table w : List ℕ) (node left count : ℕ) → (node_at table node).kind ≡ RECORD → count ≡ (node_at table node).argument → FitsWire table w left node → FitFields table w (left - 1) (node + 1) count
record-fits table w node left count k e f = rw e (fits-fields table w node left f k)

-- ---- an array

-- what follows its label
unfoldable counted : (table m : List ℕ) (modes top : ℕ) (v : Node) → ℤ × State (in_message m) → Answer (List (Row Place) × State (in_message m))
counted table m modes top v p = count_of p.0 >>= (λ n. take_row (in_message m) p.1 >>= (λ u. entries (in_message m) n (value_at m modes (held_in table) false v) u >>= (λ y. ok (row top (bare array_row n) ∷ y.0, y.1))))

module _ (table m w l : List ℕ) (modes node top n : ℕ) (front : code.Option ℤ) (c : Cursor) (k : (node_at table node).kind ≡ ARRAY) (ready : Ready m w) (t : Result (ℤ × Cursor) Refusal) (x : Owns m front c t) where
  -- the label, and then the rest
  array-by : {w' l' : List ℕ} {r : Result Progress Refusal}
      → ((v : Node) → IsNode table w (node + 1) v
      → Does m (most_rows (length l)) w w' n l l' r (own_label (in_message m) (front_of front) (state_of m (most_rows (length l)) w c n) >>= counted table m modes top v))
      → ReadsWire m w w' l l' c n r table modes node top (front_of front)
  unfolding wire depth_wire counted
  array-by {w'} {l'} {r} f = record {
    does = λ v h.
        by-array _ _ _ _ (λ u. Walks m w w' c n l l' r (wire (in_message m) modes (held_in table) u top (front_of front))) node v h k (λ u a g. f u g);
  }

  pub array-not : {l' : List ℕ} {e : Refusal} → t ≡ Err e → ReadsWire m w w l l' c n (Err e) table modes node top (front_of front)
  array-not q = array-by (λ v g. then-refuses _ ((x.takes w ready).took (most_rows (length l)) n) (counted table m modes top v) (ap answered q))

  module _ {a : ℤ} {core : Cursor} (q : t ≡ Ok (a, core)) (size : Size) (s : size_label size ≡ a) where
    pub array-24 : {l' : List ℕ} {j : ℕ} → size ≡ Below j → ReadsWire m w w l l' c n (Err LabelPlace) table modes node top (front_of front)
    unfolding counted count_of ◌>>=◌
    array-24 z = array-by (λ v g. then-does _ ((x.takes w ready).took (most_rows (length l)) n) (counted table m modes top v) (ap answered q) (rw (← s, z) (refuses LabelPlace refl)))

    module _ {count : ℕ} (z : size ≡ Of count) (p : Result ℕ Refusal) (h : p ≡ put_of (most_rows (length l)) n) where
      array-row : {w' l' : List ℕ} {r : Result Progress Refusal}
          → ((v : Node) → IsNode table w (node + 1) v
          → Does m (most_rows (length l)) w w' n l l' r (take_row (in_message m) (state_of m (most_rows (length l)) w core n) >>= (λ u. entries (in_message m) count (value_at m modes (held_in table) false v) u >>= (λ y. ok (row top (bare array_row count) ∷ y.0, y.1)))))
          → ReadsWire m w w' l l' c n r table modes node top (front_of front)
      unfolding counted count_of ◌>>=◌
      array-row f = array-by (λ v g. then-does _ ((x.takes w ready).took (most_rows (length l)) n) (counted table m modes top v) (ap answered q) (rw (← s, z) (f v g)))

      pub array-full : {l' : List ℕ} {e : Refusal} → p ≡ Err e → ReadsWire m w w l l' c n (Err e) table modes node top (front_of front)
      array-full j = array-row (λ v g. push-not core _ h j)

      pub array-then : {next : ℕ} {w' l₁ l₂ : List ℕ} {r : Result Progress Refusal} → l₁ ≡ put_in (most_rows (length l)) l n (10 ∷ count ∷ 0 ∷ top ∷ []) → p ≡ Ok next → length l₁ ≡ length l
          → ReadsEntries m w w' l₁ l₂ core next r table modes (node + 1) count → ReadsWire m w w' l l₂ c n r table modes node top (front_of front)
      unfolding row_words says_words
      array-then {next} {w'} {l₁} {l₂} {r} u j y v = array-row (λ b g.
          pushes (row top (bare array_row count)) (entries (in_message m) count (value_at m modes (held_in table) false b)) h u j refl
          (subst (λ k. Does m (most_rows k) w w' next l₁ l₂ r (entries (in_message m) count (value_at m modes (held_in table) false b) (state_of m (most_rows k) w core next))) y (v.does b g)))

  pub own-inside : {a : ℤ} {core : Cursor} → t ≡ Ok (a, core) → Inside m core
  own-inside q = took-inside _ ((x.takes w ready).took 0 0) (ap answered q)

-- ---- a value with nothing below it

pub boolean-does : (table m w l l' : List ℕ) (modes node top n : ℕ) (front : code.Option ℤ) (c : Cursor) (r : Result Progress Refusal) → (node_at table node).kind ≡ BOOLEAN → Ready m w → Boolean m top front c n l l' r
    → ReadsWire m w w l l' c n r table modes node top (front_of front)
boolean-does table m w l l' modes node top n front c r k ready x = record {
  does = λ v h.
      by-boolean _ _ _ _ (λ u. Walks m w w c n l l' r (wire (in_message m) modes (held_in table) u top (front_of front))) node v h k (x.does modes (held_in table) w ready);
}

pub block-does : (table m w w' l l' : List ℕ) (modes node top n : ℕ) (front : code.Option ℤ) (c : Cursor) (r : Result Progress Refusal) (key : ℕ) (a : held.Leaf) (dedup : Bool) → (node_at table node).kind ≡ BLOCK
    → key ≡ (node_at table node).argument → a ≡ leaf_in (leaf_of (node_at table (node + 1))) → dedup ≡ deduplicate (node_at table node)
    → Walks m w w' c n l l' r (leaf (in_message m) modes (λ i. held_of a dedup) key (held_leaf a) top (front_of front))
    → ReadsWire m w w' l l' c n r table modes node top (front_of front)
unfolding wire
block-does table m w w' l l' modes node top n front c r key a dedup k e₁ e₂ e₃ x = record {
  does = λ v h.
      by-block _ _ _ _ (λ u. Walks m w w' c n l l' r (wire (in_message m) modes (held_in table) u top (front_of front))) node v h k
      (λ b. held-walks modes (held_in table) (node_at table node).argument top (front_of front) c (e₂ ∙ leaf-held b) (e₃ ∙ dedup-held b) (rw e₁ at x));
}
