-- A value by what stands in front of it and by its kind, at each return. Assumes nothing.
use mathlib.Core.Path.{◌≡◌, refl, sym, ap, ap₂, ◌∙◌}
use mathlib.Core.Bool.{Bool, false, not, ◌&&◌}
use mathlib.Core.List.{List, [], ◌∷◌}
use mathlib.Core.Option.{none, some}
use Prim.Native.Nat.{ℕ, ◌+◌, ◌-◌, ◌^◌, ◌<◌, ◌≤◌}
use native.Mathlib.Omega.{arith}
use lib.Dec.{eqb}
use lib.IntN.{ℤ, pos}
use lib.ListN.{length}
use Rattle.std.specs.Prelude.{Result, Ok, Err}
use Rattle.format.specs.Answer.{Answer, ok, refuse, ◌>>=◌}
use Rattle.format.specs.declared.refusal.Refusal.{Refusal}
use Rattle.format.specs.declared.refusal.Refusal.TheVariants.{Unfit}
use Rattle.format.specs.Label.{integer}
use Rattle.format.specs.Modes.{null_terminated_strings, no_deduplication}
use Rattle.format.specs.Table.{node_at, deduplicate, BOOLEAN, RECORD, ARRAY, BLOCK, NULLABLE, Wire, array, fields, Node, Fields, wire_of, Leaf, string, varint, float64, bytes, fixed}
use Rattle.format.specs.Table as tables
use Rattle.format.specs.Row.{row_count, array_row}
use Rattle.format.specs.Read.{is_numbered, is_ended, field_count}
use Rattle.format.specs.Write.{Event, Rest, Fit, mark, fit_entries, fit_field, fit_leaf, fit_wire, fit_node, fit_all}
use Rattle.label.specs.Laws.{integer-low}
use Rattle.laws.specs.Facts.{by-lt}
use Rattle.theory.specs.Says.{ok-says}
use Rattle.theory.specs.Sent.{length-shown}
use Rattle.table.specs.declared.nodes.Leaf as code
use Rattle.laws.specs.Kinds.{top-is, by-boolean, by-array, by-record, by-block}
use Rattle.table.specs.Held.{leaf_in, leaf-held, dedup-held}
use Rattle.wire_types.specs.Typed.{held_in, IsNode, IsWire, AreFields, FitsNode, FitsWire, below}
use Rattle.wire_types.specs.Nodes.{nullable-is, wire-of}
use Rattle.wire_types.specs.Path.{path_below, path-less, fits-own}
use Rattle.write_row.specs.declared.Progress.{Progress}
use Rattle.write_bytes.specs.declared.Pass.{Pass}
use Rattle.write_row.specs.Rest.{rest_of}
use Rattle.write_row.specs.Judged.{value_in}
use Rattle.write_row.specs.Writes.{Holds, Writes}
use Rattle.write_row.specs.Laws.{joined, along, refuses, done-holds, seqs, seqs-not}
use Rattle.write_row.specs.Used.{node-uses, entries-use}
use Rattle.write_row.specs.Fits.{looked, value_there}
use Rattle.write_row.specs.Opens.{fit_value, fit_truth, boolean-truth, fit_record, record-first, array-not, array-is}
use Rattle.write_row.specs.Row.{Marks, WritesRow, OpensGone, OpensHere, WritesText, leaf_of, is_judged}
use Rattle.write_walk.specs.Pass.{WritesBy, WritesNode, WritesWire, WritesFields, WritesEntries}

-- a row that has to do with no work, done
pub row-holds : {put : Bool} {pool rows out out' w : List ℕ} {i core : ℕ} {n : Progress} {r : Result Progress Refusal} {a : Answer (List Event × Rest)} → Holds pool rows w i core → WritesRow put pool rows out out' i core r a → r ≡ Ok n → Holds pool rows w n.row n.core
row-holds {w = w} h d q = done-holds (d.writes 0 (held_in []) w h) q

pub mark-holds : {put : Bool} {pool rows out out' w : List ℕ} {i core : ℕ} {n : Progress} {r : Result Progress Refusal} {l : ℤ} → Holds pool rows w i core → i < row_count rows → Marks put out out' i core r l → r ≡ Ok n → Holds pool rows w n.row n.core
mark-holds {pool = pool} {rows} h t d q = row-holds h (d.writes pool rows t) q

leaf-back : (l : Leaf) → leaf_of (leaf_in l) ≡ l
unfolding leaf_of leaf_in
leaf-back string = refl
leaf-back varint = refl
leaf-back float64 = refl
leaf-back bytes = refl
leaf-back (fixed n) = refl

-- a text that is judged is a STRING, and so it is ended where the modes end one
ended_is : (modes : ℕ) (l : code.Leaf) → is_ended modes (leaf_of l) ≡ (is_judged l && null_terminated_strings modes)
unfolding leaf_of is_ended
ended_is modes code.TheVariants.String = refl
ended_is modes code.TheVariants.Varint = refl
ended_is modes code.TheVariants.Float64 = refl
ended_is modes code.TheVariants.Bytes = refl
ended_is modes (code.TheVariants.Fixed n) = refl

-- a row's function asks this of where it begins
pub begins : {pool rows w : List ℕ} {i core : ℕ} → Holds pool rows w i core → (i ≤ 8192) × (core < 2 ^ 32)
begins h = (omega (arith, h.inside, h.few), omega (arith, h.within.first, h.inside, h.few))

pub marks-as : {put : Bool} {out out' : List ℕ} {i core : ℕ} {r : Result Progress Refusal} {l l₁ : ℤ} → l ≡ l₁ → Marks put out out' i core r l → Marks put out out' i core r l₁
marks-as e d = rw (← e) d

-- ---- the types on the way down

-- the same path, said otherwise
pub path-as : {table w : List ℕ} {left path node : ℕ} → left ≡ path → FitsNode table w left node → FitsNode table w path node
path-as e f = rw (← e) f

module _ (table w : List ℕ) (left node : ℕ) where
  pub path-within : {path : ℕ} {z : Bool} → z ≡ eqb (node_at table node).kind NULLABLE → path ≡ path_below z left → path ≤ left
  path-within {z = z} e q = omega (arith, path-less z left)

  pub own-fits : {own path : ℕ} {z : Bool} → z ≡ eqb (node_at table node).kind NULLABLE → own ≡ below z node → path ≡ path_below z left → FitsNode table w left node → FitsWire table w path own
  own-fits {z = z} e q p f = rw (q, p) (fits-own table w left node z e f)

-- ---- what stands in front

module _ (how : Pass) (table pool rows out w : List ℕ) (i core node : ℕ) (holds : Holds pool rows w i core) where
  module _ {omittable nullable : Bool} (z : nullable ≡ eqb (node_at table node).kind NULLABLE) where
    pub value_gone : {out' : List ℕ} {r : Result Progress Refusal} → OpensGone how.put omittable nullable pool rows out out' node i core r → WritesNode how table pool rows out w core out' w r i node omittable
    value_gone o = record { writes = λ modes s v h. (o.writes (held_in table) v (nullable-is table w node v h ∙ sym z) (top-is _ _ _ _ node v h)).writes modes (held_in table) w holds }

    pub value-here : {out₁ out' w' : List ℕ} {own : ℕ} {labelled : Bool} {r : Result Progress Refusal} → OpensHere how.put omittable nullable pool rows out out₁ node i core labelled → own ≡ below nullable node
        → WritesWire how table pool rows out₁ w core out' w' r i own node labelled → WritesNode how table pool rows out w core out' w' r i node omittable
    value-here {own = own} o e d = record {
      writes = λ modes s v h.
          let n = nullable-is table w node v h ∙ sym z in
          let u : IsWire table w own (wire_of v) = rw (e ∙ ap (λ b. below b node) (sym n)) (wire-of table w node v h) in
          along (o.goes (held_in table) v n (top-is _ _ _ _ node v h)) (rw (← o.still) (d.writes modes s (wire_of v) u));
    }

  -- ---- by the kind of its own node, where the topmost one is `top`

  module _ (top : ℕ) where
    pub wire-boolean : {out' : List ℕ} {r : Result Progress Refusal} {labelled : Bool} → (node_at table node).kind ≡ BOOLEAN → WritesRow how.put pool rows out out' i core r (fit_truth top (rest_of pool rows i))
        → WritesWire how table pool rows out w core out' w r i node top labelled
    wire-boolean {out'} {r} {labelled} k d = record {
      writes = λ modes s v h. by-boolean _ _ _ _ (λ u. WritesBy how table pool rows out w core out' w r i modes (fit_wire (held_in table) u top labelled)) node v h k
          (along (boolean-truth (held_in table) top labelled (rest_of pool rows i)) (d.writes modes (held_in table) w holds));
    }

    array-either : (u : Node) (labelled : Bool) → fit_wire (held_in table) (array u) top labelled (rest_of pool rows i) ≡ fit_wire (held_in table) (array u) top false (rest_of pool rows i)
    unfolding fit_wire
    array-either u labelled = refl

    -- an array has a label of its own
    pub wire-array : {out' w' : List ℕ} {r : Result Progress Refusal} {labelled : Bool} → (node_at table node).kind ≡ ARRAY → WritesWire how table pool rows out w core out' w' r i node top false → WritesWire how table pool rows out w core out' w' r i node top labelled
    wire-array {out'} {w'} {r} {labelled} k d = record {
      writes = λ modes s v h. by-array _ _ _ _ (λ u. IsWire table w node u → WritesBy how table pool rows out w core out' w' r i modes (fit_wire (held_in table) u top labelled)) node v h k
          (λ u t g h₁. along (array-either u labelled) (d.writes modes s (array u) h₁)) h;
    }

    by-fields : {count : ℕ} → (node_at table node).kind ≡ RECORD → count ≡ (node_at table node).argument
        → (P : Wire → Type 0) (v : Wire) → IsWire table w node v → ((ws : Fields) → field_count ws ≡ count → AreFields table w (node + 1) ws → P (fields ws)) → P v
    by-fields k c P v h f = by-record _ _ _ _ P node v h k (λ ws t e g. f ws (sym (c ∙ e)) g)

    module _ (labelled : Bool) {count : ℕ} (k : (node_at table node).kind ≡ RECORD) (c : count ≡ (node_at table node).argument) where
      module _ {out₁ : List ℕ} {r₁ : Result Progress Refusal} (d : WritesRow how.put pool rows out out₁ i core r₁ (fit_record count top labelled (rest_of pool rows i))) where
        first_does : (modes : ℕ) (ws : Fields) → field_count ws ≡ count → Writes how.put modes (held_in table) pool rows out w core out₁ w r₁ (fit_record (field_count ws) top labelled (rest_of pool rows i))
        first_does modes ws e = rw e (d.writes modes (held_in table) w holds)

        pub record-not : {e : Refusal} → r₁ ≡ Err e → WritesWire how table pool rows out w core out₁ w (Err e) i node top labelled
        record-not {e} q = record {
          writes = λ modes s v h. by-fields k c (λ u. WritesBy how table pool rows out w core out₁ w (Err e) i modes (fit_wire (held_in table) u top labelled)) v h
              (λ ws t g. along (record-first (held_in table) top labelled (rest_of pool rows i) ws) (seqs-not _ (fit_all (held_in table) ws) (first_does modes ws t) q));
        }

        pub record-then : {out' w' : List ℕ} {r : Result Progress Refusal} {n : Progress} → r₁ ≡ Ok n → WritesFields how table pool rows out₁ w n.core out' w' r n.row (node + 1) count
            → WritesWire how table pool rows out w core out' w' r i node top labelled
        record-then {out'} {w'} {r} q f = record {
          writes = λ modes s v h. by-fields k c (λ u. WritesBy how table pool rows out w core out' w' r i modes (fit_wire (held_in table) u top labelled)) v h
              (λ ws e g. along (record-first (held_in table) top labelled (rest_of pool rows i) ws) (seqs _ (fit_all (held_in table) ws) (first_does modes ws e) q (f.writes modes s ws g e)));
        }

    -- ---- an array

    -- with n entries
    abbrev entries_of : ℕ → Node → Fit
    entries_of n u r = fit_entries n (λ t. fit_value (held_in table) false u t) r

    abbrev after : ℕ → Node → ℤ → Answer (List Event × Rest)
    after n u l = ok (mark l ∷ [], rest_of pool rows (i + 1)) >>= (λ x. entries_of n u x.1 >>= (λ y. ok (joined x y)))

    array-value : {n : ℕ} (u : Node) → value_in array_row (looked pool rows top i) ≡ some n → n < 2 ^ 64 → fit_wire (held_in table) (array u) top false (rest_of pool rows i) ≡ after n u (pos n)
    unfolding fit_field
    array-value u e b = array-is pool rows top i (held_in table) false u e b

    -- a count that is no label has no rows enough for it
    any-label : (n : ℕ) (u : Node) → after n u (pos n) ≡ after n u (integer n)
    unfolding fit_field ◌>>=◌
    any-label n u = by-lt n (2 ^ 63) (λ b. ap (λ l. after n u l) (sym (integer-low b))) (λ b. high b (entries_of n u (rest_of pool rows (i + 1))) refl)
      where
        high : 2 ^ 63 ≤ n → (m : Answer (List Event × Rest)) → entries_of n u (rest_of pool rows (i + 1)) ≡ m → after n u (pos n) ≡ after n u (integer n)
        high b (ok y) e =
            let s = entries-use n (λ t. fit_node (held_in table) u false t) (λ t. node-uses (held_in table) u false t) (rest_of pool rows (i + 1)) in
            let h : n + length y.1.cells ≤ length (rest_of pool rows (i + 1)).cells = ok-says (rw e at s) in
            absurd (omega (arith, length-shown pool rows (i + 1) (row_count rows - (i + 1)), holds.few))
        high b (refuse m j) e = rw e

    module _ (k : (node_at table node).kind ≡ ARRAY) where
      by_entries : (P : Wire → Type 0) (v : Wire) → IsWire table w node v → ((u : Node) → IsNode table w (node + 1) u → P (array u)) → P v
      by_entries P v h f = by-array _ _ _ _ P node v h k (λ u t g. f u g)

      pub array-none : {out' : List ℕ} → value_in array_row (looked pool rows top i) ≡ none → WritesWire how table pool rows out w core out' w (Err (Unfit i)) i node top false
      array-none {out'} e = record {
        writes = λ modes s v h. by_entries (λ u. WritesBy how table pool rows out w core out' w (Err (Unfit i)) i modes (fit_wire (held_in table) u top false)) v h
            (λ u g. along (array-not pool rows top i (held_in table) false u e) (refuses (Unfit i)));
      }

      module _ {n : ℕ} {out₁ : List ℕ} {r₁ : Result Progress Refusal} (e : value_in array_row (looked pool rows top i) ≡ some n) (b : n < 2 ^ 64) (d : Marks how.put out out₁ i core r₁ (integer n)) where
        mark-does : (modes : ℕ) → Writes how.put modes (held_in table) pool rows out w core out₁ w r₁ (ok (mark (integer n) ∷ [], rest_of pool rows (i + 1)))
        mark-does modes = (d.writes pool rows (value_there pool rows top i array_row e)).writes modes (held_in table) w holds

        pub array-refused : {m : Refusal} → r₁ ≡ Err m → WritesWire how table pool rows out w core out₁ w (Err m) i node top false
        array-refused {m} q = record {
          writes = λ modes s v h. by_entries (λ u. WritesBy how table pool rows out w core out₁ w (Err m) i modes (fit_wire (held_in table) u top false)) v h
              (λ u g. along (array-value u e b ∙ any-label n u) (seqs-not _ (entries_of n u) (mark-does modes) q));
        }

        pub array-then : {out' w' : List ℕ} {r : Result Progress Refusal} {m : Progress} → r₁ ≡ Ok m → WritesEntries how table pool rows out₁ w m.core out' w' r m.row (node + 1) n
            → WritesWire how table pool rows out w core out' w' r i node top false
        array-then {out'} {w'} {r} q f = record {
          writes = λ modes s v h. by_entries (λ u. WritesBy how table pool rows out w core out' w' r i modes (fit_wire (held_in table) u top false)) v h
              (λ u g. along (array-value u e b ∙ any-label n u) (seqs _ (entries_of n u) (mark-does modes) q (f.writes modes s u g)));
        }

    -- ---- a BLOCK

    module _ {out' w' : List ℕ} {r : Result Progress Refusal} {labelled numbered : Bool} {key : ℕ} {l : code.Leaf} where
      pub block_writes : (node_at table node).kind ≡ BLOCK → key ≡ (node_at table node).argument → l ≡ leaf_in (tables.leaf_of (node_at table (node + 1))) → numbered ≡ (deduplicate (node_at table node) && how.numbers)
          → WritesText how numbered (is_judged l && how.ends) key pool rows out w core out' w' r (fit_leaf key (leaf_of l) top labelled (rest_of pool rows i)) → WritesWire how table pool rows out w core out' w' r i node top labelled
      unfolding fit_wire is_numbered
      block_writes k a e n d = record {
        writes = λ modes s v h. by-block _ _ _ _ (λ u. WritesBy how table pool rows out w core out' w' r i modes (fit_wire (held_in table) u top labelled)) node v h k
            (λ g.
            let x : leaf_of l ≡ (held_in table (node_at table node).argument).leaf = ap leaf_of (e ∙ leaf-held g) ∙ leaf-back _ in
            let y : is_numbered modes (held_in table key) ≡ numbered = ap (λ j. (held_in table j).dedup && not (no_deduplication modes)) a ∙ ap₂ ◌&&◌ (sym (dedup-held g)) s.numbers ∙ sym n in
            let t : is_ended modes (held_in table key).leaf ≡ (is_judged l && how.ends) = ap (λ j. is_ended modes (held_in table j).leaf) a ∙ ap (is_ended modes) (sym x) ∙ ended_is modes l ∙ ap (λ b. is_judged l && b) s.ends in
            along (sym (ap₂ (λ (j : ℕ) (z : Leaf). fit_leaf j z top labelled (rest_of pool rows i)) a x)) (d.writes modes (held_in table) s.inline y t));
      }
