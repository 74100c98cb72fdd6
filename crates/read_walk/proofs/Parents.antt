-- The row of a record or an array, by what stands in front of it, what it holds, and whether there is a row left.
use mathlib.Core.Path.{◌≡◌, refl, sym, ap, ◌∙◌, subst}
use mathlib.Core.Bool.{Bool, true, false}
use mathlib.Core.List.{List, []}
use mathlib.Core.Option.{Option}
use Prim.Native.Nat.{ℕ, ◌+◌, ◌-◌}
use lib.IntN.{ℤ}
use lib.ListN.{length}
use Rattle.std.specs.Prelude as code
use Rattle.std.specs.Prelude.{Result, Ok, Err}
use Rattle.format.specs.declared.refusal.Refusal.{Refusal}
use Rattle.format.specs.declared.refusal.Refusal.TheVariants.{LabelPlace}
use Rattle.format.specs.Table.{node_at, RECORD, ARRAY}
use Rattle.laws.specs.Facts.{absurd-bool}
use Rattle.label.specs.declared.cursor.Cursor.{Cursor}
use Rattle.read_pieces.specs.Pieces.{Inside}
use Rattle.read_leaf.specs.declared.front.Size.{Size}
use Rattle.read_leaf.specs.declared.front.Size.TheVariants.{Of, Below}
use Rattle.read_leaf.specs.State.{most_rows}
use Rattle.read_leaf.specs.Meaning.{front_of, size_label}
use Rattle.read_leaf.specs.Push.{put_of}
use Rattle.read_leaf.specs.Promises.{Owns, Bare}
use Rattle.wire_types.specs.Typed.{FitsWire}
use Rattle.wire_types.specs.Nodes.{fits-entry}
use Rattle.wire_types.specs.Run.{FitRun, run-entries, run-fields}
use Rattle.read_walk.specs.declared.parent.Parent.{Parent}
use Rattle.read_walk.specs.Parent.{parent_kind, parent_by, Holds, Wrong, HasRow, MakesRow}
use Rattle.read_walk.proofs.Steps.{record-24, record-full, record-then, record-fits, array-not, array-24, array-full, array-then, own-inside}

-- what putting its row has come to
rows_in : Result Parent Refusal → Result ℕ Refusal
rows_in (Ok x) = Ok x.at.rows
rows_in (Err e) = Err e

pub made-next : (count : ℕ) (c : Cursor) {x : Parent} {p : Result Parent Refusal} (q : Result ℕ Refusal) → p ≡ parent_by q count c → p ≡ Ok x → q ≡ Ok x.at.rows
unfolding rows_in
made-next count c (Ok i) e z = ap (λ (y : Result Parent Refusal). rows_in y) (sym e ∙ z)
made-next count c (Err r) e z = absurd (cc)

core_in : Cursor → Result Parent Refusal → Cursor
core_in c (Ok x) = x.at.core
core_in c (Err e) = c

pub made-core : (count : ℕ) (c : Cursor) {x : Parent} {p : Result Parent Refusal} (q : Result ℕ Refusal) → p ≡ parent_by q count c → p ≡ Ok x → x.at.core ≡ c
unfolding core_in
made-core count c (Ok i) e z = ap (λ (y : Result Parent Refusal). core_in c y) (sym z ∙ e)
made-core count c (Err r) e z = absurd (cc)

pub made-not : (count : ℕ) (c : Cursor) {e : Refusal} {p : Result Parent Refusal} (q : Result ℕ Refusal) → p ≡ parent_by q count c → p ≡ Err e → q ≡ Err e
made-not count c (Ok i) u z = absurd (cc)
made-not count c (Err r) u z = cc

module _ (table m : List ℕ) (node : ℕ) (b : Bool) (front : code.Option ℤ) (c : Cursor) where
  module _ (k : (node_at table node).kind ≡ parent_kind b) (e : b ≡ true) (t : Result (ℤ × Cursor) Refusal) (x : Owns m front c t) where
    is-array : (node_at table node).kind ≡ ARRAY
    is-array = k ∙ ap parent_kind e

    pub array-bad : {e : Refusal} → t ≡ Err e → Wrong table m node b (front_of front) c e
    array-bad q = record { refused = λ w l l₁ n modes top g. array-not table m w l modes node top n front c is-array g t x q }

    module _ {a : ℤ} {core : Cursor} (q : t ≡ Ok (a, core)) (size : Size) (s : size_label size ≡ a) where
      pub array-low : {j : ℕ} → size ≡ Below j → Wrong table m node b (front_of front) c LabelPlace
      array-low z = record { refused = λ w l l₁ n modes top g. array-24 table m w l modes node top n front c is-array g t x q size s z }

      pub array-holds : {count : ℕ} → size ≡ Of count → Holds table m node b (front_of front) c count core
      array-holds {count} z = rw e (record {
        inside = λ w g. own-inside table m w [] 0 node 0 0 front c is-array g t x q;
        fields = λ v. absurd-bool (sym v);
        full = λ w l l₁ n modes top u g h. array-full table m w l modes node top n front c is-array g t x q size s z (put_of (most_rows (length l)) n) refl h;
        onward = λ w w' l l₁ l₂ n next r modes top g h i y v. array-then table m w l modes node top n front c is-array g t x q size s z (put_of (most_rows (length l)) n) refl i h y (v.entries refl);
      })

  module _ (k : (node_at table node).kind ≡ parent_kind b) (e : b ≡ false) (bare : Bool) (x : Bare front bare) where
    is-record : (node_at table node).kind ≡ RECORD
    is-record = k ∙ ap parent_kind e

    pub record-labelled : bare ≡ false → Wrong table m node b (front_of front) c LabelPlace
    record-labelled v = record { refused = λ w l l₁ n modes top g. record-24 table m w l modes node top n front c is-record bare x v }

    pub record-holds : {count : ℕ} → Inside m c → bare ≡ true → count ≡ (node_at table node).argument → Holds table m node b (front_of front) c count c
    record-holds {count} i v d = rw e (record {
      inside = λ w g. i;
      fields = λ z. d;
      full = λ w l l₁ n modes top u g h. record-full table m w l modes node top n front c is-record bare x v (put_of (most_rows (length l)) n) refl h;
      onward = λ w w' l l₁ l₂ n next r modes top g h s y z. record-then table m w l modes node top n front c is-record bare x v (put_of (most_rows (length l)) n) refl d s h y (z.fields refl);
    })

-- what it has come to
module _ {table m l l₁ : List ℕ} {node top n : ℕ} {b : Bool} {front : Option ℤ} {c : Cursor} (p : Result Parent Refusal) (x : MakesRow table m l l₁ node top b front c n p) where
  pub parent-made : {y : Parent} → p ≡ Ok y → HasRow table m l l₁ node top b front c n y.count y.at.core y.at.rows
  parent-made q = subst (λ (y : Result Parent Refusal). MakesRow table m l l₁ node top b front c n y) q x

-- the types of what it holds
pub held-fit : {table m l l₁ w : List ℕ} {left node top n count next : ℕ} {front : Option ℤ} {c core : Cursor} (b : Bool) → (node_at table node).kind ≡ parent_kind b → HasRow table m l l₁ node top b front c n count core next → FitsWire table w left node
    → FitRun table w (left - 1) (node + 1) b count
held-fit {table} {w = w} {left} {node} {count = count} true k x f = run-entries (fits-entry table w node left f k)
held-fit {table} {w = w} {left} {node} {count = count} false k x f = run-fields (record-fits table w node left count k (x.fields refl) f)
