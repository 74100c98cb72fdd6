-- From a record of one field or an array of one entry to the value that it holds, and so on down. Assumes nothing.
use mathlib.Core.Path.{◌≡◌, refl, sym, ap, ◌∙◌}
use mathlib.Core.Bool.{Bool, true, false}
use mathlib.Core.List.{List}
use Prim.Native.Nat.{ℕ, ◌+◌, ◌-◌}
use native.Mathlib.Omega.{arith}
use lib.Dec.{eqb}
use Rattle.std.specs.Prelude.{Some, Result, Ok, Err}
use Rattle.std.specs.Bool.{then_some}
use Rattle.format.specs.declared.refusal.Refusal.{Refusal}
use Rattle.format.specs.Table.{node_at, NULLABLE}
use Rattle.laws.specs.Facts.{some_same}
use Rattle.wire_types.specs.Typed.{Sized, FitsNode, FitsWire}
use Rattle.wire_types.specs.Nodes.{first_fits}
use Rattle.wire_types.specs.Run.{absent_in, fields_fit, entry-fits}
use Rattle.write_row.specs.declared.Progress.{Progress}
use Rattle.write_bytes.specs.declared.Pass.{Pass}
use Rattle.write_row.specs.Writes.{Holds}
use Rattle.write_row.proofs.Facts.{open_plain}
use Rattle.write_walk.specs.Pass.{WritesNode, WritesWire}
use Rattle.write_walk.specs.Own.{IsHolder}
use Rattle.write_walk.specs.Own as own
use Rattle.write_walk.specs.Remaining.{Remaining}
use Rattle.write_walk.specs.Descent.{is_array, OneEntry, OneField, Alone, Stands, Descends}
use Rattle.write_walk.specs.declared.descent.Holder.{Holder}
use Rattle.write_walk.specs.declared.descent.Holder.TheVariants.{Record, Array}
use Rattle.write_walk.proofs.ByKind.{path-as, own-fits, value-here}
use Rattle.write_walk.proofs.Several.{entry-alone, field-alone}

-- as the other functions are told it: an array, or else a record
abbrev pub Lone : List ℕ → List ℕ → List ℕ → ℕ → ℕ → Bool → Type 0
Lone table pool rows node i true = OneEntry table pool rows node i
Lone table pool rows node i false = OneField table pool rows node i

-- ---- one step down

module _ (how : Pass) (table pool rows out w : List ℕ) (i core left node : ℕ) (holds : Holds pool rows w i core) (fits : FitsNode table w left node) (whole : Sized table) where
  -- nothing stands in front of a value that is neither omittable nor nullable
  module _ (z : eqb (node_at table node).kind NULLABLE ≡ false) where
    pub plain : {out' w' : List ℕ} {r : Result Progress Refusal} → WritesWire how table pool rows out w core out' w' r i node node false → WritesNode how table pool rows out w core out' w' r i node false
    plain d = value-here how table pool rows out w i core node holds (sym z) (open_plain node false false refl refl) refl d

    wire-fits : FitsWire table w left node
    wire-fits = own-fits table w left node (sym z) refl refl fits

  -- to the value behind this node
  abbrev Inward : List ℕ → ℕ → ℕ → Bool → Type 0
  Inward out₁ i₁ core₁ o₁ = Remaining how.put table pool rows out core i node false core₁ i₁ (node + 1) (λ path w₁. FitsNode table w₁ path (node + 1)) (λ h w₁ out₂ w₂ r. WritesNode h table pool rows out₁ w₁ core₁ out₂ w₂ r i₁ (node + 1) o₁) how w left

  one_less : left - 1 ≡ left - (node + 1 - node)
  one_less = omega arith

  no_front : (array : Bool) → Lone table pool rows node i array → eqb (node_at table node).kind NULLABLE ≡ false
  no_front true x = ap (λ k. eqb k NULLABLE) x.kind
  no_front false x = ap (λ k. eqb k NULLABLE) x.kind

  -- its own row, of a pass that puts or counts so
  module _ {put : Bool} (e : how.put ≡ put) {out₁ : List ℕ} where
    step-not : (array : Bool) {n : Refusal} → Lone table pool rows node i array → own.Stops put table pool rows out core i node node array false out₁ n → WritesNode how table pool rows out w core out₁ w (Err n) i node false
    step-not array x s = plain (no_front array x) (s.writes how e w holds)

    step-remaining : (array : Bool) {count i₁ core₁ : ℕ} → Lone table pool rows node i array → own.Makes put table pool rows out core i node node array false out₁ count i₁ core₁ → Inward out₁ i₁ core₁ (absent_in array (node_at table (node + 1)))
    step-remaining true {count} x m =
        let o = m.remaining how e w holds in
        let c : count ≡ 1 = some_same (sym (m.said refl) ∙ x.row) in
        record {
          holds = o.holds;
          fits = path-as one_less ((entry-fits table w left node {count = 1} x.kind (wire-fits (no_front true x))).entries refl);
          whole = λ y. plain (no_front true x) (o.entries refl (rw c (entry-alone y)));
        }
    step-remaining false {count} {i₁} {core₁} x m =
        let o = m.remaining how e w holds in
        let c : count ≡ 1 = m.listed refl ∙ x.count in
        record {
          holds = o.holds;
          fits = path-as one_less (first_fits ((fields_fit table w left node x.kind (sym x.count) (wire-fits (no_front false x))).fields refl) (λ q. omega arith));
          whole = λ y. plain (no_front false x) (o.fields refl (rw c (field-alone y)));
        }

-- where a test says that it is one
pub alone-if : (table pool rows : List ℕ) (node i : ℕ) (t : Bool) (h : Holder) → (t ≡ true → Alone table pool rows node i (Some h)) → Alone table pool rows node i (then_some t h)
alone-if table pool rows node i true h f = f refl
alone-if table pool rows node i false h f = tt

pub lone : (table pool rows : List ℕ) (node i : ℕ) (h : Holder) {array : Bool} → array ≡ is_array h → Alone table pool rows node i (Some h) → Lone table pool rows node i array
lone table pool rows node i Array e x = rw e x
lone table pool rows node i Record e x = rw e x

pub lone-holder : (table pool rows : List ℕ) (node i : ℕ) (array : Bool) → Lone table pool rows node i array → IsHolder table node array
lone-holder table pool rows node i true x = x.kind
lone-holder table pool rows node i false x = x.kind

-- ---- all the way down

module _ (put : Bool) (table pool rows out₀ : List ℕ) (core₀ i₀ node₀ : ℕ) (o₀ : Bool) where
  pub leads-self : Descends put table pool rows out₀ core₀ i₀ node₀ o₀ out₀ (Ok (record { node = node₀; omittable = o₀; at = record { row = i₀; core = core₀ } }))
  leads-self = record { behind = omega arith; remaining = λ how e w h f. record { holds = h; fits = path-as (omega arith) f; whole = λ y. y } }

  module _ (out : List ℕ) (core i node : ℕ) {o : Bool} (x : Descends put table pool rows out₀ core₀ i₀ node₀ o₀ out (Ok (record { node = node; omittable = o; at = record { row = i; core = core } }))) where
    pub leads-as : {o₁ : Bool} → o ≡ o₁ → Descends put table pool rows out₀ core₀ i₀ node₀ o₀ out (Ok (record { node = node; omittable = o₁; at = record { row = i; core = core } }))
    leads-as e = rw (← e) x

    pub still-stands : Stands table pool rows i₀ core₀ node₀ → Stands table pool rows i core node
    still-stands s =
        let y = x.remaining (record { put = put; inline = false; numbers = false; ends = false }) refl s.work s.holds s.fits in
        record { work = s.work; left = s.left - (node - node₀); holds = y.holds; fits = y.fits }

    module _ (whole : Sized table) (z : o ≡ false) (array : Bool) (a : Lone table pool rows node i array) {out₁ : List ℕ} where
      pub leads-again : {count i₁ core₁ : ℕ} {o₁ : Bool} → own.Makes put table pool rows out core i node node array false out₁ count i₁ core₁ → o₁ ≡ absent_in array (node_at table (node + 1)) → Descends put table pool rows out₀ core₀ i₀ node₀ o₀ out₁ (Ok (record { node = node + 1; omittable = o₁; at = record { row = i₁; core = core₁ } }))
      leads-again m t = rw t (record {
        behind = omega (arith, x.behind);
        remaining = λ how e w h f.
            let y = (leads-as z).remaining how e w h f in
            let s = step-remaining how table pool rows out w i core _ node y.holds y.fits whole e array a m in
            record { holds = s.holds; fits = path-as (omega (arith, x.behind)) s.fits; whole = λ u. y.whole (s.whole u) };
      })

      pub leads-not : {n : Refusal} → own.Stops put table pool rows out core i node node array false out₁ n → Descends put table pool rows out₀ core₀ i₀ node₀ o₀ out₁ (Err n)
      leads-not s = record {
        writes = λ how e w h f.
            let y = (leads-as z).remaining how e w h f in
            y.whole (step-not how table pool rows out w i core _ node y.holds y.fits whole e array a s);
      }
