-- A value as it is, or a record as its fields: who writes those has written the value. Assumes nothing.
use mathlib.Core.Path.{◌≡◌, refl, sym, ap}
use mathlib.Core.Bool.{Bool, false}
use mathlib.Core.List.{List}
use Prim.Native.Nat.{ℕ, ◌+◌, ◌-◌}
use native.Mathlib.Omega.{arith}
use lib.Dec.{eqb}
use Rattle.std.specs.Prelude.{Ok, Err}
use Rattle.format.specs.declared.refusal.Refusal.{Refusal}
use Rattle.format.specs.Table.{node_at, omittable, RECORD, NULLABLE}
use Rattle.wire_types.specs.Typed.{Sized, FitsNode}
use Rattle.wire_types.specs.Run.{fields_fit}
use Rattle.write_row.specs.Writes.{done}
use Rattle.write_walk.specs.declared.start.Start.TheVariants.{Values}
use Rattle.write_walk.specs.Sequence.{FitSequence}
use Rattle.write_walk.specs.Own as own
use Rattle.write_walk.specs.Remaining.{Ends}
use Rattle.write_walk.specs.Start.{Starts}
use Rattle.write_walk.proofs.ByKind.{path-as, own-fits}
use Rattle.write_walk.proofs.Several.{no_fields}
use Rattle.write_walk.proofs.Descents.{plain}
use Rattle.write_walk.proofs.Sequences.{sequence-as, alone-fits, alone-writes, fields-sequence, fields-write}

module _ (put : Bool) (table pool rows out : List ℕ) (core i node : ℕ) where
  pub start-alone : (o : Bool) → Starts put table pool rows out core i node o out (Ok (Values node 1 o (record { row = i; core = core })))
  start-alone o = record { behind = omega arith; remaining = λ how e w h f. record { holds = h; fits = alone-fits (path-as (omega arith) f); whole = λ y. alone-writes y } }

  -- a record with nothing in front of it, by its own row
  module _ (whole : Sized table) (k : (node_at table node).kind ≡ RECORD) where
    no_front : eqb (node_at table node).kind NULLABLE ≡ false
    no_front = ap (λ j. eqb j NULLABLE) k

    pub start_fits : {count : ℕ} → count ≡ (node_at table node).argument → (w : List ℕ) {left : ℕ} → (count ≡ 0 → ⊥) → FitsNode table w left node → FitSequence table w (left - 1) (node + 1) count
    start_fits c w {left} z f = fields-sequence z ((fields_fit table w left node k c (own-fits table w left node (sym no_front) refl refl f)).fields refl)

    module _ {out₁ : List ℕ} where
      pub start-not : {n : Refusal} → own.Stops put table pool rows out core i node node false false out₁ n → Starts put table pool rows out core i node false out₁ (Err n)
      start-not s = record { writes = λ how e w h f. plain how table pool rows out w i core _ node h f whole no_front (s.writes how e w h) }

      module _ {count i₁ core₁ : ℕ} (m : own.Makes put table pool rows out core i node node false false out₁ count i₁ core₁) where
        pub start_none : count ≡ 0 → Ends put table pool rows out core i node false out₁ (done i₁ core₁)
        start_none z = record {
          writes = λ how e w h f.
              let o = m.remaining how e w h in
              plain how table pool rows out w i core _ node h f whole no_front (o.fields refl (no_fields how table pool rows out₁ w (node + 1) count i₁ core₁ o.holds whole z));
        }

        pub start-fields : {o : Bool} → (count ≡ 0 → ⊥) → o ≡ omittable (node_at table (node + 1)) → Starts put table pool rows out core i node false out₁ (Ok (Values (node + 1) count o (record { row = i₁; core = core₁ })))
        start-fields z t = rw t (record {
          behind = omega arith;
          remaining = λ how e w h f.
              let o = m.remaining how e w h in
              record {
                holds = o.holds;
                fits = sequence-as (omega arith) (start_fits (m.listed refl) w z f);
                whole = λ y. plain how table pool rows out w i core _ node h f whole no_front (o.fields refl (fields-write z y));
              };
        })
