-- The row of a record or an array itself: once it is written, the values that it holds are all that is left of it.
use Rattle.std.specs.Prelude.{◌≡◌, Result, Ok, Err, Bool, true, false, cond, List, ℕ, ◌+◌}
use Rattle.std.proofs.Math.Option.{some}
use Rattle.format.specs.Table.{node_at, RECORD, ARRAY}
use Rattle.format.specs.Row.{array_row}
use Rattle.format.specs.declared.refusal.Refusal.{Refusal}
use Rattle.write_row.specs.declared.Progress.{Progress}
use Rattle.write_bytes.specs.declared.Pass.{Pass}
use Rattle.write_row.specs.Judged.{value_in}
use Rattle.write_row.specs.Fits.{looked}
use Rattle.write_row.specs.Writes.{Holds}
use Rattle.write_walk.specs.declared.own.Own.{Own}
use Rattle.write_walk.specs.Pass.{WritesWire, WritesFields, WritesEntries}

-- the node is an ARRAY's, or else a RECORD's
abbrev pub IsHolder : List ℕ → ℕ → Bool → Type 0
IsHolder table node array = (node_at table node).kind ≡ cond array ARRAY RECORD

module _ (put : Bool) (table pool rows out : List ℕ) (core i node top : ℕ) (array labelled : Bool) (out' : List ℕ) where
  -- for any pass that puts or counts so, and any work that holds a plan: it holds one still, and who writes the values has written the whole
  pub record Remaining (count i' core' : ℕ) (how : Pass) (w : List ℕ) : Type 0 where
    pub holds : Holds pool rows w i' core'
    pub entries : array ≡ true → {out₂ w₂ : List ℕ} {r : Result Progress Refusal} → WritesEntries how table pool rows out' w core' out₂ w₂ r i' (node + 1) count → WritesWire how table pool rows out w core out₂ w₂ r i node top labelled
    pub fields : array ≡ false → {out₂ w₂ : List ℕ} {r : Result Progress Refusal} → WritesFields how table pool rows out' w core' out₂ w₂ r i' (node + 1) count → WritesWire how table pool rows out w core out₂ w₂ r i node top labelled

  pub record Makes (count i' core' : ℕ) : Type 0 where
    -- an array's row says how many entries there are, a record's node how many fields
    pub said : array ≡ true → value_in array_row (looked pool rows top i) ≡ some count
    pub listed : array ≡ false → count ≡ (node_at table node).argument
    pub remaining : (how : Pass) → how.put ≡ put → (w : List ℕ) → Holds pool rows w i core → Remaining count i' core' how w

  pub record Stops (e : Refusal) : Type 0 where
    pub writes : (how : Pass) → how.put ≡ put → (w : List ℕ) → Holds pool rows w i core → WritesWire how table pool rows out w core out' w (Err e) i node top labelled

  abbrev pub Owns : Result Own Refusal → Type 0
  Owns (Ok x) = Makes x.count x.at.row x.at.core
  Owns (Err e) = Stops e
