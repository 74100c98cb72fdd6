-- A value that one record of one field or one array of one entry holds after another: what is written of the inner one is all that is left of the outer.
use Rattle.std.specs.Prelude.{◌≡◌, Option, Some, None, Result, Ok, Err, Bool, true, false, List, ℕ}
use Rattle.std.proofs.Math.Option.{some}
use Rattle.format.specs.Table.{node_at, RECORD, ARRAY}
use Rattle.format.specs.Row.{record_row, array_row}
use Rattle.wire_types.specs.Typed.{FitsNode}
use Rattle.format.specs.declared.refusal.Refusal.{Refusal}
use Rattle.write_row.specs.Judged.{value_in}
use Rattle.write_row.specs.Fits.{looked}
use Rattle.write_row.specs.Writes.{Holds}
use Rattle.write_walk.specs.declared.descent.Descent.{Descent}
use Rattle.write_walk.specs.declared.descent.Holder.{Holder}
use Rattle.write_walk.specs.declared.descent.Holder.TheVariants.{Record, Array}
use Rattle.write_walk.specs.Pass.{WritesNode}
use Rattle.write_walk.specs.Remaining.{Leaves, Ends}

-- row i is one of this kind, whose word is 1
pub record IsOne (pool rows : List ℕ) (node kind i : ℕ) (r : Bool) : Type 0 where
  pub is : r ≡ true → value_in kind (looked pool rows node i) ≡ some 1

-- The node and row i are those of an array of one entry, or of a record of one field.
pub record OneEntry (table pool rows : List ℕ) (node i : ℕ) : Type 0 where
  pub kind : (node_at table node).kind ≡ ARRAY
  pub row : value_in array_row (looked pool rows node i) ≡ some 1

pub record OneField (table pool rows : List ℕ) (node i : ℕ) : Type 0 where
  pub kind : (node_at table node).kind ≡ RECORD
  pub count : (node_at table node).argument ≡ 1
  pub row : value_in record_row (looked pool rows node i) ≡ some 1

abbrev pub is_array : Holder → Bool
is_array Array = true
is_array Record = false

abbrev pub Alone : List ℕ → List ℕ → List ℕ → ℕ → ℕ → Option Holder → Type 0
Alone table pool rows node i (Some Array) = OneEntry table pool rows node i
Alone table pool rows node i (Some Record) = OneField table pool rows node i
Alone table pool rows node i None = Unit {0}

-- There is work that holds a plan before row i, and a type at the node.
pub record Stands (table pool rows : List ℕ) (i core node : ℕ) : Type 0 where
  pub work : List ℕ
  pub holds : Holds pool rows work i core
  pub left : ℕ
  pub fits : FitsNode table work left node

-- From a value at `node`, before which the output is out, down to one at node', before which it is out'.
module _ (put : Bool) (table pool rows out : List ℕ) (core i node : ℕ) (omittable : Bool) (out' : List ℕ) where
  -- a refusal on the way is one of the outer value
  abbrev pub Descends : Result Descent Refusal → Type 0
  Descends (Ok d) = Leaves put table pool rows out core i node omittable d.at.core d.at.row d.node (λ left w. FitsNode table w left d.node) (λ how w out₂ w₂ r. WritesNode how table pool rows out' w d.at.core out₂ w₂ r d.at.row d.node d.omittable)
  Descends (Err e) = Ends put table pool rows out core i node omittable out' (Err e)
