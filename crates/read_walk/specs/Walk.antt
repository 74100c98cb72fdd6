-- What each function of the walk has done: what the definition answers for the type that the table has at its node.
use Rattle.std.specs.Prelude.{◌≡◌, Bool, true, false, List, ℕ, ℤ, Result}
use Rattle.std.proofs.Math.Option.{Option}
use Rattle.format.specs.declared.refusal.Refusal.{Refusal}
use Rattle.format.specs.Table.{Wire, Node, Fields}
use Rattle.format.specs.Read.{in_message, entries, wire, all, field_count}
use Rattle.label.specs.declared.cursor.Cursor.{Cursor}
use Rattle.read_leaf.specs.declared.Progress.{Progress}
use Rattle.read_leaf.specs.State.{Walks}
use Rattle.read_walk.specs.Opening.{value_at}
use Rattle.wire_types.specs.Typed.{held_in, IsNode, IsWire, AreFields}

-- The work and the rows before and after a step that began with the core at c and n rows, over the type at a node.
module _ (m work work' before now : List ℕ) (c : Cursor) (n : ℕ) (r : Result Progress Refusal) (table : List ℕ) (modes node : ℕ) where
  pub record ReadsValue (omittable : Bool) : Type 0 where
    pub does : (v : Node) → IsNode table work node v → Walks m work work' c n before now r (value_at m modes (held_in table) omittable v)

  pub record ReadsWire (top : ℕ) (front : Option ℤ) : Type 0 where
    pub does : (v : Wire) → IsWire table work node v → Walks m work work' c n before now r (wire (in_message m) modes (held_in table) v top front)

  pub record ReadsFields (count : ℕ) : Type 0 where
    pub does : (ws : Fields) → AreFields table work node ws → field_count ws ≡ count → Walks m work work' c n before now r (all (in_message m) modes (held_in table) ws)

  pub record ReadsEntries (count : ℕ) : Type 0 where
    pub does : (v : Node) → IsNode table work node v → Walks m work work' c n before now r (entries (in_message m) count (value_at m modes (held_in table) false v))

  -- so many values by one loop: entries or fields
  pub record ReadsValues (repeated : Bool) (count : ℕ) : Type 0 where
    pub entries : repeated ≡ true → ReadsEntries count
    pub fields : repeated ≡ false → ReadsFields count
