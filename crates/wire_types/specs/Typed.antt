-- The wire type that a checked table has at a node, and what a walk that comes to the node asks of it.
use Rattle.std.specs.Prelude.{◌≡◌, Bool, true, false, cond, List, ℕ, ◌+◌, ◌*◌, ◌≤◌, length}
use Rattle.format.specs.Answer.{ok}
use Rattle.format.specs.Table.{u16, node_at, Wire, Node, plain, nullable, Fields, Held, Schema, held_by, schema_of}
use Rattle.format.specs.Read.{field_count}
use Rattle.laws.specs.Tree.{depth_wire, depth, depth_fields, ends, Ends, HasWire, Has, HasFields}
use Rattle.store.specs.Words.{word}

-- the nodes stand in the table
pub record Sized (table : List ℕ) : Type 0 where
  pub most : u16 table 5 ≤ 1024
  pub whole : 7 + 4 * u16 table 5 ≤ length table

-- what each key holds, by the table's own nodes
abbrev pub held_in : List ℕ → ℕ → Held
held_in table = held_by (u16 table 5) (node_at table)

-- the type at a node, where the work's first words say where each node's subtree ends
module _ (table work : List ℕ) where
  abbrev pub IsNode : ℕ → Node → Type 0
  IsNode i v = Has (u16 table 5) (node_at table) (λ k. word work k) (held_in table) i v

  abbrev pub IsWire : ℕ → Wire → Type 0
  IsWire i v = HasWire (u16 table 5) (node_at table) (λ k. word work k) (held_in table) i v

  abbrev pub AreFields : ℕ → Fields → Type 0
  AreFields i ws = HasFields (u16 table 5) (node_at table) (λ k. word work k) (held_in table) i ws

  -- there is one, and its paths have at most `left` nodes
  pub record FitsNode (left i : ℕ) : Type 0 where
    pub type : Node
    pub is : IsNode i type
    pub deep : depth type ≤ left
    pub most : left ≤ 32

  pub record FitsWire (left i : ℕ) : Type 0 where
    pub type : Wire
    pub is : IsWire i type
    pub deep : depth_wire type ≤ left
    pub most : left ≤ 32

  pub record FitFields (left i count : ℕ) : Type 0 where
    pub types : Fields
    pub are : AreFields i types
    pub counted : field_count types ≡ count
    pub deep : depth_fields types ≤ left
    pub most : left ≤ 32

-- A table that was checked, and the work as the check has kept it: where the subtree of each node ends.
pub record Kept (table work : List ℕ) : Type 0 where
  pub schema : Schema
  pub checks : schema_of table ≡ ok schema
  pub whole : 16384 ≤ length work
  pub keeps : Ends (λ k. word work k) 0 (ends 0 schema.root)

-- The value of a node: its own node, where the node is a NULLABLE or not.
unfoldable pub is_nullable : Node → Bool
is_nullable (plain i w) = false
is_nullable (nullable i w) = true

abbrev pub below : Bool → ℕ → ℕ
below z i = cond z (i + 1) i
