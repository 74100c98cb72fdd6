-- Going down through records of one field and arrays of one entry.
use Rattle.std.specs.Prelude.{◌≡◌, Bool, List, ℕ, ◌+◌, ◌-◌, ◌≤◌, Option, Some, None, Result, Ok, Err}
use Rattle.std.proofs.Math.Option.{none}
use Rattle.format.specs.declared.refusal.Refusal.{Refusal}
use Rattle.format.specs.Table.{node_at}
use Rattle.label.specs.declared.cursor.Cursor.{Cursor}
use Rattle.read_pieces.specs.Pieces.{Inside}
use Rattle.read_leaf.specs.declared.Progress.{Progress}
use Rattle.read_leaf.specs.State.{Ready}
use Rattle.wire_types.specs.Typed.{FitsNode}
use Rattle.read_walk.specs.declared.descent.Holder.{Holder}
use Rattle.read_walk.specs.declared.descent.Descent.{Descent}
use Rattle.read_walk.specs.Walk.{ReadsValue}
use Rattle.read_walk.specs.Parent.{parent_kind, Holds}

-- A value that holds one value alone: whether it is an array, and the core behind its label.
pub record HoldsOne (table m : List ℕ) (node : ℕ) (c : Cursor) (repeated : Bool) (next : Cursor) : Type 0 where
  pub kind : (node_at table node).kind ≡ parent_kind repeated
  pub holds : Holds table m node repeated none c 1 next

-- of any other value nothing is said
abbrev pub Holding : (table m : List ℕ) (node : ℕ) (c : Cursor) → Option Holder → Type 0
Holding table m node c (Some h) = HoldsOne table m node c h.repeated h.core
Holding table m node c None = Unit {0}

-- The work is not looked at. It is some work that has a type at the node.
pub record Typed (table m : List ℕ) (left node : ℕ) : Type 0 where
  pub work : List ℕ
  pub ready : Ready m work
  pub fits : FitsNode table work left node

-- Who reads the value at the second node has read the one at the first, whatever the work is. Each node on the way takes
-- one off the path.
pub record Comes (table m before now : List ℕ) (left node : ℕ) (omittable : Bool) (c : Cursor) (n left' node' : ℕ) (omittable' : Bool) (c' : Cursor) (n' : ℕ) : Type 0 where
  pub inside : Inside m c'
  pub below : node ≤ node'
  pub path : left' + (node' - node) ≡ left
  pub fits : (w : List ℕ) → FitsNode table w left node → FitsNode table w left' node'
  pub onward : (w w' now' : List ℕ) (r : Result Progress Refusal) (modes : ℕ) → Ready m w → ReadsValue m w w' now now' c' n' r table modes node' omittable' → ReadsValue m w w' before now' c n r table modes node omittable

-- The value is refused.
pub record Ends (table m before now : List ℕ) (node : ℕ) (omittable : Bool) (c : Cursor) (n : ℕ) (e : Refusal) : Type 0 where
  pub refused : (w : List ℕ) (modes : ℕ) → Ready m w → ReadsValue m w w before now c n (Err e) table modes node omittable

abbrev pub Descends : (table m before now : List ℕ) (left node : ℕ) (omittable : Bool) (c : Cursor) (n : ℕ) → Result Descent Refusal → Type 0
Descends table m before now left node omittable c n (Ok d) = Comes table m before now left node omittable c n d.left d.node d.absent d.at.core d.at.rows
Descends table m before now left node omittable c n (Err e) = Ends table m before now node omittable c n e
