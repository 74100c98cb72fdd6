-- The path that is left: how many nodes a path may have from a node on, itself among them. At the root it is 32.
use Rattle.std.specs.Prelude.{◌≡◌, Bool, true, false, cond, List, ℕ, ◌-◌, ◌≤◌, eqb}
use Rattle.std.proofs.Common.{sym, ◌∙◌, arith}
use Rattle.format.specs.Table.{node_at, NULLABLE, Node, plain, nullable, wire_of}
use Rattle.laws.specs.Tree.{depth_wire, depth}
use Rattle.wire_types.specs.Typed.{FitsNode, FitsWire, is_nullable, below}
use Rattle.wire_types.specs.Nodes.{depth-some, nullable-is, wire-of}

-- below a node that is a NULLABLE, or not
abbrev pub path_below : Bool → ℕ → ℕ
path_below z left = cond z (left - 1) left

pub path-less : (z : Bool) (left : ℕ) → path_below z left ≤ left
path-less true left = omega arith
path-less false left = omega arith

-- a NULLABLE takes a node of it
own-depth : (v : Node) (left : ℕ) → depth v ≤ left → depth_wire (wire_of v) ≤ path_below (is_nullable v) left
unfolding depth wire_of is_nullable
own-depth (plain j w) left h = h
own-depth (nullable j w) left h = omega arith

pub node-deep : (v : Node) → 1 ≤ depth v
unfolding depth
node-deep (plain j w) = depth-some w
node-deep (nullable j w) = omega arith

module _ (table work : List ℕ) where
  pub fits-own : (left i : ℕ) (z : Bool) → z ≡ eqb (node_at table i).kind NULLABLE → FitsNode table work left i → FitsWire table work (path_below z left) (below z i)
  fits-own left i z e f =
      let v = f.type in
      rw (e ∙ sym (nullable-is table work i v f.is)) (record { type = wire_of v; is = wire-of table work i v f.is; deep = own-depth v left f.deep; most = omega (arith, path-less (is_nullable v) left, f.most) })

  pub some_left : (left i : ℕ) → FitsNode table work left i → 1 ≤ left
  some_left left i f = omega (arith, node-deep f.type, f.deep)
