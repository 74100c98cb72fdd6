-- What a node's type says of the table, by the node's kind.
use Rattle.std.specs.Prelude.{◌≡◌, refl, Bool, List, ℕ, suc, ◌+◌, ◌-◌, ◌*◌, ◌<◌, ◌≤◌, eqb}
use Rattle.std.proofs.Common.{ap, ◌∙◌, arith}
use Rattle.std.proofs.Math.Path.{sym}
use Rattle.std.proofs.Math.ListN.{length}
use Rattle.format.specs.Table.{u16, node_at, omittable, BOOLEAN, RECORD, ARRAY, BLOCK, NULLABLE, Wire, boolean, array, fields, block, Node, plain, nullable, Fields, field, wire_of}
use Rattle.format.specs.Read.{field_count}
use Rattle.laws.specs.Tree.{size_wire, size, depth_wire, depth, depth_fields, Has, HasWire}
use Rattle.laws.specs.Kinds.{kind_of, kind_of_node, wire-top, node-top, by-record, by-array, by_field, has_kept, wire-some}
use Rattle.store.specs.Words.{word}
use Rattle.wire_types.specs.Typed.{Sized, held_in, IsNode, IsWire, AreFields, FitsNode, FitsWire, FitFields, is_nullable, below}

pub node-some : (v : Node) → 1 ≤ size v
unfolding size
node-some (plain j w) = wire-some w
node-some (nullable j w) = omega arith

pub depth-some : (v : Wire) → 1 ≤ depth_wire v
unfolding depth_wire
depth-some boolean = omega arith
depth-some (array w) = omega arith
depth-some (fields ws) = omega arith
depth-some (block key) = omega arith

wire-depth : (v : Node) → depth_wire (wire_of v) ≤ depth v
unfolding depth wire_of
wire-depth (plain j w) = omega arith
wire-depth (nullable j w) = omega arith

pub kind-nullable : (v : Node) → is_nullable v ≡ eqb (kind_of_node v) NULLABLE
unfolding is_nullable kind_of_node kind_of
kind-nullable (plain i boolean) = refl
kind-nullable (plain i (array w)) = refl
kind-nullable (plain i (fields ws)) = refl
kind-nullable (plain i (block key)) = refl
kind-nullable (nullable i w) = refl

module _ (table work : List ℕ) where
  pub nullable-is : (i : ℕ) (v : Node) → IsNode table work i v → is_nullable v ≡ eqb (node_at table i).kind NULLABLE
  nullable-is i v h = kind-nullable v ∙ ap (λ k. eqb k NULLABLE) (sym (node-top _ _ _ _ i v h).kind)

  -- the value itself
  pub wire-of : (i : ℕ) (v : Node) → IsNode table work i v → IsWire table work (below (is_nullable v) i) (wire_of v)
  unfolding Has is_nullable wire_of
  wire-of i (plain j w) h = h.1
  wire-of i (nullable j w) h = h.2

  pub fits-wire : (left i : ℕ) (z : Bool) → z ≡ eqb (node_at table i).kind NULLABLE → FitsNode table work left i → FitsWire table work left (below z i)
  fits-wire left i z e f =
      let v = f.type in
      rw (e ∙ sym (nullable-is i v f.is)) (record { type = wire_of v; is = wire-of i v f.is; deep = omega (arith, wire-depth v); most = f.most })

  module _ (i left : ℕ) (f : FitsWire table work left i) where
    pub fits-entry : (node_at table i).kind ≡ ARRAY → FitsNode table work (left - 1) (i + 1)
    unfolding depth_wire
    fits-entry k = by-array _ _ _ _ (λ u. depth_wire u ≤ left → FitsNode table work (left - 1) (i + 1)) i f.type f.is k
        (λ w t g b. record { type = w; is = g; deep = omega arith; most = omega (arith, f.most) }) f.deep

    pub fits-fields : (node_at table i).kind ≡ RECORD → FitFields table work (left - 1) (i + 1) (node_at table i).argument
    unfolding depth_wire
    fits-fields k = by-record _ _ _ _ (λ u. depth_wire u ≤ left → FitFields table work (left - 1) (i + 1) (node_at table i).argument) i f.type f.is k
        (λ ws t c g b. record { types = ws; are = g; counted = sym c; deep = omega arith; most = omega (arith, f.most) }) f.deep

    module _ (whole : Sized table) where
      pub wire-inside : (1 ≤ left) × (i < 1024) × (11 + 4 * i ≤ length table)
      wire-inside =
          let t : i + size_wire f.type ≤ u16 table 5 = (wire-top _ _ _ _ i f.type f.is).within in
          let s = wire-some f.type in
          let e = depth-some f.type in
          (omega (arith, f.deep), omega (arith, whole.most), omega (arith, whole.whole))

      -- what is left is an ARRAY
      pub array-left : ((node_at table i).kind ≡ BLOCK → ⊥) → ((node_at table i).kind ≡ BOOLEAN → ⊥) → ((node_at table i).kind ≡ RECORD → ⊥) → (node_at table i).kind ≡ ARRAY
      unfolding HasWire
      array-left k b r = go f.type f.is
        where
          go : (v : Wire) → IsWire table work i v → (node_at table i).kind ≡ ARRAY
          go boolean h = absurd (b h.kind)
          go (array w) h = h.0.kind
          go (fields ws) h = absurd (r h.0.kind)
          go (block key) h = absurd (k h.top.kind)

      -- what is left is a BLOCK, whose key and child are inside too
      pub block_inside : ((node_at table i).kind ≡ BOOLEAN → ⊥) → ((node_at table i).kind ≡ RECORD → ⊥) → ((node_at table i).kind ≡ ARRAY → ⊥)
          → ((node_at table i).kind ≡ BLOCK) × ((node_at table i).argument < 32) × (15 + 4 * i ≤ length table)
      unfolding HasWire
      block_inside b r a = go f.type f.is
        where
          go : (v : Wire) → IsWire table work i v → ((node_at table i).kind ≡ BLOCK) × ((node_at table i).argument < 32) × (15 + 4 * i ≤ length table)
          go boolean h = absurd (b h.kind)
          go (array w) h = absurd (a h.0.kind)
          go (fields ws) h = absurd (r h.0.kind)
          go (block key) h =
              let t : i + 2 ≤ u16 table 5 = h.top.within in
              (h.top.kind, omega (arith, h.key, h.few), omega (arith, whole.whole))

  pub node-inside : (left i : ℕ) → FitsNode table work left i → Sized table → (i < 1024) × (11 + 4 * i ≤ length table)
  node-inside left i f whole =
      let t : i + size f.type ≤ u16 table 5 = (node-top _ _ _ _ i f.type f.is).within in
      let s = node-some f.type in
      (omega (arith, whole.most), omega (arith, whole.whole))

-- The type stays the same while the ends of nodes do.
pub node_kept : (table w w' : List ℕ) (i : ℕ) (v : Node) → Sized table → ((j : ℕ) → j < 1024 → word w' j ≡ word w j) → IsNode table w i v → IsNode table w' i v
node_kept table w w' i v z k h = has_kept (u16 table 5) (node_at table) (λ j. word w j) (λ j. word w' j) (held_in table) (λ j b. k j (omega (arith, z.most))) i v h

pub fits_kept : {table w w' : List ℕ} {left i : ℕ} → Sized table → ((j : ℕ) → j < 1024 → word w' j ≡ word w j) → FitsNode table w left i → FitsNode table w' left i
fits_kept {table} {w} {w'} {left} {i} z k f = record { type = f.type; is = node_kept table w w' i f.type z k f.is; deep = f.deep; most = f.most }

-- ---- fields, one after another

-- the first of some fields, and the others
pub record First (table w : List ℕ) (node : ℕ) (ws : Fields) : Type 0 where
  pub first : Node
  pub others : Fields
  pub splits : ws ≡ field (omittable (node_at table node)) first others
  pub is : IsNode table w node first
  pub are : AreFields table w (node + size first) others

pub first-of : (table w : List ℕ) (node : ℕ) (ws : Fields) → AreFields table w node ws → (field_count ws ≡ 0 → ⊥) → First table w node ws
first-of table w node ws h z = by_field _ _ _ _ (First table w node) node ws h z (λ v vs c a b. record { first = v; others = vs; splits = refl; is = a; are = b })

pub first-depth : (o : Bool) (v : Node) (vs : Fields) → (depth v ≤ depth_fields (field o v vs)) × (depth_fields vs ≤ depth_fields (field o v vs)) × (field_count (field o v vs) ≡ suc (field_count vs))
unfolding depth_fields field_count
first-depth o v vs = (omega arith, omega arith, refl)

-- the first and the others are no deeper than all of them, and the others are one less
pub first-deep : {table w : List ℕ} {node : ℕ} {ws : Fields} (u : First table w node ws) → (depth u.first ≤ depth_fields ws) × (depth_fields u.others ≤ depth_fields ws) × (field_count ws ≡ suc (field_count u.others))
first-deep {table} {w} {node} {ws} u =
    let b = first-depth (omittable (node_at table node)) u.first u.others in
    let t : depth_fields ws ≡ depth_fields (field (omittable (node_at table node)) u.first u.others) = ap depth_fields u.splits in
    let c : field_count ws ≡ field_count (field (omittable (node_at table node)) u.first u.others) = ap field_count u.splits in
    (omega (arith, b.0), omega (arith, b.1), c ∙ b.2)

pub first_fits : {table w : List ℕ} {left node count : ℕ} → FitFields table w left node count → (count ≡ 0 → ⊥) → FitsNode table w left node
first_fits {table} {w} {left} {node} f z =
    let u = first-of table w node f.types f.are (λ q. z (sym f.counted ∙ q)) in
    record { type = u.first; is = u.is; deep = omega (arith, (first-deep u).0, f.deep); most = f.most }
