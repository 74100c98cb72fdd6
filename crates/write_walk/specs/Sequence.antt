-- Values one after another, the first at a node: the fields of a record, or one value alone. Whether the first may be absent is given, since it may be no field.
use Rattle.std.specs.Prelude.{◌≡◌, Result, Bool, List, ℕ, suc, ◌+◌, ◌-◌}
use Rattle.format.specs.Table.{Node, Fields, field}
use Rattle.format.specs.Read.{field_count}
use Rattle.format.specs.Write.{fit_all}
use Rattle.laws.specs.Tree.{size}
use Rattle.wire_types.specs.Typed.{held_in, IsNode, AreFields, FitsNode, FitFields}
use Rattle.format.specs.declared.refusal.Refusal.{Refusal}
use Rattle.write_row.specs.declared.Progress.{Progress}
use Rattle.write_bytes.specs.declared.Pass.{Pass}
use Rattle.write_walk.specs.Pass.{Suits, WritesBy}

-- the table has types for so many
pub record FitSequence (table w : List ℕ) (left node count : ℕ) : Type 0 where
  pub some : count ≡ 0 → ⊥
  pub first : FitsNode table w left node
  pub others : FitFields table w left (node + size first.type) (count - 1)

pub record WritesSequence (how : Pass) (table pool rows out w : List ℕ) (core : ℕ) (out' w' : List ℕ) (r : Result Progress Refusal) (i node : ℕ) (omittable : Bool) (count : ℕ) : Type 0 where
  pub writes : (modes : ℕ) → Suits how modes → (v : Node) → IsNode table w node v → (vs : Fields) → AreFields table w (node + size v) vs → suc (field_count vs) ≡ count
      → WritesBy how table pool rows out w core out' w' r i modes (fit_all (held_in table) (field omittable v vs))
