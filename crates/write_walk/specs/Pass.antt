-- What each function of a pass has done: what the rows write, for the type that the table has at its node.
use Rattle.std.specs.Prelude.{◌≡◌, Result, Bool, true, false, not, List, ℕ}
use Rattle.format.specs.Modes.{inline_everything, null_terminated_strings, no_deduplication}
use Rattle.format.specs.Table.{Wire, Node, Fields}
use Rattle.format.specs.Read.{field_count}
use Rattle.format.specs.Write.{Fit, fit_entries, fit_wire, fit_all}
use Rattle.wire_types.specs.Typed.{held_in, IsNode, IsWire, AreFields}
use Rattle.write_row.specs.declared.Progress.{Progress}
use Rattle.format.specs.declared.refusal.Refusal.{Refusal}
use Rattle.write_bytes.specs.declared.Pass.{Pass}
use Rattle.write_row.specs.Rest.{rest_of}
use Rattle.write_row.specs.Writes.{Writes}
use Rattle.write_row.specs.Opens.{fit_value}

-- the pass is one in these modes
pub record Suits (how : Pass) (modes : ℕ) : Type 0 where
  pub inline : inline_everything modes ≡ how.inline
  pub numbers : not (no_deduplication modes) ≡ how.numbers
  pub ends : null_terminated_strings modes ≡ how.ends

-- The buffers before and after a step that began at row i with the core at `core`.
module _ (how : Pass) (table pool rows out w : List ℕ) (core : ℕ) (out' w' : List ℕ) (r : Result Progress Refusal) (i : ℕ) where
  -- it has written what f writes
  abbrev pub WritesBy : ℕ → Fit → Type 0
  WritesBy modes f = Writes how.put modes (held_in table) pool rows out w core out' w' r (f (rest_of pool rows i))

  module _ (node : ℕ) where
    pub record WritesNode (omittable : Bool) : Type 0 where
      pub writes : (modes : ℕ) → Suits how modes → (v : Node) → IsNode table w node v → WritesBy modes (fit_value (held_in table) omittable v)

    -- the value at its own node, with its row under `top`, the topmost one
    pub record WritesWire (top : ℕ) (labelled : Bool) : Type 0 where
      pub writes : (modes : ℕ) → Suits how modes → (v : Wire) → IsWire table w node v → WritesBy modes (fit_wire (held_in table) v top labelled)

    pub record WritesFields (count : ℕ) : Type 0 where
      pub writes : (modes : ℕ) → Suits how modes → (ws : Fields) → AreFields table w node ws → field_count ws ≡ count → WritesBy modes (fit_all (held_in table) ws)

    pub record WritesEntries (count : ℕ) : Type 0 where
      pub writes : (modes : ℕ) → Suits how modes → (v : Node) → IsNode table w node v → WritesBy modes (fit_entries count (λ t. fit_value (held_in table) false v t))

    -- so many values by one loop: entries or fields
    pub record WritesValues (repeated : Bool) (count : ℕ) : Type 0 where
      pub entries : repeated ≡ true → WritesEntries count
      pub fields : repeated ≡ false → WritesFields count
