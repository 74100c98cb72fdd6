-- A value of which a part has been written, and what remains of it to write: one value inside it, or a record's fields.
use Rattle.std.specs.Prelude.{◌≡◌, Result, Bool, List, ℕ, ◌-◌, ◌≤◌}
use Rattle.wire_types.specs.Typed.{FitsNode}
use Rattle.format.specs.declared.refusal.Refusal.{Refusal}
use Rattle.write_row.specs.declared.Progress.{Progress}
use Rattle.write_bytes.specs.declared.Pass.{Pass}
use Rattle.write_row.specs.Writes.{Holds}
use Rattle.write_walk.specs.Pass.{WritesNode}

-- From a value at `node`, before which the output is out: for any pass that puts or counts so, and any work that holds a plan.
module _ (put : Bool) (table pool rows out : List ℕ) (core i node : ℕ) (omittable : Bool) where
  -- to what begins at node' and row i': Fit, there are types for it, on so long a path; Written, a step has written it
  module _ (core' i' node' : ℕ) (Fit : ℕ → List ℕ → Type 0) (Written : Pass → List ℕ → List ℕ → List ℕ → Result Progress Refusal → Type 0) where
    -- the plan and the types are there still, and who writes what is left has written the value
    pub record Remaining (how : Pass) (w : List ℕ) (left : ℕ) : Type 0 where
      pub holds : Holds pool rows w i' core'
      -- one node less of the path is left for each node further down
      pub fits : Fit (left - (node' - node)) w
      pub whole : {out₂ w₂ : List ℕ} {r : Result Progress Refusal} → Written how w out₂ w₂ r → WritesNode how table pool rows out w core out₂ w₂ r i node omittable

    pub record Leaves : Type 0 where
      pub behind : node ≤ node'
      pub remaining : (how : Pass) → how.put ≡ put → (w : List ℕ) → Holds pool rows w i core → {left : ℕ} → FitsNode table w left node → Remaining how w left

  -- nothing is left
  pub record Ends (out' : List ℕ) (r : Result Progress Refusal) : Type 0 where
    pub writes : (how : Pass) → how.put ≡ put → (w : List ℕ) → Holds pool rows w i core → {left : ℕ} → FitsNode table w left node → WritesNode how table pool rows out w core out' w r i node omittable
