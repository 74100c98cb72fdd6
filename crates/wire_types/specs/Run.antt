-- A run of values that a walk goes over by one loop: entries, which all have the type at one node, or fields, each behind
-- the one before it.
use Rattle.std.specs.Prelude.{◌≡◌, Bool, true, false, cond, List, ℕ, ◌+◌, ◌-◌}
use Rattle.std.proofs.Common.{sym, ap, ◌∙◌}
use Rattle.format.specs.Table.{TableNode, node_at, omittable, RECORD, ARRAY}
use Rattle.laws.specs.Facts.{absurd-bool}
use Rattle.store.specs.Words.{word}
use Rattle.wire_types.specs.Typed.{FitsNode, FitsWire, FitFields}
use Rattle.wire_types.specs.Nodes.{fits-fields, fits-entry}

-- What a run asks of the table, whether a value of it may be absent, and where the next one's node is.
pub record FitRun (table work : List ℕ) (left node : ℕ) (repeated : Bool) (count : ℕ) : Type 0 where
  pub entries : repeated ≡ true → FitsNode table work left node
  pub fields : repeated ≡ false → FitFields table work left node count

abbrev pub absent_in : Bool → TableNode → Bool
absent_in repeated x = cond repeated false (omittable x)

abbrev pub next_in : Bool → ℕ → List ℕ → ℕ
next_in repeated node work = cond repeated node (word work node)

module _ {table work : List ℕ} {left node count : ℕ} where
  pub run-entries : FitsNode table work left node → FitRun table work left node true count
  run-entries f = record { entries = λ e. f; fields = λ e. absurd-bool (sym e) }

  pub run-fields : FitFields table work left node count → FitRun table work left node false count
  run-fields f = record { entries = λ e. absurd-bool e; fields = λ e. f }

-- what a record holds, and what an array holds
module _ (table w : List ℕ) (left node : ℕ) where
  pub fields_fit : {count : ℕ} → (node_at table node).kind ≡ RECORD → count ≡ (node_at table node).argument → FitsWire table w left node → FitRun table w (left - 1) (node + 1) false count
  fields_fit k c f = run-fields (rw c (fits-fields table w node left f k))

  pub entry-fits : {count : ℕ} → (node_at table node).kind ≡ ARRAY → FitsWire table w left node → FitRun table w (left - 1) (node + 1) true count
  entry-fits k f = run-entries (fits-entry table w node left f k)

-- once it is known which of the two they are
module _ {repeated b : Bool} (e : repeated ≡ b) where
  pub absent-is : {o : Bool} (x : TableNode) → o ≡ absent_in repeated x → o ≡ absent_in b x
  absent-is x t = t ∙ ap (λ j. absent_in j x) e

  pub next-is : {next : ℕ} (node : ℕ) (work : List ℕ) → next ≡ next_in repeated node work → next ≡ next_in b node work
  next-is node work t = t ∙ ap (λ j. next_in j node work) e
