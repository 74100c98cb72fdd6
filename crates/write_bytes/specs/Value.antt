-- A value in three steps: where its first byte goes, its bytes, and the core or the key's slot moved on behind them.
use Rattle.std.specs.Prelude.{◌≡◌, Bool, Result, Ok, Err, true, false, not, List, ℕ, ◌+◌, ◌≤◌}
use Rattle.std.proofs.Math.Option.{Option, none, some}
use Rattle.format.specs.Answer.{Answer, ok, ◌>>◌, need}
use Rattle.format.specs.Read.{Reading}
use Rattle.format.specs.Write.{unlabelled, nothing}
use Rattle.store.specs.Store.{lookup}
use Rattle.write_literals.specs.Store.{Store, opened, advanced}
use Rattle.format.specs.declared.refusal.Refusal.{Refusal}
use Rattle.write_passes.specs.Plan.{emit_front}
use Rattle.write_bytes.specs.State.{slots_of, Emits}

-- while writing, a key that has no slot has no block either
unfoldable pub slot_place : Bool → Option ℕ → Answer ℕ
slot_place put (some at) = ok at
slot_place put none = do
  need (not put) 43
  ok 0

unfoldable pub place_of : Bool → Bool → ℕ → ℕ → List (ℕ × ℕ) → Answer ℕ
place_of put true k core slots = ok core
place_of put false k core slots = slot_place put (lookup k slots)

-- the place was found
pub record HasPlace (put inline : Bool) (k core : ℕ) (w : List ℕ) : Type 0 where
  pub at : ℕ
  pub found : place_of put inline k core (slots_of w) ≡ ok at

-- the slot of a key, which gets one now if it has none
unfoldable pub slot_to : ℕ → ℕ → Option Reading → Store → Store
slot_to k at (some p) s = advanced k at s
slot_to k at none s = opened k (record { at = at; end = 0 }) s

unfoldable pub moved_to : Bool → ℕ → ℕ → Store → Store
moved_to true k at s = s
moved_to false k at s = slot_to k at (lookup k s.slots) s

-- The label in front of an unlabelled value, where one is wanted. It has to do with the output alone, so that the work may be any.
pub record Fronts (put labelled : Bool) (out out' : List ℕ) (core : ℕ) (r : Result ℕ Refusal) : Type 0 where
  pub emits : (w : List ℕ) → Emits w w out out' core r (emit_front put (unlabelled labelled nothing).front)

-- a label has ten bytes at most
abbrev pub Near : ℕ → Result ℕ Refusal → Type 0
Near core (Ok c) = c ≤ core + 10
Near core (Err e) = Unit {0}
