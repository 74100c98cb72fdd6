-- What stands in front of a value: a label that says that it is absent or null, or that goes on to the value itself.
use Rattle.std.specs.Prelude.{Bool, true, false, cond, ◌||◌, List, ℕ, ℤ, Result}
use Rattle.std.proofs.Math.Option.{Option, none, some}
use Rattle.format.specs.Answer.{Answer, ok, ◌>>=◌}
use Rattle.format.specs.Refusal.{answered_by}
use Rattle.format.specs.declared.refusal.Refusal.{Refusal}
use Rattle.format.specs.Table.{Node, Held, top_of, wire_of}
use Rattle.format.specs.Row.{bare, null_row, absent_row}
use Rattle.format.specs.Read.{in_message, State, Read, absent_label, is_label, is_null, take_label, one_row, value, node, wire}
use Rattle.label.specs.declared.cursor.Cursor.{Cursor}
use Rattle.rows.specs.Kind.{word_of}
use Rattle.read_leaf.specs.State.{Ready, Takes}
use Rattle.read_leaf.specs.Meaning.{front_of}
use Rattle.read_walk.specs.declared.opening.Seen.{Seen}
use Rattle.read_walk.specs.declared.opening.Seen.TheVariants.{Gone, Here}

-- The kind of its row, if the value is not there; or the label in front of it, if one was read.
pub data Opened : Type 0 where
  gone : ℕ → Opened
  here : Option ℤ → Opened

-- what a label says of a value that may be null, or not
unfoldable pub null_or : ℕ → Bool → ℤ → Answer Opened
null_or modes false l = ok (here (some l))
null_or modes true l = do
  null ← is_null modes l
  ok (cond null (gone null_row) (here (some l)))

-- and may be absent, or not
unfoldable pub absent_or : ℕ → Bool → Bool → ℤ → Answer Opened
absent_or modes false z l = null_or modes z l
absent_or modes true z l = cond (is_label l absent_label) (ok (gone absent_row)) (null_or modes z l)

module _ (m : List ℕ) (modes : ℕ) where
  -- the label in front, and what it says
  unfoldable pub labelled : Bool → Bool → State (in_message m) → Answer (Opened × State (in_message m))
  labelled o z s = do
    (l, s₁) ← take_label (in_message m) s
    x ← absent_or modes o z l
    ok (x, s₁)

  -- Only a value that may be absent or null has a label in front that may not be its own.
  unfoldable pub opened : Bool → Bool → State (in_message m) → Answer (Opened × State (in_message m))
  opened o z s = cond (o || z) (labelled o z s) (ok (here none, s))

  module _ (held : ℕ → Held) where
    -- what is left to be read then
    unfoldable pub rest : Node → Opened → Read (in_message m)
    rest v (gone kind) s = one_row (in_message m) (top_of v) (bare kind 0) s
    rest v (here l) s = wire (in_message m) modes held (wire_of v) (top_of v) l s

    abbrev pub value_at : Bool → Node → Read (in_message m)
    value_at o v s = value (in_message m) o (top_of v) (λ l t. node (in_message m) modes held v l t) s

-- What the code's answers say of this.
abbrev pub seen_of : Seen → Opened
seen_of (Gone kind) = gone (word_of kind)
seen_of (Here front) = here (front_of front)

abbrev pub meant_of : Result Seen Refusal → Answer Opened
meant_of r = answered_by seen_of r

abbrev pub opened_of : Result (Seen × Cursor) Refusal → Answer (Opened × Cursor)
opened_of r = answered_by (λ (x : Seen × Cursor). (seen_of x.0, x.1)) r

-- A label is read in the core alone, so that the work is anything.
pub record Opens (m : List ℕ) (c : Cursor) (r : Result (Seen × Cursor) Refusal) (f : State (in_message m) → Answer (Opened × State (in_message m))) : Type 0 where
  pub takes : (w : List ℕ) → Ready m w → Takes m w w c (opened_of r) f
