-- What the functions of the reader promise.
use Rattle.std.specs.Prelude.{◌≡◌, Bool, ◌&&◌, List, [], ℕ, ◌*◌, ◌≤◌, leb, length, Result, Ok, Err}
use Rattle.std.proofs.lemmas.List.Edits.{sets}
use Rattle.format.specs.Answer.{Answer, ok, ◌>>=◌}
use Rattle.format.specs.Refusal.{refused}
use Rattle.format.specs.declared.refusal.Refusal.{Refusal}
use Rattle.format.specs.Table.{schema_of}
use Rattle.format.specs.Row.{Place, Row, row_width, words}
use Rattle.format.specs.Modes.{inline_everything}
use Rattle.format.specs.Read.{in_message, State, split, no_literals, all_read, is_done, read_checked}
use Rattle.label.specs.declared.cursor.Cursor.{Cursor}
use Rattle.read_pieces.specs.Pieces.{Inside}
use Rattle.store.specs.Same.{Same}
use Rattle.read_literals.specs.Words.{store_of}
use Rattle.wire_types.specs.Typed.{Kept}
use Rattle.read_leaf.specs.State.{Ready, state_of}

-- «20: message empty or over 65,536 bytes»
unfoldable pub is_sized : List ℕ → Bool
is_sized m = leb 1 (length m) && leb (length m) 65536

-- what a message under a table that was checked is read as
unfoldable pub rows_of : List ℕ → List ℕ → ℕ → Answer (List (Row Place))
rows_of table m lent = do
  schema ← schema_of table
  read_checked schema m lent

-- So many rows stand in the buffer; after a refusal nothing is said of it. In either case the work is right for another message.
abbrev pub Gives : List ℕ → List ℕ → List ℕ → List ℕ → Result ℕ Refusal → Answer (List (Row Place)) → Type 0
Gives table before now work (Ok n) a = (rs : List (Row Place)) × (a ≡ ok rs) × (n ≡ length rs) × (now ≡ sets before 0 (words rs)) × (row_width * length rs ≤ length before) × Kept table work
Gives table before now work (Err e) a = (a ≡ refused e) × Kept table work

-- how many words of the buffer are the answer's then
abbrev pub used_by : Result ℕ Refusal → ℕ
used_by (Ok n) = row_width * n
used_by (Err e) = 0

-- the state that a walk begins with
unfoldable pub start : (m : List ℕ) → ℕ → ℕ → Answer (State (in_message m))
start m modes most = do
  (blocks, core) ← split (inline_everything modes) m
  ok (record { core = core; blocks = []; waiting = blocks; literals = no_literals; rows = most })

abbrev pub begun_of : (m : List ℕ) → ℕ → List ℕ → Result Cursor Refusal → Answer (State (in_message m))
begun_of m most w (Ok c) = ok (state_of m most w c 0)
begun_of m most w (Err e) = refused e

abbrev pub BegunIn : List ℕ → List ℕ → List ℕ → Result Cursor Refusal → Type 0
BegunIn m w w' (Ok c) = Ready m w' × Inside m c × Same w w'
BegunIn m w w' (Err e) = Same w w'

pub record Begins (m : List ℕ) (modes : ℕ) (w w' : List ℕ) (r : Result Cursor Refusal) : Type 0 where
  pub is : (most : ℕ) → begun_of m most w' r ≡ start m modes most
  pub stands : BegunIn m w w' r

-- the message is not looked at again: for any that the work is of
pub record AllRead (w : List ℕ) (r : Bool) : Type 0 where
  pub is : (m : List ℕ) → Ready m w → all_read (in_message m) (store_of w).slots ≡ r

pub record IsDone (w : List ℕ) (core : Cursor) (r : Bool) : Type 0 where
  pub is : (m : List ℕ) (most n : ℕ) → Ready m w → Inside m core → is_done (in_message m) (state_of m most w core n) ≡ r
