-- The walk's state as the code keeps it, and what a step of the walk has done.
use Rattle.std.specs.Prelude.{◌≡◌, List, ℕ, ◌+◌, ◌-◌, ◌*◌, ◌/◌, ◌<◌, ◌≤◌, min, length, Result}
use Rattle.std.proofs.Math.Option.{some}
use Rattle.std.proofs.lemmas.List.Edits.{sets}
use Rattle.format.specs.Answer.{Answer, ok, refuse}
use Rattle.format.specs.Refusal.{answered}
use Rattle.format.specs.Row.{Place, Row, words, row_width}
use Rattle.format.specs.Read.{Reading, in_message, State}
use Rattle.label.specs.declared.cursor.Cursor.{Cursor}
use Rattle.read_pieces.specs.Chain.{waiting_of}
use Rattle.read_pieces.specs.Pieces.{reading_of, Inside, Blocks}
use Rattle.store.specs.Store.{lookup}
use Rattle.store.specs.Words.{start_of}
use Rattle.store.specs.Same.{Same}
use Rattle.read_literals.specs.Words.{store_of, Good}
use Rattle.format.specs.declared.refusal.Refusal.{Refusal}
use Rattle.read_leaf.specs.declared.Progress.{Progress}

abbrev pub progress : Cursor → ℕ → Progress
progress c n = record { core = c; rows = n }

abbrev pub cursor_of : Reading → Cursor
cursor_of p = record { at = p.at; end = p.end }

-- how many rows there may be, where so many words are lent for them
abbrev pub most_rows : ℕ → ℕ
most_rows lent = min 8192 (lent / row_width)

-- the work holds a state of a walk over m: all its reading places are inside m
pub record Ready (m w : List ℕ) : Type 0 where
  pub small : length m ≤ 65536
  pub good : Good w
  pub blocks : Blocks m (store_of w).rest.at (store_of w).rest.end
  pub slots : (k : ℕ) (p : Reading) → lookup k (store_of w).slots ≡ some p → Inside m (cursor_of p)
  pub starts : (k : ℕ) (p : Reading) → k < 32 → lookup k (store_of w).slots ≡ some p → start_of w k ≤ p.at  -- where the key's piece begins

-- that state, with the core at c and n rows written of so many that there may be
abbrev pub state_of : (m : List ℕ) → ℕ → List ℕ → Cursor → ℕ → State (in_message m)
state_of m most w c n = record {
  core = reading_of c;
  blocks = (store_of w).slots;
  waiting = waiting_of m (store_of w).rest.at (store_of w).rest.end;
  literals = (store_of w).literals;
  rows = most - n;
}

-- the work, w before, holds the state s now
pub record Holds (m : List ℕ) (most : ℕ) (w w' : List ℕ) (n : ℕ) (s : State (in_message m)) : Type 0 where
  pub state : state_of m most w' (cursor_of s.core) n ≡ s
  pub ready : Ready m w'
  pub inside : Inside m (cursor_of s.core)
  pub same : Same w w'

-- what an answer of the definition is for the code
abbrev pub step_of : {m : List ℕ} → ℕ → Answer (List (Row Place) × State (in_message m)) → Answer Progress
step_of n (ok r) = ok (progress (cursor_of r.1.core) (n + length r.0))
step_of n (refuse e i) = refuse e i

-- The rows stand in the buffer from row n on, no more than there may be, and the work holds the state. No refusal of the walk has a second number of its own.
abbrev pub Left : (m : List ℕ) → ℕ → List ℕ → List ℕ → ℕ → List ℕ → List ℕ → Answer (List (Row Place) × State (in_message m)) → Type 0
Left m most w w' n before now (ok r) = (now ≡ sets before (row_width * n) (words r.0)) × Holds m most w w' (n + length r.0) r.1 × (n ≤ most → n + length r.0 ≤ most)
Left m most w w' n before now (refuse e i) = (i ≡ 0) × Same w w'

-- A step that began with the work w and n rows, and ended with the work w'. After a refusal nothing is said of the rows, and of the work that the caller's words are as they were.
pub record Does (m : List ℕ) (most : ℕ) (w w' : List ℕ) (n : ℕ) (before now : List ℕ) (r : Result Progress Refusal) (a : Answer (List (Row Place) × State (in_message m))) : Type 0 where
  pub answer : answered r ≡ step_of n a
  pub left : Left m most w w' n before now a

-- in a contract: f is the definition of the step, and c the core as far as it has been read before
abbrev pub Walks : (m w w' : List ℕ) → Cursor → ℕ → List ℕ → List ℕ → Result Progress Refusal → (State (in_message m) → Answer (List (Row Place) × State (in_message m))) → Type 0
Walks m w w' c n before now r f = Does m (most_rows (length before)) w w' n before now r (f (state_of m (most_rows (length before)) w c n))

-- The same of a step that reads something of the message and writes no row.
abbrev pub read_of : {m : List ℕ} {X : Type 0} → Answer (X × State (in_message m)) → Answer (X × Cursor)
read_of (ok r) = ok (r.0, cursor_of r.1.core)
read_of (refuse e i) = refuse e i

abbrev pub Kept : {X : Type 0} → (m : List ℕ) → ℕ → List ℕ → List ℕ → ℕ → Answer (X × State (in_message m)) → Type 0
Kept m most w w' n (ok r) = Holds m most w w' n r.1
Kept m most w w' n (refuse e i) = (i ≡ 0) × Same w w'

pub record Took {X : Type 0} (m : List ℕ) (most : ℕ) (w w' : List ℕ) (n : ℕ) (r : Answer (X × Cursor)) (a : Answer (X × State (in_message m))) : Type 0 where
  pub answer : r ≡ read_of a
  pub left : Kept m most w w' n a

-- for any rows, since it has to do with none
pub record Takes {X : Type 0} (m w w' : List ℕ) (c : Cursor) (r : Answer (X × Cursor)) (f : State (in_message m) → Answer (X × State (in_message m))) : Type 0 where
  pub took : (most n : ℕ) → Took m most w w' n r (f (state_of m most w c n))
