-- What the functions promise that is more than one definition's answer.
use Rattle.std.specs.Prelude.{◌≡◌, Bool, true, false, List, ℕ, eqb, ℤ, negsuc, length, get_or, Result}
use Rattle.std.specs.Prelude as code
use Rattle.std.proofs.Math.Option.{Option}
use Rattle.format.specs.Answer.{Answer, ok, refuse, ◌>>=◌, ◌>>◌, need}
use Rattle.format.specs.Refusal.{answered}
use Rattle.format.specs.Part.{place_of}
use Rattle.format.specs.Modes.{inline_everything}
use Rattle.format.specs.Row.{Place, bytes_at, Says, placed, row, row_words}
use Rattle.format.specs.Table.{Leaf, Held, boolean}
use Rattle.format.specs.Read.{Reading, in_message, State, own_label, no_label, is_ended, is_right, is_numbered, one_row, read_literal, at_key, read_text, wire, leaf}
use Rattle.label.specs.declared.cursor.Cursor.{Cursor}
use Rattle.format.specs.declared.refusal.Refusal.{Refusal}
use Rattle.format.specs.declared.place.Place as part
use Rattle.read_pieces.specs.Pieces.{reading_of, Inside}
use Rattle.read_leaf.specs.declared.Progress.{Progress}
use Rattle.read_leaf.specs.State.{most_rows, Ready, Walks, Does, Took, Takes}
use Rattle.read_leaf.specs.Meaning.{front_of, part_of}
use Rattle.read_leaf.specs.Touch.{touch}

-- A label is read in the core alone, so that the work is anything.
pub record Owns (m : List ℕ) (front : code.Option ℤ) (c : Cursor) (r : Result (ℤ × Cursor) Refusal) : Type 0 where
  pub takes : (w : List ℕ) → Ready m w → Takes m w w c (answered r) (own_label (in_message m) (front_of front))

-- whether the label in front is right for an unlabelled value
pub record Bare (front : code.Option ℤ) (r : Bool) : Type 0 where
  pub is : (m : List ℕ) → no_label (in_message m) (front_of front) ≡ need r 24

-- the row of these words
pub record PutsRow (n : ℕ) (ws : List ℕ) (c : Cursor) (before now : List ℕ) (r : Result Progress Refusal) : Type 0 where
  pub does : (m w : List ℕ) (i : ℕ) (x : Says Place) → row_words (row i x) ≡ ws → Ready m w → Inside m c → Walks m w w c n before now r (one_row (in_message m) i x)

-- the row of a part that a has read
pub record PutsPart (n kind node : ℕ) (part : part.Place) (c : Cursor) (before now : List ℕ) (r : Result Progress Refusal) : Type 0 where
  pub does : (m w w' : List ℕ) (a : Answer (Place × State (in_message m))) → Took m (most_rows (length before)) w w' n (ok (place_of part, c)) a
      → Does m (most_rows (length before)) w w' n before now r (a >>= (λ x. one_row (in_message m) node (placed kind x.0) x.1))

pub record Boolean (m : List ℕ) (node : ℕ) (front : code.Option ℤ) (c : Cursor) (n : ℕ) (before now : List ℕ) (r : Result Progress Refusal) : Type 0 where
  pub does : (modes : ℕ) (held : ℕ → Held) (w : List ℕ) → Ready m w → Walks m w w c n before now r (wire (in_message m) modes held boolean node (front_of front))

-- a leaf other than text; what the keys hold besides makes no difference
pub record Unlabelled (m : List ℕ) (modes key : ℕ) (l : Leaf) (node : ℕ) (front : code.Option ℤ) (w w' : List ℕ) (c : Cursor) (n : ℕ) (before now : List ℕ) (r : Result Progress Refusal) : Type 0 where
  pub does : (held : ℕ → Held) → Walks m w w' c n before now r (leaf (in_message m) modes held key l node (front_of front))

-- the block of a key
abbrev pub given_of : Cursor → code.Option Cursor → Answer (Reading × Cursor)
given_of c (code.Some p) = ok (reading_of p, c)
given_of c code.None = refuse 29 0

abbrev pub GivenIn : List ℕ → code.Option Cursor → Type 0
GivenIn m (code.Some p) = Inside m p
GivenIn m code.None = Unit {0}

pub record Opened (m : List ℕ) (key : ℕ) (w w' : List ℕ) (r : code.Option Cursor) : Type 0 where
  pub takes : (c : Cursor) → Inside m c → Takes m w w' c (given_of c r) (touch (in_message m) key)
  pub inside : GivenIn m r

-- whether the byte of m at i is 00, where a literal is ended by it
unfoldable pub is_ending : List ℕ → Bool → ℕ → Bool
is_ending m true i = eqb (get_or m i 0) 0
is_ending m false i = true

-- a literal that is right, before it is numbered
unfoldable pub literal_of : (m : List ℕ) → ℕ → Leaf → ℕ → ℕ → State (in_message m) → Answer (Place × State (in_message m))
literal_of m modes l key n s = do
  (v, s₁) ← at_key (in_message m) (inline_everything modes) key (read_literal (in_message m) (is_ended modes l) n) s
  need (is_right l (bytes_at m v)) 28
  ok (v, s₁)

-- whether the literals of a key are numbered; that they are STRINGs or BYTES makes no difference
pub record Numbers (modes : ℕ) (dedup r : Bool) : Type 0 where
  pub is : (l : Leaf) → r ≡ is_numbered modes (record { leaf = l; dedup = dedup })

-- a literal again
pub record Again (w : List ℕ) (modes key : ℕ) (dedup : Bool) (k : ℕ) (c : Cursor) (r : Result (part.Place × Cursor) Refusal) : Type 0 where
  pub takes : (m : List ℕ) (l : Leaf) → Ready m w → Inside m c → Takes m w w c (part_of r) (read_text (in_message m) modes (λ i. record { leaf = l; dedup = dedup }) key (negsuc k))

-- a STRING or BYTES, with its label
abbrev pub text_of : (m : List ℕ) → ℕ → Held → ℕ → Option ℤ → State (in_message m) → Answer (Place × State (in_message m))
text_of m modes h key l s = do
  (n, s₁) ← own_label (in_message m) l s
  read_text (in_message m) modes (λ i. h) key n s₁
