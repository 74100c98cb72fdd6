-- What cutting a message into pieces and giving out the next block answer.
use Rattle.std.specs.Prelude.{◌≡◌, false, List, [], ◌∷◌, ℕ, ◌≤◌, length, Option, Some, None}
use Rattle.std.proofs.Common.{arith}
use Rattle.format.specs.Answer.{Answer, ok, refuse}
use Rattle.format.specs.Read.{Reading, split}
use Rattle.label.specs.declared.cursor.Cursor.{Cursor}
use Rattle.read_pieces.specs.declared.Parts.{Parts}
use Rattle.read_pieces.specs.Chain.{waiting_of, Piece, NoPiece, Chain, chain-none}

-- a cursor as the reading place that it stands for
abbrev pub reading_of : Cursor → Reading
reading_of c = record { at = c.at; end = c.end }

pub record Inside (m : List ℕ) (c : Cursor) : Type 0 where
  pub ordered : c.at ≤ c.end
  pub inside : c.end ≤ length m

-- the blocks not given to a key yet: their labels stand from `at` on, and the last of them ends at `end`
pub record Blocks (m : List ℕ) (at end : ℕ) : Type 0 where
  pub chain : Chain m at end
  pub ordered : at ≤ end
  pub inside : end ≤ length m

-- InlineEverything has none
pub no_blocks : (m : List ℕ) → Blocks m (length m) (length m)
no_blocks m = record { chain = chain-none m; ordered = omega arith; inside = omega arith }

-- one piece: the one whose label stands at `at`
abbrev pub PieceIs : List ℕ → ℕ → Option Cursor → Type 0
PieceIs m at (Some c) = Piece m at (reading_of c)
PieceIs m at None = NoPiece m at

-- the whole message: what `split` answers, and where core and blocks stand
abbrev pub parts_of : List ℕ → Option Parts → Answer (List Reading × Reading)
parts_of m (Some p) = ok (waiting_of m p.blocks.at p.blocks.end, reading_of p.core)
parts_of m None = refuse 22 0

abbrev pub Stand : List ℕ → Option Parts → Type 0
Stand m (Some p) = Inside m p.core × Blocks m p.blocks.at p.blocks.end
Stand m None = Unit {0}

pub record Parted (m : List ℕ) (r : Option Parts) : Type 0 where
  pub is : parts_of m r ≡ split false m
  pub stand : Stand m r

-- the next block: the first of those that wait, and the others
abbrev pub blocks_of : List ℕ → ℕ → Option Cursor → List Reading
blocks_of m end (Some c) = reading_of c ∷ waiting_of m c.end end
blocks_of m end None = []

abbrev pub Left : List ℕ → ℕ → Option Cursor → Type 0
Left m end (Some c) = Inside m c × Blocks m c.end end
Left m end None = Unit {0}

pub record Gave (m : List ℕ) (at end : ℕ) (r : Option Cursor) : Type 0 where
  pub is : blocks_of m end r ≡ waiting_of m at end
  pub left : Left m end r
