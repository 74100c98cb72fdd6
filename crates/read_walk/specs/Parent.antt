-- A record or an array: what it holds, and its row.
use Rattle.std.specs.Prelude.{◌≡◌, Bool, false, cond, List, [], ◌∷◌, ℕ, ◌+◌, ℤ, length, Result, Ok, Err}
use Rattle.std.proofs.Math.Option.{Option}
use Rattle.format.specs.declared.refusal.Refusal.{Refusal}
use Rattle.format.specs.Table.{node_at, RECORD, ARRAY}
use Rattle.format.specs.Row.{record_row, array_row}
use Rattle.label.specs.declared.cursor.Cursor.{Cursor}
use Rattle.read_pieces.specs.Pieces.{Inside}
use Rattle.read_leaf.specs.declared.Progress.{Progress}
use Rattle.read_leaf.specs.State.{progress, most_rows, Ready}
use Rattle.read_leaf.specs.Push.{put_of, put_in}
use Rattle.read_walk.specs.declared.parent.Count.{Count}
use Rattle.read_walk.specs.declared.parent.Parent.{Parent}
use Rattle.read_walk.specs.Walk.{ReadsWire, ReadsValues}

-- the kind of its node, and of its row
abbrev pub parent_kind : Bool → ℕ
parent_kind repeated = cond repeated ARRAY RECORD

abbrev pub parent_row : Bool → ℕ
parent_row repeated = cond repeated array_row record_row

-- what putting its row comes to
abbrev pub parent_by : Result ℕ Refusal → ℕ → Cursor → Result Parent Refusal
parent_by (Ok next) count c = Ok (record { count = count; at = progress c next })
parent_by (Err e) count c = Err e

module _ (table m : List ℕ) (node : ℕ) (repeated : Bool) (front : Option ℤ) (c : Cursor) where
  -- It holds so many values: who makes its row, under its topmost node, and reads them has read it, whatever the work is.
  pub record Holds (count : ℕ) (core : Cursor) : Type 0 where
    pub inside : (w : List ℕ) → Ready m w → Inside m core
    pub fields : repeated ≡ false → count ≡ (node_at table node).argument
    pub full : (w l l₁ : List ℕ) (n modes top : ℕ) (e : Refusal) → Ready m w → put_of (most_rows (length l)) n ≡ Err e → ReadsWire m w w l l₁ c n (Err e) table modes node top front
    pub onward : (w w' l l₁ l₂ : List ℕ) (n next : ℕ) (r : Result Progress Refusal) (modes top : ℕ) → Ready m w
        → put_of (most_rows (length l)) n ≡ Ok next → l₁ ≡ put_in (most_rows (length l)) l n (parent_row repeated ∷ count ∷ 0 ∷ top ∷ []) → length l₁ ≡ length l
        → ReadsValues m w w' l₁ l₂ core next r table modes (node + 1) repeated count → ReadsWire m w w' l l₂ c n r table modes node top front

  -- its label is wrong
  pub record Wrong (e : Refusal) : Type 0 where
    pub refused : (w l l₁ : List ℕ) (n modes top : ℕ) → Ready m w → ReadsWire m w w l l₁ c n (Err e) table modes node top front

  abbrev pub Counts : Result Count Refusal → Type 0
  Counts (Ok x) = Holds x.values x.core
  Counts (Err e) = Wrong e

module _ (table m before now : List ℕ) (node top : ℕ) (repeated : Bool) (front : Option ℤ) (c : Cursor) (n : ℕ) where
  -- Its row stands: who reads what it holds has read it.
  pub record HasRow (count : ℕ) (core : Cursor) (next : ℕ) : Type 0 where
    pub inside : (w : List ℕ) → Ready m w → Inside m core
    pub fields : repeated ≡ false → count ≡ (node_at table node).argument
    pub onward : (w w' now' : List ℕ) (r : Result Progress Refusal) (modes : ℕ) → Ready m w → ReadsValues m w w' now now' core next r table modes (node + 1) repeated count → ReadsWire m w w' before now' c n r table modes node top front

  pub record HasNoRow (e : Refusal) : Type 0 where
    pub refused : (w : List ℕ) (modes : ℕ) → Ready m w → ReadsWire m w w before now c n (Err e) table modes node top front

  abbrev pub MakesRow : Result Parent Refusal → Type 0
  MakesRow (Ok p) = HasRow p.count p.at.core p.at.rows
  MakesRow (Err e) = HasNoRow e
