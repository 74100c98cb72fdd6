-- What the code's answers say in the format's terms.
use Rattle.std.specs.Prelude.{◌≡◌, Bool, List, ℕ, ◌+◌, ◌≤◌, ℤ, pos, negsuc, length, Result, Ok, Err}
use Rattle.std.specs.Prelude as code
use Rattle.std.proofs.Math.Option.{Option, none, some}
use Rattle.format.specs.Answer.{Answer}
use Rattle.format.specs.Refusal.{answered_by}
use Rattle.format.specs.Part.{place_of}
use Rattle.format.specs.declared.refusal.Refusal.{Refusal}
use Rattle.format.specs.declared.place.Place as part
use Rattle.format.specs.Row.{Place, string_row, bytes_row}
use Rattle.format.specs.Table.{Leaf, string, varint, float64, bytes, fixed, Held}
use Rattle.label.specs.declared.cursor.Cursor.{Cursor}
use Rattle.table.specs.declared.nodes.Leaf as leaf
use Rattle.read_leaf.specs.declared.front.Size.{Size}
use Rattle.read_leaf.specs.declared.front.Size.TheVariants.{Of, Below}

-- a label in front of a value, if one has been read already
abbrev pub front_of : code.Option ℤ → Option ℤ
front_of code.None = none
front_of (code.Some l) = some l

abbrev pub size_label : Size → ℤ
size_label (Of n) = pos n
size_label (Below k) = negsuc k

abbrev pub part_of : Result (part.Place × Cursor) Refusal → Answer (Place × Cursor)
part_of r = answered_by (λ (x : part.Place × Cursor). (place_of x.0, x.1)) r

-- a part has that size, and is inside the message
abbrev pub PartIn : List ℕ → ℕ → Result (part.Place × Cursor) Refusal → Type 0
PartIn m size (Ok x) = (x.0.size ≡ size) × (x.0.start + x.0.size ≤ length m)
PartIn m size (Err e) = Unit {0}

-- what a key holds
abbrev pub held_leaf : leaf.Leaf → Leaf
held_leaf leaf.TheVariants.String = string
held_leaf leaf.TheVariants.Varint = varint
held_leaf leaf.TheVariants.Float64 = float64
held_leaf leaf.TheVariants.Bytes = bytes
held_leaf (leaf.TheVariants.Fixed n) = fixed n

abbrev pub held_of : leaf.Leaf → Bool → Held
held_of leaf dedup = record { leaf = held_leaf leaf; dedup = dedup }

-- the kind of a text's row
abbrev pub text_row : Leaf → ℕ
text_row string = string_row
text_row bytes = bytes_row
text_row varint = bytes_row
text_row float64 = bytes_row
text_row (fixed n) = bytes_row
