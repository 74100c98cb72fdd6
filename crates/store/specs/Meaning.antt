-- What the code's answers say in the format's terms.
use Rattle.std.proofs.Math.Option as math
use Rattle.std.specs.Prelude.{ℕ, ◌<◌, ◌^◌, Option, Some, None}
use Rattle.format.specs.Read as read
use Rattle.label.specs.declared.cursor.Cursor.{Cursor}
use Rattle.store.specs.declared.Touched.{Touched}

abbrev pub reading : Cursor → read.Reading
reading p = record { at = p.at; end = p.end }

abbrev pub touched : Touched → ℕ × read.Reading
touched s = (s.key, record { at = s.at; end = s.end })

abbrev pub slot : Option Cursor → math.Option read.Reading
slot (Some p) = math.some (reading p)
slot None = math.none

-- a word of the work has 32 bits
abbrev pub Small : Option Cursor → Type 0
Small (Some p) = (p.at < 2 ^ 32) × (p.end < 2 ^ 32)
Small None = Unit {0}
