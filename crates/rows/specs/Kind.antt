-- The kinds of rows by name: the word that stands for each.
use Rattle.std.specs.Prelude.{◌≡◌, ℕ, ◌<◌, Result, MatchResult}
use Rattle.format.specs.Row.{null_row, absent_row, false_row, true_row, integer_row, float_row, string_row, bytes_row, fixed_row, record_row, array_row}
use Rattle.format.specs.declared.refusal.Refusal.{Refusal}
use Rattle.format.specs.declared.refusal.Refusal.TheVariants as refusal
use Rattle.rows.specs.declared.kind.Kind.{Kind}
use Rattle.rows.specs.declared.kind.Kind.TheVariants as kind

abbrev pub word_of : Kind → ℕ
word_of kind.Null = null_row
word_of kind.Absent = absent_row
word_of kind.False = false_row
word_of kind.True = true_row
word_of kind.Integer = integer_row
word_of kind.Float = float_row
word_of kind.String = string_row
word_of kind.Bytes = bytes_row
word_of kind.Fixed = fixed_row
word_of kind.Record = record_row
word_of kind.Array = array_row

-- the kind that this word stands for, or that there is none: «51: row's kind or words not as above»
abbrev pub Decodes : ℕ → Result Kind Refusal → Type 0
Decodes word r = MatchResult r (λ k. word_of k ≡ word) (λ e. (e ≡ refusal.BadRow) × (array_row < word))
