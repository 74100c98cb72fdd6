-- What putting one row more answers, and what it leaves in the buffer.
use Rattle.std.specs.Prelude.{cond, List, ℕ, ◌+◌, ◌*◌, ltb, Result, Ok, Err}
use Rattle.std.proofs.lemmas.List.Edits.{sets}
use Rattle.format.specs.Row.{row_width}
use Rattle.format.specs.declared.refusal.Refusal.{Refusal}
use Rattle.format.specs.declared.refusal.Refusal.TheVariants.{ManyRows}

-- row n, of so many that there may be
abbrev pub put_of : ℕ → ℕ → Result ℕ Refusal
put_of most n = cond (ltb n most) (Ok (n + 1)) (Err ManyRows)

-- its words are ws
abbrev pub put_in : ℕ → List ℕ → ℕ → List ℕ → List ℕ
put_in most rows n ws = cond (ltb n most) (sets rows (row_width * n) ws) rows
