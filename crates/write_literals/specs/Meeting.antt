-- What the search for a literal answers.
use Rattle.std.specs.Prelude.{List, ℕ, ◌<◌, length, Option, Some, None}
use Rattle.write_literals.specs.Store.{Literal}
use Rattle.write_literals.specs.Words.{Meets}
use Rattle.write_literals.specs.declared.Met.{Met}

-- the first literal from j on that has both, or none of them has
abbrev pub MeetsIn : List Literal → ℕ → ℕ → ℕ → Option Met → Type 0
MeetsIn literals j high second (Some m) = (m.number < length literals) × Meets literals j high second m.number m.first
MeetsIn literals j high second None = Meets literals j high second (length literals) 0
