-- What the modes of a header byte, or none, mean as an answer.
use Rattle.std.specs.Prelude.{ℕ, Option, Some, None}
use Rattle.format.specs.Answer.{Answer, ok, refuse}

abbrev pub header_of : Option ℕ → Answer ℕ
header_of (Some modes) = ok modes
header_of None = refuse 21 0
