-- What a step through a text passes over.
use Rattle.std.specs.Prelude.{◌≡◌, false, List, ℕ, ◌+◌, ◌≤◌, ◌<◌}
use Rattle.std.proofs.Math.Seq.{slice}
use Rattle.format.specs.Utf8.{is_text}

-- From `at` on, r bytes are whole characters; where r is 0, no character begins there.
pub record Passes (s : List ℕ) (at end r : ℕ) : Type 0 where
  pub inside : at + r ≤ end
  pub none : r ≡ 0 → is_text (slice at end s) ≡ false
  pub some : 0 < r → is_text (slice at end s) ≡ is_text (slice (at + r) end s)
