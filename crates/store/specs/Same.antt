-- The words below 1,024 are the caller's: there the table check keeps where the subtree of each node ends.
use Rattle.std.specs.Prelude.{◌≡◌, refl, List, ℕ, ◌<◌}
use Rattle.std.proofs.Common.{◌∙◌}
use Rattle.store.specs.Words.{word}

-- they stay as they were
pub record Same (w w' : List ℕ) : Type 0 where
  pub at : (i : ℕ) → i < 1024 → word w' i ≡ word w i

pub same_self : (w : List ℕ) → Same w w
same_self w = record { at = λ i h. refl }

pub same_then : {w w₁ w₂ : List ℕ} → Same w w₁ → Same w₁ w₂ → Same w w₂
same_then a b = record { at = λ i h. b.at i h ∙ a.at i h }
