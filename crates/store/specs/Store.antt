-- The store without its words: what a walk keeps of the keys that it has touched and of the literals that it has numbered.
use Rattle.std.specs.Prelude.{cond, List, [], ◌∷◌, ◌++◌, ℕ, eqb}
use Rattle.std.proofs.Math.Option.{Option, none, some}
use Rattle.format.specs.Row.{Place}
use Rattle.format.specs.Read.{Reading, add_at, no_literals}

pub record Store : Type 0 where
  pub slots : List (ℕ × Reading)  -- the keys touched so far, in the order of first touch, each with its reading place
  pub rest : Reading  -- the blocks that no key has been given yet; the writer has none
  pub literals : List (List Place)  -- the numbered literals of each key

abbrev pub empty : Store
empty = record { slots = []; rest = record { at = 0; end = 0 }; literals = no_literals }

-- what stands under a key
unfoldable pub lookup : {X : Type 0} → ℕ → List (ℕ × X) → Option X
lookup k [] = none
lookup k (b ∷ bs) = cond (eqb b.0 k) (some b.1) (lookup k bs)

-- what stands under a key, changed; a key that is not there changes nothing
unfoldable pub change : {X : Type 0} → ℕ → (X → X) → List (ℕ × X) → List (ℕ × X)
change k f [] = []
change k f (b ∷ bs) = cond (eqb b.0 k) ((k, f b.1) ∷ bs) (b ∷ change k f bs)

abbrev pub put : {X : Type 0} → ℕ → X → List (ℕ × X) → List (ℕ × X)
put k x bs = change k (λ y. x) bs

abbrev pub move_to : ℕ → ℕ → List (ℕ × Reading) → List (ℕ × Reading)
move_to k n bs = change k (λ p. record { at = n; end = p.end }) bs

-- one step of the store each: a slot more, a slot moved on, the blocks of no key, a literal more
abbrev pub opened : ℕ → Reading → Store → Store
opened k p s = record { slots = s.slots ++ (k, p) ∷ []; rest = s.rest; literals = s.literals }

abbrev pub advanced : ℕ → ℕ → Store → Store
advanced k n s = record { slots = move_to k n s.slots; rest = s.rest; literals = s.literals }

abbrev pub rested : Reading → Store → Store
rested p s = record { slots = s.slots; rest = p; literals = s.literals }

abbrev pub added : ℕ → Place → Store → Store
added k x s = record { slots = s.slots; rest = s.rest; literals = add_at k x s.literals }

-- and no literals any more
abbrev pub unnumbered : Store → Store
unnumbered s = record { slots = s.slots; rest = s.rest; literals = no_literals }
