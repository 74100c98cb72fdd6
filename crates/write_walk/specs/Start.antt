-- The values to write for a value: who writes them has written the value.
use Rattle.std.specs.Prelude.{Result, Ok, Err, Bool, List, ℕ}
use Rattle.format.specs.declared.refusal.Refusal.{Refusal}
use Rattle.write_walk.specs.declared.start.Start.{Start}
use Rattle.write_walk.specs.declared.start.Start.TheVariants.{Values, Whole}
use Rattle.write_walk.specs.Sequence.{FitSequence, WritesSequence}
use Rattle.write_walk.specs.Remaining.{Leaves, Ends}

-- From a value at `node`, before which the output is out, to `count` values from node' on, before which it is out'.
module _ (put : Bool) (table pool rows out : List ℕ) (core i node : ℕ) (omittable : Bool) (out' : List ℕ) where
  abbrev pub Starts : Result Start Refusal → Type 0
  Starts (Ok (Values node' count omittable' at')) = Leaves put table pool rows out core i node omittable at'.core at'.row node' (λ left w. FitSequence table w left node' count) (λ how w out₂ w₂ r. WritesSequence how table pool rows out' w at'.core out₂ w₂ r at'.row node' omittable' count)
  Starts (Ok (Whole n)) = Ends put table pool rows out core i node omittable out' (Ok n)
  Starts (Err e) = Ends put table pool rows out core i node omittable out' (Err e)
