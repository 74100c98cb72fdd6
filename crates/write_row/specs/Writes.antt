-- What a step of a pass over the rows has done.
use Rattle.std.specs.Prelude.{◌≡◌, Result, Ok, Err, Bool, false, List, ℕ, ◌+◌, ◌*◌, ◌≤◌}
use Rattle.format.specs.Answer.{Answer, ok, refuse}
use Rattle.format.specs.Refusal.{answered}
use Rattle.format.specs.declared.refusal.Refusal.{Refusal}
use Rattle.format.specs.Table.{Held}
use Rattle.format.specs.Row.{row_count}
use Rattle.format.specs.Write.{Event, Rest}
use Rattle.write_passes.specs.Plan.{Plan, emit_events}
use Rattle.write_bytes.specs.State.{plan_of, Ready, Within}
use Rattle.store.specs.Same.{Same}
use Rattle.write_row.specs.declared.Progress.{Progress}
use Rattle.write_row.specs.Rest.{rest_of}

-- How far the core and each block go at most, before row i. While the message is written all begins within its 65,536 bytes; a row adds two labels, a text and a 00 at most.
abbrev pub most_before : ℕ → ℕ
most_before i = 65536 + 65557 * i

-- before row i the work w holds a plan, whose core goes up to `core`
pub record Holds (pool rows w : List ℕ) (i core : ℕ) : Type 0 where
  pub ready : Ready pool w
  pub within : Within (most_before i) core w
  pub inside : i ≤ row_count rows
  pub few : row_count rows ≤ 8192

-- done: the next row is i, and the core's next byte goes to `core`
abbrev pub done : ℕ → ℕ → Result Progress Refusal
done i core = Ok (record { row = i; core = core })

module _ (pool rows out' w' : List ℕ) (r : Result Progress Refusal) where
  -- So does a step that is done, and the words below 1,024 stay.
  abbrev pub Left : List ℕ → Result Progress Refusal → Type 0
  Left w (Ok p) = Holds pool rows w' p.row p.core × Same w w'
  Left w (Err e) = Unit {0}

  -- The plan that is answered stands in the buffers. Where none is, nothing is said: only what is put finds no room, and the pass that puts follows one that has counted.
  abbrev pub Emitted : Rest → Answer Plan → Type 0
  Emitted rest (ok p) = (r ≡ done rest.at p.core) × (plan_of pool out' w' p.core ≡ p) × (rest_of pool rows rest.at ≡ rest)
  Emitted rest (refuse e j) = Unit {0}

  module _ (put : Bool) (modes : ℕ) (held : ℕ → Held) where
    -- Where the rows fit, the step is what they write; where they do not, the first pass refuses them so.
    abbrev pub Acts : Plan → Answer (List Event × Rest) → Type 0
    Acts p (ok x) = Emitted x.1 (emit_events put modes held x.0 p)
    Acts p (refuse e j) = put ≡ false → answered r ≡ refuse e j

-- A step that began with the output out, the work w and the core at `core`, and ended with out' and w'.
pub record Writes (put : Bool) (modes : ℕ) (held : ℕ → Held) (pool rows out w : List ℕ) (core : ℕ) (out' w' : List ℕ) (r : Result Progress Refusal) (a : Answer (List Event × Rest)) : Type 0 where
  pub left : Left pool rows out' w' r w r
  pub acts : Acts pool rows out' w' r put modes held (plan_of pool out w core) a
