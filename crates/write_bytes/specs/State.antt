-- The writer's state as the code keeps it, and what a step has done.
use Rattle.std.specs.Prelude.{◌≡◌, Bool, Result, List, map, ℕ, ◌+◌, ◌≤◌, length}
use Rattle.format.specs.Answer.{Answer, ok, refuse}
use Rattle.format.specs.Modes.{inline_everything}
use Rattle.format.specs.Refusal.{answered}
use Rattle.format.specs.Table.{Held}
use Rattle.format.specs.Write.{Event}
use Rattle.write_literals.specs.Store.{Store}
use Rattle.write_literals.specs.Words.{store_of, Good}
use Rattle.store.specs.Same.{Same}
use Rattle.write_passes.specs.Plan.{Plan, put_bytes, emit_event}
use Rattle.write_passes.specs.Slots.{under, most}
use Rattle.write_search.specs.Search.{texts_of, AreLiterals}
use Rattle.format.specs.declared.refusal.Refusal.{Refusal}

-- A slot's `at` is where the key's next byte goes, and so is `core` for the core.
abbrev pub plan_in : List ℕ → List ℕ → ℕ → Store → Plan
plan_in pool out core s = record {
  out = out;
  core = core;
  slots = under (λ p. p.at) s.slots;
  literals = map (λ l. texts_of pool l) s.literals;
  over = s.over;
}

abbrev pub plan_of : List ℕ → List ℕ → List ℕ → ℕ → Plan
plan_of pool out w core = plan_in pool out core (store_of w)

abbrev pub slots_of : List ℕ → List (ℕ × ℕ)
slots_of w = under (λ p. p.at) (store_of w).slots

-- the work holds a plan whose literals are parts of the pool
pub record Ready (pool w : List ℕ) : Type 0 where
  pub small : length pool ≤ 65536
  pub good : Good w
  pub inside : AreLiterals pool (store_of w).literals

-- nothing has gone further than b, so that no sum overflows
pub record Within (b core : ℕ) (w : List ℕ) : Type 0 where
  pub first : core ≤ b
  pub others : most (slots_of w) ≤ b

-- the work, w before, holds the plan p now, with the output
pub record HoldsPlan (pool w w' out : List ℕ) (p : Plan) : Type 0 where
  pub plan : plan_of pool out w' p.core ≡ p
  pub ready : Ready pool w'
  pub same : Same w w'

-- how far the outcome of a definition goes
abbrev pub reach : {A : Type 0} → (A → ℕ) → Answer A → Answer ℕ
reach f (ok a) = ok (f a)
reach f (refuse e i) = refuse e i

-- What is left; nothing is said of the buffers after a refusal.
abbrev pub IfDone : {A : Type 0} → (A → Type 0) → Answer A → Type 0
IfDone P (ok a) = P a
IfDone P (refuse e i) = Unit {0}

-- A step that began with the work w, and ended with the work w' and this output. The code answers how far the bytes go, or «43: message over the lent output or 65,536 bytes».
pub record Does (pool w w' out : List ℕ) (r : Result ℕ Refusal) (a : Answer Plan) : Type 0 where
  pub answer : answered r ≡ reach (λ p. p.core) a
  pub left : IfDone (HoldsPlan pool w w' out) a

-- The same of a step f that has to do with no literal, so that the pool may be any.
pub record Emits (w w' out out' : List ℕ) (core : ℕ) (r : Result ℕ Refusal) (f : Plan → Answer Plan) : Type 0 where
  pub does : (pool : List ℕ) → Ready pool w → Does pool w w' out' r (f (plan_of pool out w core))

-- of a whole row, in any modes that are InlineEverything or not
pub record EmitsEvent (put inline : Bool) (w w' out out' : List ℕ) (core : ℕ) (r : Result ℕ Refusal) (e : Event) : Type 0 where
  pub emits : (modes : ℕ) (held : ℕ → Held) → inline_everything modes ≡ inline → Emits w w' out out' core r (emit_event put modes held e)

-- And of bytes alone, put from `at` on.
pub record Puts (put : Bool) (at : ℕ) (bs out out' : List ℕ) (r : Result ℕ Refusal) : Type 0 where
  pub answer : answered r ≡ reach (λ o. at + length bs) (put_bytes put at bs out)
  pub left : IfDone (λ o. out' ≡ o) (put_bytes put at bs out)
