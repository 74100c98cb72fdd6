-- What becomes of a literal, and what is said of a text, whose literals are parts of the pool.
use Rattle.std.specs.Prelude.{◌≡◌, Bool, Result, true, false, cond, List, ℕ, ltb}
use Rattle.format.specs.Answer.{Answer}
use Rattle.format.specs.Modes.{inline_everything}
use Rattle.format.specs.Table.{Held}
use Rattle.format.specs.Read.{is_numbered, is_ended, total}
use Rattle.write_literals.specs.Store.{Literal, Store, added, overfull}
use Rattle.write_passes.specs.Plan.{Plan}
use Rattle.format.specs.declared.refusal.Refusal.{Refusal}
use Rattle.write_bytes.specs.State.{Does}

-- the plan's `emit_literal` on what is kept of a literal
unfoldable pub kept : Bool → ℕ → Literal → Store → Store
kept false k x s = s
kept true k x s = cond (ltb (total s.literals) 4096) (added k x s) (overfull s)

-- in any modes that are InlineEverything or not, that number the key's literals or not, and that put a 00 behind them or not
pub record EmitsText (inline numbered ended : Bool) (k : ℕ) (pool w w' out : List ℕ) (r : Result ℕ Refusal) (f : ℕ → (ℕ → Held) → Answer Plan) : Type 0 where
  pub does : (modes : ℕ) (held : ℕ → Held) → inline_everything modes ≡ inline → is_numbered modes (held k) ≡ numbered → is_ended modes (held k).leaf ≡ ended → Does pool w w' out r (f modes held)
