-- What laying out leaves: the labels in the output, the blocks at their starts, and no literals.
use Rattle.std.specs.Prelude.{◌≡◌, false, List, ℕ, ◌+◌, ◌≤◌, length}
use Rattle.format.specs.Modes.{inline_everything}
use Rattle.format.specs.Read.{no_literals, nth}
use Rattle.write_literals.specs.Words.{store_of, Good}
use Rattle.store.specs.Same.{Same}
use Rattle.laws.specs.Facts.{absurd-some}
use Rattle.theory.specs.Lists.{empty-lists}
use Rattle.write_passes.specs.Layout.{block_space, starts, core_start, put_labels, lay_out, placed}
use Rattle.write_bytes.specs.State.{plan_of, slots_of, Ready}

pub record LaysBlocks (w w' out out' : List ℕ) (at : ℕ) : Type 0 where
  pub good : Good w'
  pub slots : slots_of w' ≡ starts 1 (slots_of w)
  pub same : Same w w'
  pub labels : out' ≡ put_labels 1 (slots_of w) out
  pub end : at ≡ 1 + block_space (slots_of w)

pub record LaysOut (modes core : ℕ) (w w' out out' : List ℕ) (at : ℕ) : Type 0 where
  pub good : Good w'
  pub slots : slots_of w' ≡ starts 1 (slots_of w)
  pub literals : (store_of w').literals ≡ no_literals
  pub few : (store_of w').over ≡ false
  pub same : Same w w'
  pub labels : out' ≡ lay_out modes core (slots_of w) out
  pub start : at ≡ core_start (inline_everything modes) core (slots_of w)

-- the plan before the second pass
pub laid-plan : (pool : List ℕ) {modes core : ℕ} {w w' out out' : List ℕ} {at : ℕ} → LaysOut modes core w w' out out' at → plan_of pool out' w' at ≡ placed modes core (slots_of w) out'
laid-plan pool l = rw (l.start, l.slots, l.literals, l.few)

pub laid-ready : {pool : List ℕ} {modes core : ℕ} {w w' out out' : List ℕ} {at : ℕ} → length pool ≤ 65536 → LaysOut modes core w w' out out' at → Ready pool w'
unfolding nth
laid-ready {pool} h l = record { small = h; good = l.good; inside = rw l.literals (record { inside = λ k j p e. absurd-some (rw (empty-lists 32 k) at e) }) }
