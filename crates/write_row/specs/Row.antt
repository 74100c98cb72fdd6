-- One row, judged and emitted: what each function of the crate promises, and why it does so.
use Rattle.std.specs.Prelude.{◌≡◌, refl, Result, Ok, Err, Bool, true, false, List, [], ◌∷◌, ℕ, ◌+◌, ◌<◌, ◌≤◌, ℤ}
use Rattle.std.proofs.Common.{◌∙◌, arith}
use Rattle.format.specs.Answer.{Answer, ok}
use Rattle.format.specs.Modes.{inline_everything}
use Rattle.format.specs.Table.{Held, Node, wire_of, top_of, Leaf, string, varint, float64, bytes, fixed}
use Rattle.format.specs.Row.{row_count}
use Rattle.format.specs.Read.{is_numbered, is_ended}
use Rattle.format.specs.Write.{Event, Rest, mark, fit_wire}
use Rattle.write_passes.specs.Plan.{emit_event}
use Rattle.write_passes.specs.Laws.{emit-one}
use Rattle.write_passes.specs.Moves.{body_size, within-event}
use Rattle.write_passes.specs.Moves as moves
use Rattle.format.specs.declared.refusal.Refusal.{Refusal}
use Rattle.write_bytes.specs.State.{plan_of, Does}
use Rattle.write_bytes.specs.Does.{does-done, does-refused}
use Rattle.table.specs.declared.nodes.Leaf as code
use Rattle.wire_types.specs.Typed.{is_nullable}
use Rattle.write_row.specs.declared.Progress.{Progress}
use Rattle.write_bytes.specs.declared.Pass.{Pass}
use Rattle.write_row.specs.declared.Opening.{Opening}
use Rattle.write_row.specs.declared.Opening.TheVariants.{Gone, Here}
use Rattle.write_row.specs.Rest.{rest_of}
use Rattle.write_row.specs.Opens.{fit_value}
use Rattle.write_row.specs.Writes.{most_before, done, Holds, Writes}

-- the row is done once what it writes is
abbrev pub row_progress : ℕ → Result ℕ Refusal → Result Progress Refusal
row_progress i (Ok core) = done (i + 1) core
row_progress i (Err e) = Err e

-- A row that fits and writes the event e.
module _ {put : Bool} {modes : ℕ} {held : ℕ → Held} {pool rows out w out' w' : List ℕ} {i core : ℕ} {e : Event} {s : Result ℕ Refusal} (h : Holds pool rows w i core) (t : i < row_count rows) (short : body_size e.body ≤ 65537)
    (d : Does pool w w' out' s (emit_event put modes held e (plan_of pool out w core))) where
  row_done : {core' : ℕ} → s ≡ Ok core' → Writes put modes held pool rows out w core out' w' (done (i + 1) core') (ok (e ∷ [], rest_of pool rows (i + 1)))
  row_done {core'} q =
      let l = does-done _ d q in
      let p₁ = plan_of pool out' w' core' in
      let b : moves.Within (most_before i + 65557) p₁ = within-event put modes held e (most_before i) (plan_of pool out w core) p₁ short (record { core = h.within.first; slots = h.within.others }) l.is in
      record {
        left = (record { ready = l.ready; within = record { first = omega (arith, b.core); others = omega (arith, b.slots) }; inside = omega arith; few = h.few }, l.same);
        acts = rw (emit-one put modes held e (plan_of pool out w core) ∙ l.is) (refl, refl, refl);
      }

  row-full : {n : Refusal} → s ≡ Err n → Writes put modes held pool rows out w core out' w' (Err n) (ok (e ∷ [], rest_of pool rows (i + 1)))
  row-full q = record { left = tt; acts = rw (emit-one put modes held e (plan_of pool out w core) ∙ does-refused _ d q) tt }

  pub row-writes : {r : Result Progress Refusal} → r ≡ row_progress i s → Writes put modes held pool rows out w core out' w' r (ok (e ∷ [], rest_of pool rows (i + 1)))
  row-writes q = rw q (go s refl)
    where
      go : (s₁ : Result ℕ Refusal) → s ≡ s₁ → Writes put modes held pool rows out w core out' w' (row_progress i s₁) (ok (e ∷ [], rest_of pool rows (i + 1)))
      go (Ok core') z = row_done z
      go (Err n) z = row-full z

-- Of a function that has nothing to do with the work: for any that holds a plan.
pub record WritesRow (put : Bool) (pool rows out out' : List ℕ) (i core : ℕ) (r : Result Progress Refusal) (a : Answer (List Event × Rest)) : Type 0 where
  pub writes : (modes : ℕ) (held : ℕ → Held) (w : List ℕ) → Holds pool rows w i core → Writes put modes held pool rows out w core out' w r a

-- of a label alone, for any rows
pub record Marks (put : Bool) (out out' : List ℕ) (i core : ℕ) (r : Result Progress Refusal) (l : ℤ) : Type 0 where
  pub writes : (pool rows : List ℕ) → i < row_count rows → WritesRow put pool rows out out' i core r (ok (mark l ∷ [], rest_of pool rows (i + 1)))

-- What stands in front of a value: the whole of it has been done; or nothing has, and the value itself is to come.
module _ (put omittable nullable : Bool) (pool rows out out' : List ℕ) (node i core : ℕ) where
  pub record OpensGone (r : Result Progress Refusal) : Type 0 where
    pub writes : (held : ℕ → Held) (v : Node) → is_nullable v ≡ nullable → top_of v ≡ node → WritesRow put pool rows out out' i core r (fit_value held omittable v (rest_of pool rows i))

  pub record OpensHere (labelled : Bool) : Type 0 where
    pub still : out' ≡ out
    pub goes : (held : ℕ → Held) (v : Node) → is_nullable v ≡ nullable → top_of v ≡ node → fit_value held omittable v (rest_of pool rows i) ≡ fit_wire held (wire_of v) node labelled (rest_of pool rows i)

  abbrev pub Opens : Result Opening Refusal → Type 0
  Opens (Ok (Gone p)) = OpensGone (Ok p)
  Opens (Ok (Here labelled)) = OpensHere labelled
  Opens (Err e) = OpensGone (Err e)

-- A value of a key, in any modes that are InlineEverything or not; and a text, where they number the key's literals or not, and put a 00 behind them or not.
pub record WritesValue (how : Pass) (pool rows out w : List ℕ) (core : ℕ) (out' w' : List ℕ) (r : Result Progress Refusal) (a : Answer (List Event × Rest)) : Type 0 where
  pub writes : (modes : ℕ) (held : ℕ → Held) → inline_everything modes ≡ how.inline → Writes how.put modes held pool rows out w core out' w' r a

pub record WritesText (how : Pass) (numbered ended : Bool) (key : ℕ) (pool rows out w : List ℕ) (core : ℕ) (out' w' : List ℕ) (r : Result Progress Refusal) (a : Answer (List Event × Rest)) : Type 0 where
  pub writes : (modes : ℕ) (held : ℕ → Held) → inline_everything modes ≡ how.inline → is_numbered modes (held key) ≡ numbered → is_ended modes (held key).leaf ≡ ended → Writes how.put modes held pool rows out w core out' w' r a

-- what a key holds, from the code's name for it
unfoldable pub leaf_of : code.Leaf → Leaf
leaf_of code.TheVariants.String = string
leaf_of code.TheVariants.Varint = varint
leaf_of code.TheVariants.Float64 = float64
leaf_of code.TheVariants.Bytes = bytes
leaf_of (code.TheVariants.Fixed n) = fixed n

-- of a leaf that holds texts: are they judged?
abbrev pub is_judged : code.Leaf → Bool
is_judged code.TheVariants.String = true
is_judged code.TheVariants.Varint = false
is_judged code.TheVariants.Float64 = false
is_judged code.TheVariants.Bytes = false
is_judged (code.TheVariants.Fixed n) = false
