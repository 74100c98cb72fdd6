-- Going down: a step into a record of one field or an array of one entry, and one step after another.
use mathlib.Core.Path.{◌≡◌, refl, sym, ap, subst}
use mathlib.Core.Bool.{Bool, true, false}
use mathlib.Core.List.{List, [], ◌∷◌}
use mathlib.Core.Option.{none}
use Prim.Native.Nat.{ℕ, ◌+◌, ◌-◌, ◌*◌, ◌<◌, ◌≤◌}
use native.Mathlib.Omega.{arith}
use lib.Dec.{eqb}
use lib.ListN.{length}
use Rattle.std.specs.Prelude as code
use Rattle.std.specs.Prelude.{Result, Ok, Err}
use Rattle.format.specs.declared.refusal.Refusal.{Refusal}
use Rattle.format.specs.Table.{node_at, NULLABLE}
use Rattle.label.specs.declared.cursor.Cursor.{Cursor}
use Rattle.read_pieces.specs.Pieces.{Inside}
use Rattle.read_leaf.specs.declared.Progress.{Progress}
use Rattle.read_leaf.specs.State.{most_rows, Ready}
use Rattle.read_leaf.specs.Push.{put_of, put_in}
use Rattle.wire_types.specs.Typed.{Sized, FitsNode, FitsWire}
use Rattle.wire_types.specs.Nodes.{node-inside, fits-entry, first_fits}
use Rattle.wire_types.specs.Run.{absent_in}
use Rattle.wire_types.specs.Path.{some_left}
use Rattle.read_walk.specs.declared.opening.Seen.TheVariants.{Here}
use Rattle.read_walk.specs.declared.parent.Parent.{Parent}
use Rattle.read_walk.specs.declared.descent.Holder.{Holder}
use Rattle.read_walk.specs.declared.descent.Descent.{Descent}
use Rattle.read_walk.specs.Walk.{ReadsValue, ReadsWire}
use Rattle.read_walk.specs.Parent.{parent_kind, parent_row, parent_by}
use Rattle.read_walk.specs.Descent.{HoldsOne, Holding, Typed, Comes, Ends, Descends}
use Rattle.read_walk.proofs.Fronts.{open-here}
use Rattle.read_walk.proofs.Steps.{value-here, value-fits, record-fits}
use Rattle.read_walk.proofs.Parents.{made-next, made-core, made-not}
use Rattle.read_walk.proofs.Several.{as_values}

-- ---- one step

not_null : (k : ℕ) (b : Bool) → k ≡ parent_kind b → false ≡ eqb k NULLABLE
not_null k true e = ap (λ j. eqb j NULLABLE) (sym e)
not_null k false e = ap (λ j. eqb j NULLABLE) (sym e)

module _ {table m : List ℕ} {node : ℕ} {c : Cursor} where
  pub holder-is : {h : code.Option Holder} {y : Holder} → Holding table m node c h → h ≡ code.Some y → HoldsOne table m node c y.repeated y.core
  holder-is x q = subst (λ (y : code.Option Holder). Holding table m node c y) q x

  module _ {b : Bool} {next : Cursor} (x : HoldsOne table m node c b next) where
    pub holder-fits : {left : ℕ} {w : List ℕ} → FitsNode table w left node → FitsNode table w (left - 1) (node + 1)
    holder-fits {left} {w} f = go b x.kind x.holds.fields (value-fits table w left node node left false (not_null _ b x.kind) refl refl f)
      where
        go : (y : Bool) → (node_at table node).kind ≡ parent_kind y → (y ≡ false → 1 ≡ (node_at table node).argument) → FitsWire table w left node → FitsNode table w (left - 1) (node + 1)
        go false k a g = first_fits (record-fits table w node left 1 k (a refl) g) (λ z. omega arith)
        go true k a g = fits-entry table w node left g k

    -- no label stands in front of it but its own
    holder-reads : Inside m c → (w w' l l' : List ℕ) (n : ℕ) (r : Result Progress Refusal) (modes : ℕ) → Ready m w → ReadsWire m w w' l l' c n r table modes node node none → ReadsValue m w w' l l' c n r table modes node false
    holder-reads i w w' l l' n r modes ready y =
        value-here table m w l modes node n false false c (Ok (Here code.None, c)) (not_null _ b x.kind) ready (open-here m modes false false c refl i) refl refl refl y

    -- its row
    module _ {l l₁ : List ℕ} {n : ℕ} {p : Result Parent Refusal} (u : p ≡ parent_by (put_of (most_rows (length l)) n) 1 next) where
      pub holder-ends : {e : Refusal} {o : Bool} → Inside m c → o ≡ false → p ≡ Err e → Ends table m l l₁ node o c n e
      holder-ends {e} i z q =
          let f = made-not 1 next (put_of (most_rows (length l)) n) u q in
          rw z (record { refused = λ w modes ready. holder-reads i w w l l₁ n (Err e) modes ready (x.holds.full w l l₁ n modes node e ready f) })

      pub holder-comes : {left : ℕ} {y : Parent} {o o₁ : Bool} → Inside m c → Typed table m left node → 1 ≤ left → o ≡ false → p ≡ Ok y
          → l₁ ≡ put_in (most_rows (length l)) l n (parent_row b ∷ 1 ∷ 0 ∷ node ∷ []) → length l₁ ≡ length l → o₁ ≡ absent_in b (node_at table (node + 1))
          → Comes table m l l₁ left node o c n (left - 1) (node + 1) o₁ y.at.core y.at.rows
      holder-comes {y = y} i t f e q s k z =
          let h = made-next 1 next (put_of (most_rows (length l)) n) u q in
          rw (e, z, made-core 1 next (put_of (most_rows (length l)) n) u q) (record {
            inside = x.holds.inside t.work t.ready;
            below = omega arith;
            path = omega arith;
            fits = λ w g. holder-fits g;
            onward = λ w w' l' r modes ready v. holder-reads i w w' l l' n r modes ready (x.holds.onward w w' l l₁ l' n y.at.rows r modes node ready h s k (as_values b v));
          })

-- ---- one after another

module _ {table m l : List ℕ} {left node n : ℕ} {o : Bool} {c : Cursor} where
  module _ {l₁ : List ℕ} {left₁ node₁ n₁ : ℕ} {o₁ : Bool} {c₁ : Cursor} (x : Comes table m l l₁ left node o c n left₁ node₁ o₁ c₁ n₁) where
    pub comes-then : {l₂ : List ℕ} {left₂ node₂ n₂ : ℕ} {o₂ : Bool} {c₂ : Cursor} → Comes table m l₁ l₂ left₁ node₁ o₁ c₁ n₁ left₂ node₂ o₂ c₂ n₂ → Comes table m l l₂ left node o c n left₂ node₂ o₂ c₂ n₂
    comes-then y = record {
      inside = y.inside;
      below = omega (arith, x.below, y.below);
      path = omega (arith, x.below, y.below, x.path, y.path);
      fits = λ w f. y.fits w (x.fits w f);
      onward = λ w w' l' r modes ready z. x.onward w w' l' r modes ready (y.onward w w' l' r modes ready z);
    }

    pub comes-ends : {l₂ : List ℕ} {e : Refusal} → Ends table m l₁ l₂ node₁ o₁ c₁ n₁ e → Ends table m l l₂ node o c n e
    comes-ends {l₂} {e} y = record { refused = λ w modes ready. x.onward w w l₂ (Err e) modes ready (y.refused w modes ready) }

    pub comes-typed : Typed table m left node → Typed table m left₁ node₁
    comes-typed t = record { work = t.work; ready = t.ready; fits = x.fits t.work t.fits }

-- what a descent has come to
module _ {table m l : List ℕ} (l₁ : List ℕ) {node n : ℕ} (left : ℕ) {o : Bool} {c : Cursor} {d : Result Descent Refusal} (x : Descends table m l l₁ left node o c n d) where
  pub descent-to : {y : Descent} → d ≡ Ok y → Comes table m l l₁ left node o c n y.left y.node y.absent y.at.core y.at.rows
  descent-to q = subst (λ (y : Result Descent Refusal). Descends table m l l₁ left node o c n y) q x

  pub descent-not : {e : Refusal} → d ≡ Err e → Ends table m l l₁ node o c n e
  descent-not q = subst (λ (y : Result Descent Refusal). Descends table m l l₁ left node o c n y) q x

-- what the type says of the place
pub typed-inside : {table m : List ℕ} {left node : ℕ} → Typed table m left node → Sized table → (node < 1024) × (11 + 4 * node ≤ length table) × (1 ≤ left)
typed-inside {table} {m} {left} {node} t whole =
    let (a, b) = node-inside table t.work left node t.fits whole in
    (a, b, some_left table t.work left node t.fits)
