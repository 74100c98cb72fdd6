-- What a walk begins with: the store is empty, and the blocks wait.
use mathlib.Core.Path.{◌≡◌, refl, sym, ap, ◌∙◌, subst}
use mathlib.Core.Bool.{true, false}
use mathlib.Core.List.{List, []}
use mathlib.Core.Option.{some}
use Prim.Native.Nat.{ℕ, ◌≤◌}
use native.Mathlib.Nat.{sub-zero}
use native.Mathlib.Omega.{arith}
use lib.ListN.{length}
use Rattle.std.specs.Prelude as code
use Rattle.std.specs.Prelude.{Result, Ok, Err}
use Rattle.std.specs.Option.{ok_or}
use Rattle.format.specs.Answer.{ok, refuse, ◌>>=◌}
use Rattle.format.specs.declared.refusal.Refusal.{Refusal}
use Rattle.format.specs.declared.refusal.Refusal.TheVariants.{Pieces}
use Rattle.format.specs.Modes.{inline_everything}
use Rattle.format.specs.Read.{Reading, split, no_literals}
use Rattle.label.specs.declared.cursor.Cursor.{Cursor}
use Rattle.read_pieces.specs.declared.Parts.{Parts}
use Rattle.read_pieces.specs.Chain.{waiting_of, waiting_none}
use Rattle.read_pieces.specs.Pieces.{reading_of, Blocks, no_blocks, parts_of, Stand, Parted}
use Rattle.store.specs.Store.{empty, lookup, rested}
use Rattle.store.specs.Words.{Moved, Cleared}
use Rattle.store.specs.Same.{Same}
use Rattle.store.specs.Keeping.{moved, cleared}
use Rattle.read_literals.specs.Words.{store_of, Changes}
use Rattle.read_literals.specs.Laws.{keeping}
use Rattle.read_leaf.specs.State.{Ready, state_of}
use Rattle.reader.specs.Reader.{start, Begins}

-- what a `?` behind `ok_or` goes on with, and what it hands on
module _ {A : Type 0} (o : code.Option A) (e : Refusal) {r : Result A Refusal} (h : r ≡ ok_or o e) where
  pub or-some : {x : A} → r ≡ Ok x → o ≡ code.Some x
  or-some q = go o (sym h ∙ q)
    where
      go : {x : A} (o : code.Option A) → ok_or o e ≡ Ok x → o ≡ code.Some x
      go (code.Some y) k = cc
      go code.None k = absurd (cc)

  pub or-none : {d : Refusal} → r ≡ Err d → (o ≡ code.None) × (e ≡ d)
  or-none q = go o (sym h ∙ q)
    where
      go : {d : Refusal} (o : code.Option A) → ok_or o e ≡ Err d → (o ≡ code.None) × (e ≡ d)
      go (code.Some y) k = absurd (cc)
      go code.None k = (refl, cc)

start-inline : (m : List ℕ) (modes most : ℕ) → inline_everything modes ≡ true → start m modes most ≡ ok (record { core = record { at = 1; end = length m }; blocks = []; waiting = []; literals = no_literals; rows = most })
unfolding start split ◌>>=◌
start-inline m modes most e = rw e

start-found : (m : List ℕ) (modes most : ℕ) (ps : List Reading) (core : Reading) → inline_everything modes ≡ false → split false m ≡ ok (ps, core)
    → start m modes most ≡ ok (record { core = core; blocks = []; waiting = ps; literals = no_literals; rows = most })
unfolding start ◌>>=◌
start-found m modes most ps core e q = rw (e, q)

start-bad : (m : List ℕ) (modes most : ℕ) → inline_everything modes ≡ false → split false m ≡ refuse 22 0 → start m modes most ≡ refuse 22 0
unfolding start ◌>>=◌
start-bad m modes most e q = rw (e, q)

none_found : {X : Type 0} {x : X} {P : Type 0} (k : ℕ) → lookup k [] ≡ some x → P
unfolding lookup
none_found k e = absurd (let z : ◌≡◌ {A = ℕ} 0 1 = cc in omega arith)

module _ (m w w₁ w₂ : List ℕ) (at end : ℕ) (small : length m ≤ 65536) (whole : 16384 ≤ length w) (z₁ : Cleared 1120 w w₁) (v₂ : Moved w₁ w₂ (rested (record { at = at; end = end }))) where
  -- what the two calls make of the whole store
  d₁ : Changes w w₁ (λ s. empty)
  d₁ = cleared keeping whole z₁

  d₂ : Changes w₁ w₂ (rested (record { at = at; end = end }))
  d₂ = moved keeping d₁.good v₂

  store_is : store_of w₂ ≡ record { slots = []; rest = record { at = at; end = end }; literals = no_literals }
  store_is = d₂.store ∙ ap (rested (record { at = at; end = end })) d₁.store

  ready-begun : Blocks m at end → Ready m w₂
  ready-begun b = record { small = small; good = d₂.good; blocks = rw store_is b; slots = λ k p e. none_found k (rw store_is at e); starts = λ k p l e. none_found k (rw store_is at e) }

  same-begun : Same w w₂
  same-begun = record { at = λ i h. d₂.outside i h ∙ d₁.outside i h }

  state-begun : (most : ℕ) (c : Cursor) → state_of m most w₂ c 0 ≡ record { core = reading_of c; blocks = []; waiting = waiting_of m at end; literals = no_literals; rows = most }
  state-begun most c = rw (store_is, sub-zero most)

module _ (m w w₁ : List ℕ) (modes : ℕ) (small : length m ≤ 65536) (whole : 16384 ≤ length w) (z₁ : Cleared 1120 w w₁) where
  pub begin-inline : {w₂ : List ℕ} → 1 ≤ length m → inline_everything modes ≡ true → Moved w₁ w₂ (rested (record { at = length m; end = length m })) → Begins m modes w w₂ (Ok (record { at = 1; end = length m }))
  begin-inline {w₂} h e v₂ = record {
    is = λ most. ap ok (state-begun m w w₁ w₂ (length m) (length m) small whole z₁ v₂ most (record { at = 1; end = length m }) ∙ rw (waiting_none m (length m))) ∙ sym (start-inline m modes most e);
    stands = (ready-begun m w w₁ w₂ (length m) (length m) small whole z₁ v₂ (no_blocks m), record { ordered = h; inside = omega arith }, same-begun m w w₁ w₂ (length m) (length m) small whole z₁ v₂);
  }

  module _ (z : inline_everything modes ≡ false) (r : code.Option Parts) (x : Parted m r) where
    pub begin-bad : {s : Result Parts Refusal} {e : Refusal} → s ≡ ok_or r Pieces → s ≡ Err e → Begins m modes w w₁ (Err e)
    begin-bad h k = let (q, d) = or-none r Pieces h k in rw (← d) (record { is = λ most. sym (start-bad m modes most z (sym x.is ∙ ap (parts_of m) q)); stands = record { at = λ i h. z₁.below i (omega arith) } })

    pub begin-found : {w₂ : List ℕ} {p : Parts} → r ≡ code.Some p → Moved w₁ w₂ (rested (record { at = p.blocks.at; end = p.blocks.end })) → Begins m modes w w₂ (Ok p.core)
    begin-found {w₂} {p} q v₂ =
        let s : Stand m (code.Some p) = subst (λ (y : code.Option Parts). Stand m y) q x.stand in
        record {
          is = λ most. ap ok (state-begun m w w₁ w₂ p.blocks.at p.blocks.end small whole z₁ v₂ most p.core) ∙ sym (start-found m modes most _ _ z (sym x.is ∙ ap (parts_of m) q));
          stands = (ready-begun m w w₁ w₂ p.blocks.at p.blocks.end small whole z₁ v₂ s.1, s.0, same-begun m w w₁ w₂ p.blocks.at p.blocks.end small whole z₁ v₂);
        }

    -- where the blocks stand fits the store's words
    pub rest-small : {p : Parts} → r ≡ code.Some p → (p.blocks.at ≤ 65536) × (p.blocks.end ≤ 65536)
    rest-small {p} q = let s : Stand m (code.Some p) = subst (λ (y : code.Option Parts). Stand m y) q x.stand in (omega (arith, s.1.ordered, s.1.inside), omega (arith, s.1.inside))
