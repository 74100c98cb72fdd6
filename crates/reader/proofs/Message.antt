-- The answers for a whole message, one after another.
use mathlib.Core.Path.{◌≡◌, refl, sym, ap, ◌∙◌, subst}
use mathlib.Core.Bool.{Bool, true, false, and-eq-true_iff}
use mathlib.Core.List.{List, []}
use Prim.Native.Nat.{ℕ, ◌+◌, ◌≤◌}
use native.Mathlib.Omega.{arith}
use lib.Dec.{leb}
use lib.ListN.{length, get_or}
use lib.Seq.{sets}
use borrow.Author.Tests.{leb-true}
use Rattle.std.specs.Prelude as code
use Rattle.std.specs.Prelude.{Result, Ok, Err}
use Rattle.std.specs.Option.{ok_or}
use Rattle.format.specs.Answer.{Answer, ok, refuse, ◌>>=◌, ◌>>◌, need, need_at}
use Rattle.format.specs.Refusal.{answered, refused}
use Rattle.format.specs.declared.refusal.Refusal.{Refusal}
use Rattle.format.specs.declared.refusal.Refusal.TheVariants.{MessageSize, Header, Unused}
use Rattle.format.specs.Modes.{inline_everything, read_header}
use Rattle.format.specs.Row.{Place, Row, words}
use Rattle.format.specs.Read.{Reading, in_message, State, split, no_literals, walk, is_done, read_checked}
use Rattle.laws.specs.Facts.{absurd-ok}
use Rattle.label.specs.declared.cursor.Cursor.{Cursor}
use Rattle.modes.specs.Header.{header_of}
use Rattle.read_pieces.specs.Pieces.{Inside}
use Rattle.store.specs.Same.{Same}
use Rattle.read_leaf.specs.declared.Progress.{Progress}
use Rattle.read_leaf.specs.State.{progress, most_rows, Ready, cursor_of, state_of, Does}
use Rattle.read_leaf.specs.Does.{done-ready, done-inside}
use Rattle.wire_types.specs.Typed.{Sized, held_in, FitsNode, Kept}
use Rattle.wire_types.specs.Nodes.{node_kept}
use Rattle.wire_types.specs.Root.{kept-sized, kept-held, kept-root, kept-fits, kept-still}
use Rattle.read_walk.specs.Walk.{ReadsValue}
use Rattle.read_walk.specs.Opening.{value_at}
use Rattle.reader.proofs.Starts.{or-none}
use Rattle.reader.specs.Reader.{is_sized, rows_of, Gives, start, begun_of, BegunIn, Begins, IsDone}

-- ---- what a step that was done, or refused, says of the definition's answer

-- the rows, and the state at the end
record Ended (m : List ℕ) (most : ℕ) (w l l' : List ℕ) (a : Answer (List (Row Place) × State (in_message m))) (c : Cursor) (n : ℕ) : Type 0 where
  rows : List (Row Place)
  is : a ≡ ok (rows, state_of m most w c n)
  count : n ≡ length rows
  stored : l' ≡ sets l 0 (words rows)
  room : length rows ≤ most

module _ {m : List ℕ} {most : ℕ} {w w' l l' : List ℕ} {r : Result Progress Refusal} where
  does-refused : {e : Refusal} (a : Answer (List (Row Place) × State (in_message m))) → Does m most w w' 0 l l' r a → r ≡ Err e → a ≡ refused e
  does-refused (ok x) d q = absurd-ok (sym (ap answered q) ∙ d.answer)
  does-refused (refuse k i) d q = sym (cc (sym (ap answered q) ∙ d.answer))

  does-same : (a : Answer (List (Row Place) × State (in_message m))) → Does m most w w' 0 l l' r a → Same w w'
  does-same (ok x) d = d.left.1.same
  does-same (refuse k i) d = d.left.1

  does-ended : {p : Progress} (a : Answer (List (Row Place) × State (in_message m))) → Does m most w w' 0 l l' r a → r ≡ Ok p → Ended m most w' l l' a p.core p.rows
  does-ended (refuse k i) d q = absurd-ok (sym d.answer ∙ ap answered q)
  does-ended {p} (ok x) d q =
      let p₁ : Progress = progress (cursor_of x.1.core) (0 + length x.0) in
      let e : p ≡ p₁ = cc (sym (ap answered q) ∙ d.answer) in
      let e₁ : p.core ≡ cursor_of x.1.core = ap (λ (y : Progress). y.core) e in
      let e₂ : p.rows ≡ 0 + length x.0 = ap (λ (y : Progress). y.rows) e in
      let s : state_of m most w' p.core p.rows ≡ x.1 = rw (e₁, e₂) d.left.1.state in
      record { rows = x.0; is = rw s; count = omega arith; stored = d.left.0; room = omega (arith, d.left.2 (omega arith)) }

-- ---- the definition's chain

-- «then 30»
finish : {m : List ℕ} → List (Row Place) × State (in_message m) → Answer (List (Row Place))
finish {m} p = need (is_done (in_message m) p.1) 30 >> ok p.0

module _ (table m w l : List ℕ) (k : Kept table w) where
  abbrev most : ℕ
  most = most_rows (length l)

  abbrev answer : Answer (List (Row Place))
  answer = rows_of table m (length l)

  answer-is : answer ≡ read_checked k.schema m (length l)
  unfolding rows_of ◌>>=◌
  answer-is = rw k.checks

  start-then : (modes : ℕ) {X : Type 0} (f : State (in_message m) → Answer X) → (split (inline_everything modes) m >>= (λ p. f (record { core = p.1; blocks = []; waiting = p.0; literals = no_literals; rows = most }))) ≡ (start m modes most >>= f)
  unfolding start ◌>>=◌
  start-then modes {X} f = go (split (inline_everything modes) m)
    where
      go : (a : Answer (List Reading × Reading)) → (a >>= (λ p. f (record { core = p.1; blocks = []; waiting = p.0; literals = no_literals; rows = most })))
          ≡ (a >>= (λ p. ok (record { core = p.1; blocks = []; waiting = p.0; literals = no_literals; rows = most })) >>= f)
      go (ok p) = refl
      go (refuse e i) = refl

  pub rows-20 : (b : Bool) → b ≡ is_sized m → b ≡ false → Gives table l l w (Err MessageSize) answer
  unfolding read_checked is_sized need_at ◌>>◌
  rows-20 b e q = (answer-is ∙ rw (sym e ∙ q) refl, k)

  -- the bytes are as many as there may be
  module _ (b : Bool) (e₁ : b ≡ is_sized m) (q₁ : b ≡ true) where
    pub sized-is : (1 ≤ length m) × (length m ≤ 65536)
    unfolding is_sized
    sized-is = let p = (and-eq-true_iff (leb 1 (length m)) (leb (length m) 65536)).0 (sym e₁ ∙ q₁) in (leb-true _ _ p.0, leb-true _ _ p.1)

    module _ (h : code.Option ℕ) (e₂ : header_of h ≡ read_header (get_or m 0 0)) where
      pub rows-21 : {s : Result ℕ Refusal} {e : Refusal} → s ≡ ok_or h Header → s ≡ Err e → Gives table l l w (Err e) answer
      unfolding read_checked is_sized need_at ◌>>◌ ◌>>=◌
      rows-21 z k₁ =
          let (q, d) = or-none h Header z k₁ in
          rw (← d) (answer-is ∙ rw (sym e₁ ∙ q₁, sym e₂ ∙ ap header_of q) refl, k)

      module _ {modes : ℕ} (q₂ : h ≡ code.Some modes) where
        from_start : answer ≡ (start m modes most >>= (λ s. walk (in_message m) modes k.schema.held k.schema.root s >>= finish))
        unfolding read_checked is_sized need_at finish ◌>>◌ ◌>>=◌
        from_start = answer-is ∙ rw (sym e₁ ∙ q₁, sym e₂ ∙ ap header_of q₂) (start-then modes (λ s. walk (in_message m) modes k.schema.held k.schema.root s >>= finish))

        module _ {w₁ : List ℕ} (y : Result Cursor Refusal) (x : Begins m modes w w₁ y) (n₁ : length w₁ ≡ length w) where
          pub rows-22 : {e : Refusal} → y ≡ Err e → Gives table l l w₁ (Err e) answer
          unfolding ◌>>=◌
          rows-22 q =
              let s : Same w w₁ = subst (BegunIn m w w₁) q x.stands in
              (from_start ∙ rw (sym (x.is most) ∙ ap (begun_of m most w₁) q) refl, kept-still k (omega (arith, n₁, k.whole)) s.at)

          -- the walk from the root
          module _ {core : Cursor} (q₃ : y ≡ Ok core) where
            begun-in : Ready m w₁ × Inside m core × Same w w₁
            begun-in = subst (BegunIn m w w₁) q₃ x.stands

            kept : Kept table w₁
            kept = kept-still k (omega (arith, n₁, k.whole)) begun-in.2.at

            pub root-ready : Ready m w₁ × Inside m core × Sized table × FitsNode table w₁ 32 0
            root-ready = (begun-in.0, begun-in.1, kept-sized kept, kept-fits kept)

            from-root : answer ≡ (value_at m modes (held_in table) false k.schema.root (state_of m most w₁ core 0) >>= finish)
            unfolding walk ◌>>=◌
            from-root = from_start ∙ rw (sym (x.is most) ∙ ap (begun_of m most w₁) q₃)
                (ap (λ held. walk (in_message m) modes held k.schema.root (state_of m most w₁ core 0) >>= finish) (kept-held k))

            module _ {w₂ l₂ : List ℕ} (r : Result Progress Refusal) (v : ReadsValue m w₁ w₂ l l₂ core 0 r table modes 0 false) (n₂ : length w₂ ≡ length w₁) where
              root_does : Does m most w₁ w₂ 0 l l₂ r (value_at m modes (held_in table) false k.schema.root (state_of m most w₁ core 0))
              root_does = v.does k.schema.root (node_kept table w w₁ 0 k.schema.root (kept-sized k) begun-in.2.at (kept-root k))

              kept_then : Kept table w₂
              kept_then = kept-still kept (omega (arith, n₂, kept.whole)) (does-same _ root_does).at

              pub rows-gone : {e : Refusal} → r ≡ Err e → Gives table l l₂ w₂ (Err e) answer
              unfolding ◌>>=◌
              rows-gone q = (from-root ∙ rw (does-refused _ root_does q) refl, kept_then)

              module _ {end : Progress} (q₄ : r ≡ Ok end) where
                ended : Ended m most w₂ l l₂ (value_at m modes (held_in table) false k.schema.root (state_of m most w₁ core 0)) end.core end.rows
                ended = does-ended _ root_does q₄

                pub end-ready : Ready m w₂
                end-ready = done-ready _ root_does q₄

                module _ (d : Bool) (z : IsDone w₂ end.core d) where
                  told : is_done (in_message m) (state_of m most w₂ end.core end.rows) ≡ d
                  told = z.is m most end.rows end-ready (done-inside _ root_does q₄)

                  pub rows-30 : d ≡ false → Gives table l l₂ w₂ (Err Unused) answer
                  unfolding finish need_at ◌>>◌ ◌>>=◌
                  rows-30 q = (from-root ∙ rw (ended.is, told ∙ q) refl, kept_then)

                  pub rows_are : d ≡ true → Gives table l l₂ w₂ (Ok end.rows) answer
                  unfolding finish need_at ◌>>◌ ◌>>=◌
                  rows_are q = (
                    ended.rows,
                    from-root ∙ rw (ended.is, told ∙ q) refl,
                    ended.count,
                    ended.stored,
                    omega (arith, ended.room),
                    kept_then,
                  )
