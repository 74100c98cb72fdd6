-- The passes one after another: what each leaves of the check, and the work in the end.
use mathlib.Core.Path.{◌≡◌, refl, sym, ap, ◌∙◌, subst}
use mathlib.Core.Bool.{true}
use mathlib.Core.List.{List}
use Rattle.std.specs.Prelude.{Result, Ok, Err}
use Prim.Native.Nat.{ℕ, ◌+◌, ◌*◌, ◌<◌, ◌≤◌}
use native.Mathlib.Nat.{zero-add}
use native.Mathlib.Omega.{arith}
use lib.Dec.{eqb}
use lib.ListN.{length, get_or, get_or-append}
use lib.Seq.{sets, sets-eq}
use borrow.Author.Tests.{le-leb, lt-leb}
use Rattle.format.specs.Answer.{Answer, ok, refuse, ◌>>=◌, ◌>>◌, need, need_at, zeros}
use Rattle.format.specs.Table.{u16, node_at, at_root, Node, Schema, is_marked, right_count, right_alone, each, tree, agrees, schema_of, check}
use Rattle.laws.specs.Facts.{then-elim, need-true, ok_same}
use Rattle.laws.specs.Tree.{ends, Ends}
use Rattle.laws.specs.Built.{Built, few-keys, length-ends}
use Rattle.laws.specs.Checked.{count-right, alone_at, tree_is}
use Rattle.format.specs.Refusal.{refused, answered}
use Rattle.format.specs.declared.refusal.Refusal.{Refusal}
use Rattle.format.specs.declared.refusal.Refusal.TheVariants.{WorkShort}
use Rattle.table.specs.Answers.{mapped, answers-ok, answers-err, passed, stopped}
use Rattle.table.specs.Passes.{header_of, schema_from, Planted, StoredTree, Kept, StoredSchema, Leaves, Whole, Beside}
use Rattle.table.proofs.Trees.{bind_ok, bind-refuse, then_ok}

then-assoc : {A B : Type 0} (m : Answer (Unit {0})) (k : Answer A) (f : A → Answer B) → ((m >> k) >>= f) ≡ (m >> (k >>= f))
unfolding ◌>>◌ ◌>>=◌
then-assoc (ok u) k f = refl
then-assoc (refuse x y) k f = refl

-- ---- the words that are left

ends-stored : (before work work' es : List ℕ) → length es ≤ 1024 → 1024 ≤ length before → work ≡ sets before 0 es → Beside work work' → Ends (λ i. get_or work' i 0) 0 es
unfolding Ends
ends-stored before work work' es h s e b = λ k l. rw zero-add (b.low k (omega arith) ∙ ap (λ (x : List ℕ). get_or x k 0) (e ∙ sets-eq es before 0 (omega arith)) ∙ get_or-append es _ 0 k l)

module _ (t : List ℕ) where
  schema-is : schema_of t ≡ (header_of t >>= (λ n. schema_from n (node_at t)))
  unfolding schema_of header_of schema_from ◌>>=◌
  schema-is = sym (then-assoc _ _ _ ∙ ap (λ (m : Answer Schema). need (is_marked t) 10 >> m) (then-assoc _ _ _ ∙ ap (λ (m : Answer Schema). need (eqb (u16 t 3) 1) 11 >> m) (then-assoc _ _ _)))

  refuses : {work : List ℕ} {e : Refusal} → schema_of t ≡ refused e → Kept work (Err e) (schema_of t)
  refuses q = rw q (record { answer = refl; stored = tt })

  -- ---- 10 to 12

  header-right : (n : ℕ) → header_of t ≡ ok n → (n ≡ u16 t 5) × (right_count n (length t) ≡ true)
  unfolding header_of
  header-right n e =
      then-elim (need (is_marked t) 10) _ e λ a₁ e₁.
      then-elim (need (eqb (u16 t 3) 1) 11) _ e₁ λ a₂ e₂.
      then-elim (need (right_count (u16 t 5) (length t)) 12) _ e₂ λ a₃ e₃.
      (sym (ok_same e₃), rw (← ok_same e₃) (need-true _ 12 0 a₃))

  module _ {first : Result ℕ Refusal} (h : answered first ≡ header_of t) where
    pub header-refuses : {work : List ℕ} {e : Refusal} → first ≡ Err e → Kept work (Err e) (schema_of t)
    header-refuses q = refuses (schema-is ∙ bind-refuse (stopped h q) _)

    module _ {n : ℕ} (q : first ≡ Ok n) where
      header_is : header_of t ≡ ok n
      header_is = passed h q

      schema-nodes : schema_of t ≡ schema_from n (node_at t)
      schema-nodes = schema-is ∙ bind_ok header_is _

      pub count-is : (1 ≤ n) × (n ≤ 1024) × (length t ≡ 7 + 4 * n)
      count-is = count-right t n (header-right n header_is).1

      -- ---- 13

      module _ {second : Result (Unit {0}) Refusal} (h₂ : answered second ≡ each n (λ i. right_alone (node_at t i)) 13) where
        pub alone-refuses : {work : List ℕ} {e : Refusal} → second ≡ Err e → Kept work (Err e) (schema_of t)
        unfolding schema_from ◌>>◌
        alone-refuses p = refuses (schema-nodes ∙ simp (stopped h₂ p))

        module _ {u : Unit {0}} (p : second ≡ Ok u) where
          alone-is : each n (λ i. right_alone (node_at t i)) 13 ≡ ok tt
          alone-is = passed h₂ p

          -- ---- 14

          module _ {before work : List ℕ} {third : Result (Unit {0}) Refusal} (d : Planted before work third (tree n (node_at t))) where
            pub tree-refuses : {work' : List ℕ} {e : Refusal} → third ≡ Err e → Kept work' (Err e) (schema_of t)
            unfolding schema_from
            tree-refuses s = refuses (schema-nodes ∙ then_ok alone-is _ ∙ bind-refuse (answers-err _ _ d.answer s) _)

            module _ {v : Unit {0}} (s : third ≡ Ok v) where
              planted : {P : Type 0} → ((w : Node) → tree n (node_at t) ≡ ok w → Built n (node_at t) 32 at_root 0 n w → work ≡ sets before 0 (ends 0 w) → P) → P
              planted f = answers-ok _ _ d.answer s λ w e u.
                  f w e (tree_is t n (header-right n header_is).1 alone-is w e) (subst (λ (x : Answer Node). StoredTree before work x) e d.stored)

              pub keys-may : Whole t n
              keys-may = planted λ w e b q.
                  let c = count-is in
                  record {
                    inside = omega arith;
                    most = c.1;
                    keys = λ i h k. few-keys (node_at t i) (alone_at t n (header-right n header_is).1 alone-is i h) k;
                    child = λ i h k. b.blocks i (omega arith) h k;
                  }

              -- ---- 15

              module _ {r : Result (Unit {0}) Refusal} {work' : List ℕ} (h₄ : answered r ≡ each n (λ i. agrees n (node_at t) i) 15) where
                pub keys-refuse : {e : Refusal} → r ≡ Err e → Kept work' (Err e) (schema_of t)
                unfolding schema_from ◌>>◌
                keys-refuse p = planted λ w e b q. refuses (schema-nodes ∙ then_ok alone-is _ ∙ bind_ok e _ ∙ simp (stopped h₄ p))

                pub all-kept : {x : Unit {0}} → r ≡ Ok x → Beside work work' → 16384 ≤ length before → Kept work' (Ok n) (schema_of t)
                unfolding schema_from
                all-kept p g l = planted λ w e b q.
                    let m = ends-stored before work work' (ends 0 w) (omega (arith, length-ends 0 w, b.past, count-is)) (omega arith) q g in
                    rw (schema-nodes ∙ then_ok alone-is _ ∙ bind_ok e _ ∙ then_ok (passed h₄ p) _) (record { answer = refl; stored = m })

-- ---- the answers of the check

-- the answer, and the words
pub record Answered (r : Result ℕ Refusal) (work : List ℕ) (lent : ℕ) (t : List ℕ) : Type 0 where
  pub answer : answered r ≡ mapped (λ s. s.count) (check lent t)
  pub leaves : Leaves work lent (check lent t)

module _ (t : List ℕ) (lent : ℕ) where
  refused-by : {e : Refusal} {work : List ℕ} → check lent t ≡ refused e → work ≡ zeros lent → Answered (Err e) work lent t
  refused-by {e} {work} q z = record { answer = sym (ap (mapped (λ s. s.count)) q); leaves = subst (λ (m : Answer Schema). Leaves work lent m) (sym q) z }

  pub short : {work : List ℕ} → lent < 16384 → work ≡ zeros lent → Answered (Err WorkShort) work lent t
  unfolding check need_at ◌>>◌
  short h z = refused-by (simp (lt-leb _ _ h)) z

  module _ {work : List ℕ} {r : Result ℕ Refusal} (h : 16384 ≤ lent) (d : Kept work r (schema_of t)) where
    check-is : check lent t ≡ schema_of t
    unfolding check need_at ◌>>◌
    check-is = simp (le-leb _ _ h)

    pub refuses-all : {e : Refusal} {work' : List ℕ} → r ≡ Err e → work' ≡ zeros lent → Answered (Err e) work' lent t
    refuses-all q z = refused-by (check-is ∙ answers-err _ _ d.answer q) z

    pub accepts : {n : ℕ} → r ≡ Ok n → Answered (Ok n) work lent t
    accepts q = answers-ok _ _ d.answer q λ s e u.
        let b : check lent t ≡ ok s = check-is ∙ e in
        record { answer = ap ok (sym u) ∙ sym (ap (mapped (λ (x : Schema). x.count)) b); leaves = subst (λ (m : Answer Schema). Leaves work lent m) (sym b) (subst (λ (m : Answer Schema). StoredSchema work m) e d.stored) }
