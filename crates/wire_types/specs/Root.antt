-- What is known of a checked table at its root, and that the check leaves the work so.
use Rattle.std.specs.Prelude.{◌≡◌, refl, List, ℕ, ◌+◌, ◌<◌, ◌≤◌, eqb, length}
use Rattle.std.proofs.Common.{◌∙◌, subst, subst₂, arith}
use Rattle.format.specs.Answer.{Answer, ok, ◌>>=◌, need, number}
use Rattle.format.specs.Table.{u16, node_at, right_alone, each, tree, agrees, is_marked, right_count, Held, Schema, schema_of, check}
use Rattle.laws.specs.Facts.{ok_same, bind-elim, then-elim}
use Rattle.laws.specs.Tree.{depth, Ends, Has}
use Rattle.table.specs.Passes.{Leaves}
use Rattle.laws.specs.Built.{length-ends}
use Rattle.laws.specs.Checked.{Checked, checked, check-accepts}
use Rattle.laws.specs.Refusals.{by-ok, numbered-check}
use Rattle.store.specs.Words.{word}
use Rattle.wire_types.specs.Typed.{Sized, held_in, IsNode, FitsNode, Kept}

held_of : (table : List ℕ) (s : Schema) → schema_of table ≡ ok s → s.held ≡ held_in table
unfolding schema_of
held_of table s e =
    then-elim (need (is_marked table) 10) _ e λ a₁ e₁.
    then-elim (need (eqb (u16 table 3) 1) 11) _ e₁ λ a₂ e₂.
    then-elim (need (right_count (u16 table 5) (length table)) 12) _ e₂ λ a₃ e₃.
    then-elim (each (u16 table 5) (λ i. right_alone (node_at table i)) 13) _ e₃ λ a₄ e₄.
    bind-elim (tree (u16 table 5) (node_at table)) _ e₄ λ w a₅ e₅.
    then-elim (each (u16 table 5) (λ i. agrees (u16 table 5) (node_at table) i) 15) _ e₅ λ a₆ e₆.
    rw (← ok_same e₆) refl

module _ {table work : List ℕ} (k : Kept table work) where
  right : Checked table k.schema
  right = checked table k.schema k.checks

  pub kept-sized : Sized table
  kept-sized = record { most = omega (arith, right.counted, right.most); whole = omega (arith, right.counted, right.whole) }

  pub kept-held : k.schema.held ≡ held_in table
  kept-held = held_of table k.schema k.checks

  pub kept-deep : depth k.schema.root ≤ 32
  kept-deep = right.deep

  pub kept-root : IsNode table work 0 k.schema.root
  kept-root = subst₂ (λ (n : ℕ) (held : ℕ → Held). Has n (node_at table) (λ i. word work i) held 0 k.schema.root) right.counted kept-held (right.has (λ i. word work i) k.keeps)

  pub kept-fits : FitsNode table work 32 0
  kept-fits = record { type = k.schema.root; is = kept-root; deep = kept-deep; most = omega arith }

  -- while the words of the nodes stay
  pub kept-still : {work' : List ℕ} → 16384 ≤ length work' → ((i : ℕ) → i < 1024 → word work' i ≡ word work i) → Kept table work'
  unfolding Ends
  kept-still h e = record {
    schema = k.schema;
    checks = k.checks;
    whole = h;
    keeps = λ i b. e (0 + i) (omega (arith, length-ends 0 k.schema.root, right.sized, right.most)) ∙ k.keeps i b;
  }

-- the check answers 0
module _ (table : List ℕ) (lent : ℕ) (e : number (check lent table) ≡ 0) where
  pub check-keeps : {work : List ℕ} → length work ≡ lent → Leaves work lent (check lent table) → Kept table work
  check-keeps {work} h d = by-ok (check lent table) (numbered-check lent table) e (λ s q.
      let a = check-accepts lent table s q in
      record { schema = s; checks = a.1; whole = rw h a.0; keeps = subst (λ (m : Answer Schema). Leaves work lent m) q d })

  -- what follows it then
  pub check-then : {X : Type 0} (f : Schema → Answer X) → (schema_of table >>= f) ≡ (check lent table >>= f)
  unfolding ◌>>=◌
  check-then f = by-ok (check lent table) (numbered-check lent table) e (λ s q. rw (q, (check-accepts lent table s q).1) refl)
