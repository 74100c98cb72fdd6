-- The loop of `fields`, over values one after another: what holds at each turn, and that it goes on to the whole. Assumes nothing.
use mathlib.Core.Path.{◌≡◌, refl, sym, ap, ◌∙◌, subst}
use mathlib.Core.Bool.{Bool}
use mathlib.Core.List.{List}
use Prim.Native.Nat.{ℕ, suc, ◌+◌, ◌-◌, ◌≤◌}
use native.Mathlib.Omega.{arith}
use lib.ListN.{length}
use Rattle.std.specs.Prelude.{Result, Ok, Err}
use Rattle.format.specs.declared.refusal.Refusal.{Refusal}
use Rattle.format.specs.Table.{node_at, omittable, Node, Fields, field, no_field}
use Rattle.format.specs.Read.{field_count}
use Rattle.format.specs.Write.{fit_all}
use Rattle.laws.specs.Tree.{size, depth, depth_fields, HasFields}
use Rattle.laws.specs.Kinds.{node-top}
use Rattle.store.specs.Words.{word}
use Rattle.store.specs.Same.{Same, same_self, same_then}
use Rattle.wire_types.specs.Typed.{Sized, held_in, IsNode, AreFields, FitsNode, FitFields}
use Rattle.wire_types.specs.Nodes.{node_kept, First, first-of, first-deep}
use Rattle.write_row.specs.declared.Progress.{Progress}
use Rattle.write_bytes.specs.declared.Pass.{Pass}
use Rattle.write_row.specs.Rest.{rest_of}
use Rattle.write_row.specs.Writes.{Holds}
use Rattle.write_row.specs.Laws.{along, done-holds, done-same, seqs, seqs-not}
use Rattle.write_row.specs.Opens.{fit_value}
use Rattle.write_walk.specs.Pass.{Suits, WritesBy, WritesNode, WritesFields}
use Rattle.write_walk.specs.Sequence.{FitSequence, WritesSequence}
use Rattle.write_walk.proofs.Loops.{some-modes, Leads, leads-self, all-some}
use Rattle.write_walk.proofs.Several.{all_one}

module _ (how : Pass) (table pool rows out₀ w₀ : List ℕ) (o₀ : Bool) (left node₀ count i₀ core₀ : ℕ) where
  -- the value at hand and those behind it, of v and vs
  pub record LeftAt (v : Node) (vs : Fields) (out w : List ℕ) (k node : ℕ) (o : Bool) (i core : ℕ) : Type 0 where
    pub first : Node
    pub others : Fields
    pub is : IsNode table w₀ node first
    pub are : AreFields table w₀ (node + size first) others
    pub counted : suc (field_count others) ≡ k
    pub deep : depth v ≤ left → depth_fields vs ≤ left → (depth first ≤ left) × (depth_fields others ≤ left)
    pub leads : (modes : ℕ) → Suits how modes
        → Leads how.put modes (held_in table) pool rows out₀ w₀ core₀ (fit_all (held_in table) (field o₀ v vs) (rest_of pool rows i₀)) out w core (fit_all (held_in table) (field o first others) (rest_of pool rows i))

  pub record SequenceAt (out w : List ℕ) (k node : ℕ) (o : Bool) (i core : ℕ) : Type 0 where
    pub lent : length out ≡ length out₀
    pub worked : length w ≡ length w₀
    pub holds : Holds pool rows w i core
    pub same : Same w₀ w
    pub onward : node₀ ≤ node
    pub some : k ≡ 0 → ⊥
    pub rest : (v : Node) → IsNode table w₀ node₀ v → (vs : Fields) → AreFields table w₀ (node₀ + size v) vs → suc (field_count vs) ≡ count → LeftAt v vs out w k node o i core

  pub sequence-begin : Holds pool rows w₀ i₀ core₀ → FitSequence table w₀ left node₀ count → SequenceAt out₀ w₀ count node₀ o₀ i₀ core₀
  sequence-begin h g = record {
    lent = refl;
    worked = refl;
    holds = h;
    same = same_self w₀;
    onward = omega arith;
    some = g.some;
    rest = λ v a vs b e. record { first = v; others = vs; is = a; are = b; counted = e; deep = λ d₁ d₂. (d₁, d₂); leads = λ modes s. leads-self };
  }

  module _ (out w : List ℕ) (k node : ℕ) (o : Bool) (i core : ℕ) (x : SequenceAt out w k node o i core) (whole : Sized table) where
    module _ (g : FitSequence table w₀ left node₀ count) where
      -- there are such values
      left_at : LeftAt g.first.type g.others.types out w k node o i core
      left_at = x.rest g.first.type g.first.is g.others.types g.others.are (let z = g.some in let e = g.others.counted in omega arith)

      pub sequence-fits : FitsNode table w left node
      sequence-fits =
          let y = left_at in
          record { type = y.first; is = node_kept table w₀ w node y.first whole x.same.at y.is; deep = (y.deep g.first.deep g.others.deep).0; most = g.first.most }

    -- a value of it
    module _ {out₁ w₁ : List ℕ} {r : Result Progress Refusal} (d : WritesNode how table pool rows out w core out₁ w₁ r i node o) where
      module _ {v : Node} {vs : Fields} (y : LeftAt v vs out w k node o i core) where
        value-does : (modes : ℕ) → Suits how modes → WritesBy how table pool rows out w core out₁ w₁ r i modes (fit_value (held_in table) o y.first)
        value-does modes s = d.writes modes s y.first (node_kept table w₀ w node y.first whole x.same.at y.is)

      pub sequence-not : {n : Refusal} → r ≡ Err n → WritesSequence how table pool rows out₀ w₀ core₀ out₁ w₁ (Err n) i₀ node₀ o₀ count
      sequence-not q = record {
        writes = λ modes s v a vs b e.
            let y = x.rest v a vs b e in
            (y.leads modes s).onward (along (all-some (held_in table) o y.first y.others _) (seqs-not _ (fit_all (held_in table) y.others) (value-does y modes s) q));
      }

      -- the last one
      pub sequence-end : k - 1 ≡ 0 → WritesSequence how table pool rows out₀ w₀ core₀ out₁ w₁ r i₀ node₀ o₀ count
      sequence-end z = record {
        writes = λ modes s v a vs b e.
            let y = x.rest v a vs b e in
            let n : field_count y.others ≡ 0 = omega (arith, y.counted) in
            (y.leads modes s).onward (along (all_one (held_in table) o y.first y.others _ n) (value-does y modes s));
      }

      module _ {n : Progress} (g : FitSequence table w₀ left node₀ count) (z : k - 1 ≡ 0 → ⊥) (q : r ≡ Ok n) where
        kept : Holds pool rows w₁ n.row n.core × Same w₀ w₁
        kept =
            let (modes, s) = some-modes how in
            let a = value-does (left_at g) modes s in
            (done-holds a q, same_then x.same (done-same a q))

        module _ {node₁ : ℕ} (e : node₁ ≡ word w₁ node) where
          -- the next one stands where this one ends
          next-node : {v : Node} {vs : Fields} (y : LeftAt v vs out w k node o i core) → node₁ ≡ node + size y.first
          next-node y = e ∙ (node-top _ _ _ _ node y.first (node_kept table w₀ w₁ node y.first whole kept.1.at y.is)).after

          first_next : {v : Node} {vs : Fields} (y : LeftAt v vs out w k node o i core) → First table w₀ node₁ y.others
          first_next y = first-of table w₀ node₁ y.others (subst (λ j. AreFields table w₀ j y.others) (sym (next-node y)) y.are) (λ e. z (omega (arith, y.counted)))

          left-again : {v : Node} {vs : Fields} (y : LeftAt v vs out w k node o i core) → First table w₀ node₁ y.others → LeftAt v vs out₁ w₁ (k - 1) node₁ (omittable (node_at table node₁)) n.row n.core
          left-again y u =
              let b = first-deep u in
              record {
                first = u.first;
                others = u.others;
                is = u.is;
                are = u.are;
                counted = omega (arith, y.counted, b.2);
                deep = λ d₁ d₂. let f = y.deep d₁ d₂ in (omega (arith, b.0), omega (arith, b.1));
                leads = λ modes s. record {
                  onward = λ d₂. (y.leads modes s).onward (along (all-some (held_in table) o y.first y.others _)
                      (seqs _ (fit_all (held_in table) y.others) (value-does y modes s) q (along (ap (λ ws. fit_all (held_in table) ws (rest_of pool rows n.row)) u.splits) d₂)));
                };
              }

          pub sequence-again : {o₁ : Bool} → o₁ ≡ omittable (node_at table node₁) → length out₁ ≡ length out → length w₁ ≡ length w → SequenceAt out₁ w₁ (k - 1) node₁ o₁ n.row n.core
          sequence-again t e₁ e₂ = rw t (record {
            lent = e₁ ∙ x.lent;
            worked = e₂ ∙ x.worked;
            holds = kept.0;
            same = kept.1;
            onward = omega (arith, x.onward, next-node (left_at g));
            some = z;
            rest = λ v a vs b c. let y = x.rest v a vs b c in left-again y (first_next y);
          })

-- ---- one alone, and the fields of a record

module _ {how : Pass} {table pool rows out w out' w' : List ℕ} {core i node : ℕ} {r : Result Progress Refusal} where
  pub alone-writes : {o : Bool} → WritesSequence how table pool rows out w core out' w' r i node o 1 → WritesNode how table pool rows out w core out' w' r i node o
  unfolding HasFields field_count
  alone-writes {o} x = record { writes = λ modes s v h. along (sym (all_one (held_in table) o v no_field _ refl)) (x.writes modes s v h no_field tt refl) }

  pub fields-write : {count : ℕ} → (count ≡ 0 → ⊥) → WritesSequence how table pool rows out w core out' w' r i node (omittable (node_at table node)) count → WritesFields how table pool rows out w core out' w' r i node count
  fields-write z x = record {
    writes = λ modes s ws a e.
        let u = first-of table w node ws a (λ q. z (sym e ∙ q)) in
        along (ap (λ vs. fit_all (held_in table) vs (rest_of pool rows i)) u.splits) (x.writes modes s u.first u.is u.others u.are (omega (arith, (first-deep u).2)));
  }

pub sequence-as : {table w : List ℕ} {left path node count : ℕ} → left ≡ path → FitSequence table w left node count → FitSequence table w path node count
sequence-as e f = rw (← e) f

pub alone-fits : {table w : List ℕ} {left node : ℕ} → FitsNode table w left node → FitSequence table w left node 1
unfolding HasFields field_count depth_fields
alone-fits f = record { some = λ q. omega arith; first = f; others = record { types = no_field; are = tt; counted = refl; deep = omega arith; most = f.most } }

pub fields-sequence : {table w : List ℕ} {left node count : ℕ} → (count ≡ 0 → ⊥) → FitFields table w left node count → FitSequence table w left node count
fields-sequence {table} {w} {left} {node} z f =
    let u = first-of table w node f.types f.are (λ q. z (sym f.counted ∙ q)) in
    let b = first-deep u in
    record {
      some = z;
      first = record { type = u.first; is = u.is; deep = omega (arith, b.0, f.deep); most = f.most };
      others = record { types = u.others; are = u.are; counted = omega (arith, f.counted, b.2); deep = omega (arith, b.1, f.deep); most = f.most };
    }
