-- The loop of `values` is the loop over entries or the one over fields, and each law here goes by which of the two.
use mathlib.Core.Path.{◌≡◌, refl, sym, ap, ◌∙◌, subst, subst₂}
use mathlib.Core.Bool.{Bool, true, false}
use mathlib.Core.List.{List, [], ◌++◌, append-nil}
use Prim.Native.Nat.{ℕ, ◌+◌, ◌-◌, ◌≤◌}
use native.Mathlib.Omega.{arith}
use lib.ListN.{length}
use Rattle.std.specs.Prelude.{Result, Ok, Err}
use Rattle.format.specs.Answer.{Answer, ok, refuse, ◌>>=◌}
use Rattle.format.specs.declared.refusal.Refusal.{Refusal}
use Rattle.format.specs.Table.{node_at, omittable, Node, Fields, field, Held}
use Rattle.format.specs.Read.{field_count}
use Rattle.format.specs.Write.{Event, Rest, Fit, fit_entries, fit_all}
use Rattle.laws.specs.Facts.{by_bool}
use Rattle.wire_types.specs.Typed.{Sized, held_in, FitsNode, FitsWire}
use Rattle.wire_types.specs.Nodes.{fits_kept, first-of, first-deep}
use Rattle.wire_types.specs.Run.{FitRun, absent_in, next_in, absent-is, next-is, fields_fit, entry-fits}
use Rattle.write_row.specs.declared.Progress.{Progress}
use Rattle.write_bytes.specs.declared.Pass.{Pass}
use Rattle.write_row.specs.Rest.{rest_of}
use Rattle.write_row.specs.Writes.{done, Holds}
use Rattle.write_row.specs.Laws.{along}
use Rattle.write_row.specs.Opens.{fit_value}
use Rattle.write_walk.specs.Own.{IsHolder}
use Rattle.write_walk.specs.Pass.{WritesNode, WritesFields, WritesEntries, WritesValues}
use Rattle.write_walk.proofs.Loops.{node-as, all_none, all-some, EntriesAt, entries-begin, entries-not, entries-again, entries-end, FieldsAt, fields-begin, fields-fits, fields-not, fields-again, fields-end}

pub record ValuesAt (how : Pass) (table pool rows out₀ w₀ : List ℕ) (node₀ : ℕ) (repeated : Bool) (count i₀ core₀ : ℕ) (out w : List ℕ) (k node i core : ℕ) : Type 0 where
  pub lent : length out ≡ length out₀
  pub worked : length w ≡ length w₀
  pub holds : Holds pool rows w i core
  pub onward : node₀ ≤ node
  pub stays : repeated ≡ true → node ≡ node₀
  pub entries : repeated ≡ true → EntriesAt how table pool rows out₀ w₀ node₀ count i₀ core₀ out w k i core
  pub fields : repeated ≡ false → FieldsAt how table pool rows out₀ w₀ node₀ count i₀ core₀ out w k node i core

module _ (how : Pass) (table pool rows out₀ w₀ : List ℕ) (node₀ : ℕ) (repeated : Bool) (count i₀ core₀ : ℕ) where
  pub values-begin : Holds pool rows w₀ i₀ core₀ → ValuesAt how table pool rows out₀ w₀ node₀ repeated count i₀ core₀ out₀ w₀ count node₀ i₀ core₀
  values-begin h = record {
    lent = refl;
    worked = refl;
    holds = h;
    onward = omega arith;
    stays = λ e. refl;
    entries = λ e. entries-begin how table pool rows out₀ w₀ node₀ count i₀ core₀ h;
    fields = λ e. fields-begin how table pool rows out₀ w₀ node₀ count i₀ core₀ h;
  }

  module _ (out w : List ℕ) (k node i core : ℕ) (x : ValuesAt how table pool rows out₀ w₀ node₀ repeated count i₀ core₀ out w k node i core) (whole : Sized table) where
    pub values-fits : {left : ℕ} → FitRun table w₀ left node₀ repeated count → (k ≡ 0 → ⊥) → FitsNode table w left node
    values-fits {left} g z =
        by_bool repeated
        (λ e. subst (λ j. FitsNode table w left j) (sym (x.stays e)) (fits_kept whole (x.entries e).same.at (g.entries e)))
        (λ e. fields-fits how table pool rows out₀ w₀ node₀ count i₀ core₀ out w k node i core (x.fields e) whole (g.fields e) z)

    -- a value of it
    module _ {out₁ w₁ : List ℕ} {r : Result Progress Refusal} {o : Bool} (z : k ≡ 0 → ⊥) (t : o ≡ absent_in repeated (node_at table node)) (y : WritesNode how table pool rows out w core out₁ w₁ r i node o) where
      entry : repeated ≡ true → WritesNode how table pool rows out w core out₁ w₁ r i node₀ false
      entry e = subst₂ (λ (j : ℕ) (b : Bool). WritesNode how table pool rows out w core out₁ w₁ r i j b) (x.stays e) (absent-is e (node_at table node) t) y

      pub values-not : {n : Refusal} → r ≡ Err n → WritesValues how table pool rows out₀ w₀ core₀ out₁ w₁ (Err n) i₀ node₀ repeated count
      values-not q = record {
        entries = λ e. entries-not how table pool rows out₀ w₀ node₀ count i₀ core₀ out w k i core (x.entries e) whole z (entry e) q;
        fields = λ e. fields-not how table pool rows out₀ w₀ node₀ count i₀ core₀ out w k node i core (x.fields e) whole (node-as (absent-is e (node_at table node) t) y) z q;
      }

      pub values-again : {left next : ℕ} {n : Progress} → FitRun table w₀ left node₀ repeated count → next ≡ next_in repeated node w → length out₁ ≡ length out → length w₁ ≡ length w → r ≡ Ok n
          → ValuesAt how table pool rows out₀ w₀ node₀ repeated count i₀ core₀ out₁ w₁ (k - 1) next n.row n.core
      values-again {left} {next} {n} g b e₁ e₂ q =
          let es : repeated ≡ true → EntriesAt how table pool rows out₀ w₀ node₀ count i₀ core₀ out₁ w₁ (k - 1) n.row n.core = λ e. entries-again how table pool rows out₀ w₀ node₀ count i₀ core₀ out w k i core (x.entries e) whole (g.entries e) z e₁ e₂ (entry e) q in
          let fs : repeated ≡ false → FieldsAt how table pool rows out₀ w₀ node₀ count i₀ core₀ out₁ w₁ (k - 1) next n.row n.core = λ e. fields-again how table pool rows out₀ w₀ node₀ count i₀ core₀ out w k node i core (x.fields e) whole (node-as (absent-is e (node_at table node) t) y) (g.fields e) z q (next-is e node w b) e₁ e₂ in
          record {
            lent = e₁ ∙ x.lent;
            worked = e₂ ∙ x.worked;
            holds = by_bool repeated (λ e. (es e).holds) (λ e. (fs e).holds);
            onward = by_bool repeated (λ e. omega (arith, next-is e node w b ∙ x.stays e)) (λ e. (fs e).onward);
            stays = λ e. next-is e node w b ∙ x.stays e;
            entries = es;
            fields = fs;
          }

    pub values-end : k ≡ 0 → WritesValues how table pool rows out₀ w₀ core₀ out w (done i core) i₀ node₀ repeated count
    values-end z = record {
      entries = λ e. entries-end how table pool rows out₀ w₀ node₀ count i₀ core₀ out w k i core (x.entries e) whole z;
      fields = λ e. fields-end how table pool rows out₀ w₀ node₀ count i₀ core₀ out w k node i core (x.fields e) whole z;
    }

-- ---- none, and one

pub no_fields : (how : Pass) (table pool rows out w : List ℕ) (node count i core : ℕ) → Holds pool rows w i core → Sized table → count ≡ 0 → WritesFields how table pool rows out w core out w (done i core) i node count
no_fields how table pool rows out w node count i core h whole z = fields-end how table pool rows out w node count i core out w count node i core (fields-begin how table pool rows out w node count i core h) whole z

-- a value, and nothing after it
alone : (a : Answer (List Event × Rest)) → (a >>= (λ x. ok (x.0 ++ [], x.1))) ≡ a
unfolding ◌>>=◌
alone (ok x) = ap (λ es. ok (es, x.1)) (append-nil x.0)
alone (refuse i j) = refl

entries-one : (f : Fit) (r : Rest) → fit_entries 1 f r ≡ f r
unfolding fit_entries ◌>>=◌
entries-one f r = alone (f r)

pub all_one : (held : ℕ → Held) (o : Bool) (v : Node) (vs : Fields) (r : Rest) → field_count vs ≡ 0 → fit_all held (field o v vs) r ≡ fit_value held o v r
unfolding ◌>>=◌
all_one held o v vs r z =
    let n : (t : Rest) → fit_all held vs t ≡ ok ([], t) = λ t. all_none held vs t z in
    all-some held o v vs r ∙ simp n (alone (fit_value held o v r))

module _ {how : Pass} {table pool rows out w out' w' : List ℕ} {core i node : ℕ} {r : Result Progress Refusal} where
  pub one_entry : WritesValues how table pool rows out w core out' w' r i node true 1 → WritesNode how table pool rows out w core out' w' r i node false
  one_entry x = record { writes = λ modes s v h. along (sym (entries-one _ _)) ((x.entries refl).writes modes s v h) }

  pub entry-alone : WritesNode how table pool rows out w core out' w' r i node false → WritesEntries how table pool rows out w core out' w' r i node 1
  entry-alone x = record { writes = λ modes s v h. along (entries-one _ _) (x.writes modes s v h) }

  pub field-alone : WritesNode how table pool rows out w core out' w' r i node (omittable (node_at table node)) → WritesFields how table pool rows out w core out' w' r i node 1
  field-alone x = record {
    writes = λ modes s ws a e.
        let u = first-of table w node ws a (λ q. omega arith) in
        let z : field_count u.others ≡ 0 = omega (arith, (first-deep u).2) in
        along (ap (λ vs. fit_all (held_in table) vs (rest_of pool rows i)) u.splits ∙ all_one (held_in table) _ u.first u.others _ z) (x.writes modes s u.first u.is);
  }

-- ---- what a record or an array holds

pub holds-run : {table w : List ℕ} {left node count : ℕ} (array : Bool) → IsHolder table node array → (array ≡ false → count ≡ (node_at table node).argument) → FitsWire table w left node → FitRun table w (left - 1) (node + 1) array count
holds-run {table} {w} {left} {node} true k c f = entry-fits table w left node k f
holds-run {table} {w} {left} {node} false k c f = fields_fit table w left node k (c refl) f
