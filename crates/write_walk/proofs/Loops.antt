-- The loops over fields and over entries: what holds at each turn, and that it goes on to the whole. Assumes nothing.
use mathlib.Core.Path.{◌≡◌, refl, sym, ap, ◌∙◌, subst}
use mathlib.Core.Bool.{Bool, true, false, not}
use mathlib.Core.List.{List, []}
use Prim.Native.Nat.{ℕ, zero, suc, ◌+◌, ◌-◌, ◌≤◌}
use native.Mathlib.Numerals.{sub-one}
use native.Mathlib.Omega.{arith}
use lib.ListN.{length}
use Rattle.std.specs.Prelude.{Result, Ok, Err}
use Rattle.format.specs.Answer.{Answer, ok, ◌>>=◌}
use Rattle.format.specs.declared.refusal.Refusal.{Refusal}
use Rattle.format.specs.Modes.{has, inline_everything, null_terminated_strings, no_deduplication}
use Rattle.format.specs.Table.{node_at, omittable, Node, Fields, field, Held}
use Rattle.format.specs.Read.{field_count}
use Rattle.format.specs.Write.{Event, Rest, Fit, fit_entries, fit_all}
use Rattle.laws.specs.Tree.{size, depth_fields}
use Rattle.laws.specs.Kinds.{node-top, by-no-field}
use Rattle.store.specs.Words.{word}
use Rattle.store.specs.Same.{Same, same_self, same_then}
use Rattle.wire_types.specs.Typed.{Sized, held_in, IsNode, AreFields, FitsNode, FitFields}
use Rattle.wire_types.specs.Nodes.{node_kept, fits_kept, First, first-of, first-deep, first_fits}
use Rattle.write_row.specs.declared.Progress.{Progress}
use Rattle.write_bytes.specs.declared.Pass.{Pass}
use Rattle.write_row.specs.Rest.{rest_of}
use Rattle.write_row.specs.Writes.{done, Holds, Writes}
use Rattle.write_row.specs.Laws.{joined, along, ends, done-holds, done-same, seqs, seqs-not}
use Rattle.write_row.specs.Opens.{fit_value}
use Rattle.write_walk.specs.Pass.{Suits, WritesBy, WritesNode, WritesFields, WritesEntries}

-- there are modes for every pass
pub some-modes : (how : Pass) → (modes : ℕ) × Suits how modes
unfolding has
some-modes how = let (modes, i, n, t) = go how.inline how.numbers how.ends in (modes, record { inline = i; numbers = n; ends = t })
  where
    go : (a b c : Bool) → (modes : ℕ) × (inline_everything modes ≡ a) × (not (no_deduplication modes) ≡ b) × (null_terminated_strings modes ≡ c)
    go false true false = (0, refl, refl, refl)
    go true true false = (1, refl, refl, refl)
    go false true true = (16, refl, refl, refl)
    go true true true = (17, refl, refl, refl)
    go false false false = (32, refl, refl, refl)
    go true false false = (33, refl, refl, refl)
    go false false true = (48, refl, refl, refl)
    go true false true = (49, refl, refl, refl)

pub node-as : {how : Pass} {table pool rows out w : List ℕ} {core i node : ℕ} {out' w' : List ℕ} {r : Result Progress Refusal} {o o₁ : Bool} → o ≡ o₁
    → WritesNode how table pool rows out w core out' w' r i node o → WritesNode how table pool rows out w core out' w' r i node o₁
node-as e d = rw (← e) d

-- who does a₁ from the second place on has done a from the first on
pub record Leads (put : Bool) (modes : ℕ) (held : ℕ → Held) (pool rows out w : List ℕ) (core : ℕ) (a : Answer (List Event × Rest)) (out₁ w₁ : List ℕ) (core₁ : ℕ) (a₁ : Answer (List Event × Rest)) : Type 0 where
  pub onward : {out₂ w₂ : List ℕ} {r : Result Progress Refusal} → Writes put modes held pool rows out₁ w₁ core₁ out₂ w₂ r a₁ → Writes put modes held pool rows out w core out₂ w₂ r a

pub leads-self : {put : Bool} {modes : ℕ} {held : ℕ → Held} {pool rows out w : List ℕ} {core : ℕ} {a : Answer (List Event × Rest)} → Leads put modes held pool rows out w core a out w core a
leads-self = record { onward = λ d. d }

-- ---- entries

entries_none : (k : ℕ) (f : Fit) (r : Rest) → k ≡ 0 → fit_entries k f r ≡ ok ([], r)
unfolding fit_entries
entries_none k f r z = rw z

entries-some : (k : ℕ) (f : Fit) (r : Rest) → (k ≡ 0 → ⊥) → fit_entries k f r ≡ (f r >>= (λ x. fit_entries (k - 1) f x.1 >>= (λ y. ok (joined x y))))
unfolding fit_entries
entries-some zero f r z = absurd (z refl)
entries-some (suc k) f r z = simp sub-one

module _ (how : Pass) (table pool rows out₀ w₀ : List ℕ) (node count i₀ core₀ : ℕ) where
  abbrev entry : Node → Fit
  entry v t = fit_value (held_in table) false v t

  pub record EntriesAt (out w : List ℕ) (k i core : ℕ) : Type 0 where
    pub lent : length out ≡ length out₀
    pub worked : length w ≡ length w₀
    pub holds : Holds pool rows w i core
    pub same : Same w₀ w
    pub leads : (modes : ℕ) → Suits how modes → (v : Node) → IsNode table w₀ node v
        → Leads how.put modes (held_in table) pool rows out₀ w₀ core₀ (fit_entries count (entry v) (rest_of pool rows i₀)) out w core (fit_entries k (entry v) (rest_of pool rows i))

  pub entries-begin : Holds pool rows w₀ i₀ core₀ → EntriesAt out₀ w₀ count i₀ core₀
  entries-begin h = record { lent = refl; worked = refl; holds = h; same = same_self w₀; leads = λ modes s v h. leads-self }

  module _ (out w : List ℕ) (k i core : ℕ) (x : EntriesAt out w k i core) (whole : Sized table) where
    -- what the entry has done
    entry-does : {out₁ w₁ : List ℕ} {r : Result Progress Refusal} → WritesNode how table pool rows out w core out₁ w₁ r i node false
        → (modes : ℕ) → Suits how modes → (v : Node) → IsNode table w₀ node v → WritesBy how table pool rows out w core out₁ w₁ r i modes (entry v)
    entry-does y modes s v h = y.writes modes s v (node_kept table w₀ w node v whole x.same.at h)

    pub entries-not : {out₁ w₁ : List ℕ} {r : Result Progress Refusal} {e : Refusal} → (k ≡ 0 → ⊥) → WritesNode how table pool rows out w core out₁ w₁ r i node false → r ≡ Err e → WritesEntries how table pool rows out₀ w₀ core₀ out₁ w₁ (Err e) i₀ node count
    entries-not z y q = record { writes = λ modes s v h. (x.leads modes s v h).onward (along (entries-some k (entry v) _ z) (seqs-not _ (fit_entries (k - 1) (entry v)) (entry-does y modes s v h) q)) }

    pub entries-again : {left : ℕ} {out₁ w₁ : List ℕ} {r : Result Progress Refusal} {n : Progress} → FitsNode table w₀ left node → (k ≡ 0 → ⊥) → length out₁ ≡ length out → length w₁ ≡ length w
        → WritesNode how table pool rows out w core out₁ w₁ r i node false → r ≡ Ok n → EntriesAt out₁ w₁ (k - 1) n.row n.core
    entries-again f z e₁ e₂ y q =
        let (modes, s) = some-modes how in
        let d = entry-does y modes s f.type f.is in
        record {
          lent = e₁ ∙ x.lent;
          worked = e₂ ∙ x.worked;
          holds = done-holds d q;
          same = same_then x.same (done-same d q);
          leads = λ modes s v h. record { onward = λ d₂. (x.leads modes s v h).onward (along (entries-some k (entry v) _ z) (seqs _ (fit_entries (k - 1) (entry v)) (entry-does y modes s v h) q d₂)) };
        }

    pub entries-end : k ≡ 0 → WritesEntries how table pool rows out₀ w₀ core₀ out w (done i core) i₀ node count
    entries-end z = record { writes = λ modes s v h. (x.leads modes s v h).onward (along (entries_none k (entry v) _ z) (ends i core x.holds)) }

-- ---- fields

pub all_none : (held : ℕ → Held) (ws : Fields) (r : Rest) → field_count ws ≡ 0 → fit_all held ws r ≡ ok ([], r)
unfolding fit_all
all_none held ws r z = by-no-field 0 (node_at []) (λ i. 0) held (λ vs. fit_all held vs r ≡ ok ([], r)) 0 ws z refl

pub all-some : (held : ℕ → Held) (o : Bool) (v : Node) (vs : Fields) (r : Rest) → fit_all held (field o v vs) r ≡ (fit_value held o v r >>= (λ x. fit_all held vs x.1 >>= (λ y. ok (joined x y))))
unfolding fit_all
all-some held o v vs r = refl

module _ (how : Pass) (table pool rows out₀ w₀ : List ℕ) (node₀ count i₀ core₀ : ℕ) where
  -- the fields that are left, of ws
  pub record RestAt (ws : Fields) (out w : List ℕ) (k node i core : ℕ) : Type 0 where
    pub rest : Fields
    pub are : AreFields table w₀ node rest
    pub counted : field_count rest ≡ k
    pub deep : depth_fields rest ≤ depth_fields ws
    pub leads : (modes : ℕ) → Suits how modes
        → Leads how.put modes (held_in table) pool rows out₀ w₀ core₀ (fit_all (held_in table) ws (rest_of pool rows i₀)) out w core (fit_all (held_in table) rest (rest_of pool rows i))

  pub record FieldsAt (out w : List ℕ) (k node i core : ℕ) : Type 0 where
    pub lent : length out ≡ length out₀
    pub worked : length w ≡ length w₀
    pub holds : Holds pool rows w i core
    pub same : Same w₀ w
    pub onward : node₀ ≤ node
    pub rest : (ws : Fields) → AreFields table w₀ node₀ ws → field_count ws ≡ count → RestAt ws out w k node i core

  pub fields-begin : Holds pool rows w₀ i₀ core₀ → FieldsAt out₀ w₀ count node₀ i₀ core₀
  fields-begin h = record {
    lent = refl;
    worked = refl;
    holds = h;
    same = same_self w₀;
    onward = omega arith;
    rest = λ ws a e. record { rest = ws; are = a; counted = e; deep = omega arith; leads = λ modes s. leads-self };
  }

  module _ (out w : List ℕ) (k node i core : ℕ) (x : FieldsAt out w k node i core) (whole : Sized table) where
    -- the field at hand, of fields ws of which some are left
    first-at : (ws : Fields) (y : RestAt ws out w k node i core) → (k ≡ 0 → ⊥) → First table w₀ node y.rest
    first-at ws y z = first-of table w₀ node y.rest y.are (λ q. z (sym y.counted ∙ q))

    first-here : (ws : Fields) (y : RestAt ws out w k node i core) (z : k ≡ 0 → ⊥) → IsNode table w node (first-at ws y z).first
    first-here ws y z = node_kept table w₀ w node (first-at ws y z).first whole x.same.at (first-at ws y z).is

    pub fields-fits : {left : ℕ} → FitFields table w₀ left node₀ count → (k ≡ 0 → ⊥) → FitsNode table w left node
    fields-fits f z =
        let y = x.rest f.types f.are f.counted in
        fits_kept {w = w₀} whole x.same.at (first_fits (record { types = y.rest; are = y.are; counted = y.counted; deep = omega (arith, y.deep, f.deep); most = f.most }) z)

    module _ {out₁ w₁ : List ℕ} {r : Result Progress Refusal} (d : WritesNode how table pool rows out w core out₁ w₁ r i node (omittable (node_at table node))) where
      field-does : (ws : Fields) (y : RestAt ws out w k node i core) (z : k ≡ 0 → ⊥) (modes : ℕ) → Suits how modes
          → WritesBy how table pool rows out w core out₁ w₁ r i modes (fit_value (held_in table) (omittable (node_at table node)) (first-at ws y z).first)
      field-does ws y z modes s = d.writes modes s (first-at ws y z).first (first-here ws y z)

      rest_some : (ws : Fields) (y : RestAt ws out w k node i core) (z : k ≡ 0 → ⊥) (t : Rest)
          → fit_all (held_in table) y.rest t ≡ (fit_value (held_in table) (omittable (node_at table node)) (first-at ws y z).first t >>= (λ u. fit_all (held_in table) (first-at ws y z).others u.1 >>= (λ v. ok (joined u v))))
      rest_some ws y z t = ap (λ vs. fit_all (held_in table) vs t) (first-at ws y z).splits ∙ all-some (held_in table) _ _ _ t

      pub fields-not : {e : Refusal} → (k ≡ 0 → ⊥) → r ≡ Err e → WritesFields how table pool rows out₀ w₀ core₀ out₁ w₁ (Err e) i₀ node₀ count
      fields-not z q = record {
        writes = λ modes s ws a e.
            let y = x.rest ws a e in
            (y.leads modes s).onward (along (rest_some ws y z _) (seqs-not _ (fit_all (held_in table) (first-at ws y z).others) (field-does ws y z modes s) q));
      }

      module _ {left : ℕ} {n : Progress} (f : FitFields table w₀ left node₀ count) (z : k ≡ 0 → ⊥) (q : r ≡ Ok n) where
        kept : Holds pool rows w₁ n.row n.core × Same w w₁
        kept =
            let (modes, s) = some-modes how in
            let a = field-does f.types (x.rest f.types f.are f.counted) z modes s in
            (done-holds a q, done-same a q)

        -- the next field stands where this one ends
        next-node : {node₁ : ℕ} → node₁ ≡ word w node → (ws : Fields) (y : RestAt ws out w k node i core) → node₁ ≡ node + size (first-at ws y z).first
        next-node e ws y = e ∙ (node-top _ _ _ _ node (first-at ws y z).first (first-here ws y z)).after

        rest-again : {node₁ : ℕ} → node₁ ≡ word w node → (ws : Fields) (y : RestAt ws out w k node i core) → RestAt ws out₁ w₁ (k - 1) node₁ n.row n.core
        rest-again e ws y =
            let u = first-at ws y z in
            let b = first-deep u in
            record {
              rest = u.others;
              are = subst (λ j. AreFields table w₀ j u.others) (sym (next-node e ws y)) u.are;
              counted = omega (arith, y.counted, b.2);
              deep = omega (arith, y.deep, b.1);
              leads = λ modes s. record { onward = λ d₂. (y.leads modes s).onward (along (rest_some ws y z _) (seqs _ (fit_all (held_in table) u.others) (field-does ws y z modes s) q d₂)) };
            }

        pub fields-again : {node₁ : ℕ} → node₁ ≡ word w node → length out₁ ≡ length out → length w₁ ≡ length w → FieldsAt out₁ w₁ (k - 1) node₁ n.row n.core
        fields-again e e₁ e₂ = record {
          lent = e₁ ∙ x.lent;
          worked = e₂ ∙ x.worked;
          holds = kept.0;
          same = same_then x.same kept.1;
          onward = omega (arith, x.onward, next-node e f.types (x.rest f.types f.are f.counted));
          rest = λ ws a c. rest-again e ws (x.rest ws a c);
        }

    pub fields-end : k ≡ 0 → WritesFields how table pool rows out₀ w₀ core₀ out w (done i core) i₀ node₀ count
    fields-end z = record {
      writes = λ modes s ws a e.
          let y = x.rest ws a e in
          (y.leads modes s).onward (along (all_none (held_in table) y.rest _ (y.counted ∙ z)) (ends i core x.holds));
    }
