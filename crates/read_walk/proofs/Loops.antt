-- The loops over fields and over entries: what holds at each turn, and that it goes on to the whole.
use mathlib.Core.Path.{◌≡◌, refl, sym, ap, ◌∙◌, subst}
use mathlib.Core.Bool.{Bool, false}
use mathlib.Core.List.{List, [], ◌++◌}
use Prim.Native.Nat.{ℕ, zero, suc, ◌+◌, ◌-◌, ◌≤◌}
use native.Mathlib.Numerals.{sub-one}
use native.Mathlib.Omega.{arith}
use lib.ListN.{length}
use Rattle.std.specs.Prelude.{Result, Ok, Err}
use Rattle.format.specs.Answer.{Answer, ok, ◌>>=◌}
use Rattle.format.specs.declared.refusal.Refusal.{Refusal}
use Rattle.format.specs.Table.{node_at, omittable, Node, Fields, field, Held}
use Rattle.format.specs.Row.{Place, Row}
use Rattle.format.specs.Read.{in_message, State, Read, entries, all, field_count}
use Rattle.laws.specs.Tree.{size, depth, depth_fields}
use Rattle.laws.specs.Kinds.{node-top, by-no-field}
use Rattle.label.specs.declared.cursor.Cursor.{Cursor}
use Rattle.read_pieces.specs.Pieces.{Inside}
use Rattle.store.specs.Words.{word}
use Rattle.store.specs.Same.{Same, same_then}
use Rattle.read_leaf.specs.declared.Progress.{Progress}
use Rattle.read_leaf.specs.State.{progress, most_rows, Ready, state_of, Does}
use Rattle.read_leaf.specs.Does.{along, ends, seqs, seqs-not, done-ready, done-inside, done-same}
use Rattle.wire_types.specs.Typed.{Sized, held_in, IsNode, AreFields, FitsNode, FitFields}
use Rattle.wire_types.specs.Nodes.{node-some, node_kept, fits_kept, First, first-of, first-deep, first_fits}
use Rattle.read_walk.specs.Opening.{value_at}
use Rattle.read_walk.specs.Walk.{ReadsValue, ReadsFields, ReadsEntries}

-- the walk's answers
abbrev Out : List ℕ → Type 0
Out m = Answer (List (Row Place) × State (in_message m))

-- who does a' from the second place on has done a from the first on
pub record Leads (m : List ℕ) (most : ℕ) (w l : List ℕ) (n : ℕ) (a : Out m) (w' l' : List ℕ) (n' : ℕ) (a' : Out m) : Type 0 where
  pub onward : {w₂ l₂ : List ℕ} {r : Result Progress Refusal} → Does m most w' w₂ n' l' l₂ r a' → Does m most w w₂ n l l₂ r a

-- ---- entries

entries_none : {m : List ℕ} (k : ℕ) (f : Read (in_message m)) (s : State (in_message m)) → k ≡ 0 → entries (in_message m) k f s ≡ ok ([], s)
unfolding entries
entries_none k f s z = rw z

entries-some : {m : List ℕ} (k : ℕ) (f : Read (in_message m)) (s : State (in_message m)) → (k ≡ 0 → ⊥)
    → entries (in_message m) k f s ≡ (f s >>= (λ x. entries (in_message m) (k - 1) f x.1 >>= (λ y. ok (x.0 ++ y.0, y.1))))
unfolding entries
entries-some zero f s z = absurd (z refl)
entries-some (suc k) f s z = simp sub-one

pub record EntriesAt (table m w₀ l₀ : List ℕ) (modes node count : ℕ) (c₀ : Cursor) (n₀ : ℕ) (w l : List ℕ) (k : ℕ) (c : Cursor) (n : ℕ) : Type 0 where
  pub lent : length l ≡ length l₀
  pub worked : length w ≡ length w₀
  pub ready : Ready m w
  pub inside : Inside m c
  pub same : Same w₀ w
  pub leads : (v : Node) → IsNode table w₀ node v
      → Leads m (most_rows (length l₀)) w₀ l₀ n₀ (entries (in_message m) count (value_at m modes (held_in table) false v) (state_of m (most_rows (length l₀)) w₀ c₀ n₀))
      w l n (entries (in_message m) k (value_at m modes (held_in table) false v) (state_of m (most_rows (length l₀)) w c n))

module _ (table m w₀ l₀ : List ℕ) (modes node count : ℕ) (c₀ : Cursor) (n₀ : ℕ) where
  module _ (w l : List ℕ) (k : ℕ) (c : Cursor) (n : ℕ) (x : EntriesAt table m w₀ l₀ modes node count c₀ n₀ w l k c n) (whole : Sized table) where
    pub entries-fits : {left : ℕ} → FitsNode table w₀ left node → FitsNode table w left node
    entries-fits f = fits_kept whole x.same.at f

    -- what the entry has done, with as many rows as there may be
    entry-does : {w₁ l₁ : List ℕ} {r : Result Progress Refusal} (v : Node) → IsNode table w₀ node v → ReadsValue m w w₁ l l₁ c n r table modes node false
        → Does m (most_rows (length l₀)) w w₁ n l l₁ r (value_at m modes (held_in table) false v (state_of m (most_rows (length l₀)) w c n))
    entry-does {w₁} {l₁} {r} v h y = subst (λ i. Does m (most_rows i) w w₁ n l l₁ r (value_at m modes (held_in table) false v (state_of m (most_rows i) w c n))) x.lent
        (y.does v (node_kept table w₀ w node v whole x.same.at h))

    pub entries-not : {w₁ l₁ : List ℕ} {r : Result Progress Refusal} {e : Refusal} → (k ≡ 0 → ⊥) → ReadsValue m w w₁ l l₁ c n r table modes node false → r ≡ Err e → ReadsEntries m w₀ w₁ l₀ l₁ c₀ n₀ (Err e) table modes node count
    entries-not {w₁} {l₁} {e = e} z y q =
        let y₁ : ReadsValue m w w₁ l l₁ c n (Err e) table modes node false = subst (λ (r : Result Progress Refusal). ReadsValue m w w₁ l l₁ c n r table modes node false) q y in
        record { does = λ v h. (x.leads v h).onward (along (entries-some k _ _ z) (seqs-not _ _ (entry-does v h y₁) refl)) }

    pub entries-again : {left : ℕ} {w₁ l₁ : List ℕ} {p : Progress} {r : Result Progress Refusal} → FitsNode table w₀ left node → (k ≡ 0 → ⊥) → length l₁ ≡ length l → length w₁ ≡ length w
        → ReadsValue m w w₁ l l₁ c n r table modes node false → r ≡ Ok p → EntriesAt table m w₀ l₀ modes node count c₀ n₀ w₁ l₁ (k - 1) p.core p.rows
    entries-again f z e₁ e₂ y q =
        let d = entry-does f.type f.is y in
        record {
          lent = e₁ ∙ x.lent;
          worked = e₂ ∙ x.worked;
          ready = done-ready _ d q;
          inside = done-inside _ d q;
          same = same_then x.same (done-same _ d q);
          leads = λ v h. record { onward = λ d₂. (x.leads v h).onward (along (entries-some k _ _ z) (seqs _ _ (entry-does v h y) q d₂)) };
        }

    pub entries-end : k ≡ 0 → ReadsEntries m w₀ w l₀ l c₀ n₀ (Ok (progress c n)) table modes node count
    entries-end z = record { does = λ v h. (x.leads v h).onward (along (entries_none k _ _ z) (ends (most_rows (length l₀)) n c x.ready x.inside)) }

-- ---- fields

all_none : {m : List ℕ} (modes : ℕ) (held : ℕ → Held) (ws : Fields) (s : State (in_message m)) → field_count ws ≡ 0 → all (in_message m) modes held ws s ≡ ok ([], s)
unfolding all
all_none {m} modes held ws s z = by-no-field 0 (node_at []) (λ i. 0) held (λ vs. all (in_message m) modes held vs s ≡ ok ([], s)) 0 ws z refl

all-some : {m : List ℕ} (modes : ℕ) (held : ℕ → Held) (o : Bool) (v : Node) (vs : Fields) (s : State (in_message m))
    → all (in_message m) modes held (field o v vs) s ≡ (value_at m modes held o v s >>= (λ x. all (in_message m) modes held vs x.1 >>= (λ y. ok (x.0 ++ y.0, y.1))))
unfolding all
all-some modes held o v vs s = refl

pub record Rest (table m w₀ l₀ : List ℕ) (modes : ℕ) (c₀ : Cursor) (n₀ : ℕ) (ws : Fields) (w l : List ℕ) (k node : ℕ) (c : Cursor) (n : ℕ) : Type 0 where
  pub rest : Fields
  pub are : AreFields table w₀ node rest
  pub counted : field_count rest ≡ k
  pub deep : depth_fields rest ≤ depth_fields ws
  pub leads : Leads m (most_rows (length l₀)) w₀ l₀ n₀ (all (in_message m) modes (held_in table) ws (state_of m (most_rows (length l₀)) w₀ c₀ n₀))
      w l n (all (in_message m) modes (held_in table) rest (state_of m (most_rows (length l₀)) w c n))

pub record FieldsAt (table m w₀ l₀ : List ℕ) (modes node₀ count : ℕ) (c₀ : Cursor) (n₀ : ℕ) (w l : List ℕ) (k node : ℕ) (c : Cursor) (n : ℕ) : Type 0 where
  pub lent : length l ≡ length l₀
  pub worked : length w ≡ length w₀
  pub ready : Ready m w
  pub inside : Inside m c
  pub same : Same w₀ w
  pub rest : (ws : Fields) → AreFields table w₀ node₀ ws → field_count ws ≡ count → Rest table m w₀ l₀ modes c₀ n₀ ws w l k node c n

module _ (table m w₀ l₀ : List ℕ) (modes node₀ count : ℕ) (c₀ : Cursor) (n₀ : ℕ) where
  module _ (w l : List ℕ) (k node : ℕ) (c : Cursor) (n : ℕ) (x : FieldsAt table m w₀ l₀ modes node₀ count c₀ n₀ w l k node c n) (whole : Sized table) where
    -- the field at hand
    module _ (ws : Fields) (h : AreFields table w₀ node₀ ws) (e : field_count ws ≡ count) (z : k ≡ 0 → ⊥) where
      abbrev y : Rest table m w₀ l₀ modes c₀ n₀ ws w l k node c n
      y = x.rest ws h e

      abbrev f : First table w₀ node y.rest
      f = first-of table w₀ node y.rest y.are (λ q. z (sym y.counted ∙ q))

      abbrev o : Bool
      o = omittable (node_at table node)

      splits-depth : (depth f.first ≤ depth_fields ws) × (depth_fields f.others ≤ depth_fields ws) × (k ≡ suc (field_count f.others))
      splits-depth = let q = first-deep f in (omega (arith, y.deep, q.0), omega (arith, y.deep, q.1), omega (arith, y.counted, q.2))

      field-does : {w₁ l₁ : List ℕ} {r : Result Progress Refusal} → ReadsValue m w w₁ l l₁ c n r table modes node o
          → Does m (most_rows (length l₀)) w w₁ n l l₁ r (value_at m modes (held_in table) o f.first (state_of m (most_rows (length l₀)) w c n))
      field-does {w₁} {l₁} {r} v = subst (λ i. Does m (most_rows i) w w₁ n l l₁ r (value_at m modes (held_in table) o f.first (state_of m (most_rows i) w c n))) x.lent
          (v.does f.first (node_kept table w₀ w node f.first whole x.same.at f.is))

      -- all from here on, with the first apart
      rest-splits : (s : State (in_message m)) → all (in_message m) modes (held_in table) y.rest s
          ≡ (value_at m modes (held_in table) o f.first s >>= (λ a. all (in_message m) modes (held_in table) f.others a.1 >>= (λ b. ok (a.0 ++ b.0, b.1))))
      rest-splits s = ap (λ vs. all (in_message m) modes (held_in table) vs s) f.splits ∙ all-some modes (held_in table) o f.first f.others s

      field_next : {next : ℕ} {w₁ l₁ : List ℕ} {p : Progress} {r : Result Progress Refusal} → next ≡ word w node → ReadsValue m w w₁ l l₁ c n r table modes node o → r ≡ Ok p
          → Rest table m w₀ l₀ modes c₀ n₀ ws w₁ l₁ (k - 1) next p.core p.rows
      field_next {next} e₁ v q =
          let t = node-top _ _ _ _ node f.first f.is in
          let b : node + size f.first ≡ next = sym (e₁ ∙ x.same.at node (omega (arith, t.within, node-some f.first, whole.most)) ∙ t.after) in
          record {
            rest = f.others;
            are = subst (λ i. AreFields table w₀ i f.others) b f.are;
            counted = omega (arith, splits-depth.2);
            deep = splits-depth.1;
            leads = record { onward = λ d₂. y.leads.onward (along (rest-splits _) (seqs _ _ (field-does v) q d₂)) };
          }

    module _ {left : ℕ} (g : FitFields table w₀ left node₀ count) where
      pub fields-fits : (k ≡ 0 → ⊥) → FitsNode table w left node
      fields-fits z =
          let y = x.rest g.types g.are g.counted in
          let h : FitFields table w₀ left node k = record { types = y.rest; are = y.are; counted = y.counted; deep = omega (arith, y.deep, g.deep); most = g.most } in
          fits_kept whole x.same.at (first_fits h z)

      pub fields-again : {next : ℕ} {w₁ l₁ : List ℕ} {p : Progress} {r : Result Progress Refusal} {o : Bool} → (k ≡ 0 → ⊥) → o ≡ omittable (node_at table node) → next ≡ word w node → length l₁ ≡ length l → length w₁ ≡ length w
          → ReadsValue m w w₁ l l₁ c n r table modes node o → r ≡ Ok p → FieldsAt table m w₀ l₀ modes node₀ count c₀ n₀ w₁ l₁ (k - 1) next p.core p.rows
      fields-again z t b e₁ e₂ y q =
          let v = rw t at y in
          let d = field-does g.types g.are g.counted z v in
          record {
            lent = e₁ ∙ x.lent;
            worked = e₂ ∙ x.worked;
            ready = done-ready _ d q;
            inside = done-inside _ d q;
            same = same_then x.same (done-same _ d q);
            rest = λ ws h e. field_next ws h e z b v q;
          }

    pub fields-not : {w₁ l₁ : List ℕ} {r : Result Progress Refusal} {e : Refusal} {o : Bool} → (k ≡ 0 → ⊥) → o ≡ omittable (node_at table node) → ReadsValue m w w₁ l l₁ c n r table modes node o → r ≡ Err e
        → ReadsFields m w₀ w₁ l₀ l₁ c₀ n₀ (Err e) table modes node₀ count
    fields-not {w₁} {l₁} {e = e} {o} z t y q =
        let y₁ : ReadsValue m w w₁ l l₁ c n (Err e) table modes node o = subst (λ (r : Result Progress Refusal). ReadsValue m w w₁ l l₁ c n r table modes node o) q y in
        record { does = λ ws h e. (x.rest ws h e).leads.onward (along (rest-splits ws h e z _) (seqs-not _ _ (field-does ws h e z (rw t at y₁)) refl)) }

    pub fields-end : k ≡ 0 → ReadsFields m w₀ w l₀ l c₀ n₀ (Ok (progress c n)) table modes node₀ count
    fields-end z = record {
      does = λ ws h e. (x.rest ws h e).leads.onward
          (along (all_none modes (held_in table) (x.rest ws h e).rest _ ((x.rest ws h e).counted ∙ z)) (ends (most_rows (length l₀)) n c x.ready x.inside));
    }
