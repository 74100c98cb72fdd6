-- The loop over several values is the one over entries or the one over fields, and each law here goes by which of the two.
use mathlib.Core.Path.{◌≡◌, refl, sym, ap, ◌∙◌, subst, subst₂}
use mathlib.Core.Bool.{Bool, true, false}
use mathlib.Core.List.{List, [], ◌++◌, append-nil}
use Prim.Native.Nat.{ℕ, ◌-◌}
use native.Mathlib.Omega.{arith}
use lib.ListN.{length}
use Rattle.std.specs.Prelude.{Result, Ok, Err}
use Rattle.std.proofs.Common.{rules}
use Rattle.format.specs.Answer.{Answer, ok, refuse, ◌>>=◌}
use Rattle.format.specs.declared.refusal.Refusal.{Refusal}
use Rattle.format.specs.Table.{node_at, omittable, Node, Fields, no_field, field, Held}
use Rattle.format.specs.Row.{Place, Row}
use Rattle.format.specs.Read.{in_message, State, Read, entries, all, field_count}
use Rattle.laws.specs.Facts.{by_bool, absurd-bool}
use Rattle.laws.specs.Kinds.{by_field}
use Rattle.label.specs.declared.cursor.Cursor.{Cursor}
use Rattle.read_pieces.specs.Pieces.{Inside}
use Rattle.read_leaf.specs.declared.Progress.{Progress}
use Rattle.read_leaf.specs.State.{progress, Ready, Walks}
use Rattle.read_leaf.specs.Does.{along}
use Rattle.wire_types.specs.Typed.{Sized, held_in, FitsNode}
use Rattle.wire_types.specs.Run.{FitRun, absent_in, next_in, absent-is, next-is}
use Rattle.read_walk.specs.Opening.{value_at}
use Rattle.read_walk.specs.Walk.{ReadsValue, ReadsFields, ReadsEntries, ReadsValues}
use Rattle.read_walk.proofs.Loops.{EntriesAt, entries-fits, entries-not, entries-again, entries-end, FieldsAt, fields-fits, fields-not, fields-again, fields-end}

pub record ValuesAt (table m w₀ l₀ : List ℕ) (modes node₀ : ℕ) (repeated : Bool) (count : ℕ) (c₀ : Cursor) (n₀ : ℕ) (w l : List ℕ) (k node : ℕ) (c : Cursor) (n : ℕ) : Type 0 where
  pub lent : length l ≡ length l₀
  pub worked : length w ≡ length w₀
  pub ready : Ready m w
  pub inside : Inside m c
  pub stays : repeated ≡ true → node ≡ node₀
  pub entries : repeated ≡ true → EntriesAt table m w₀ l₀ modes node₀ count c₀ n₀ w l k c n
  pub fields : repeated ≡ false → FieldsAt table m w₀ l₀ modes node₀ count c₀ n₀ w l k node c n

module _ (table m w₀ l₀ : List ℕ) (modes node₀ : ℕ) (repeated : Bool) (count : ℕ) (c₀ : Cursor) (n₀ : ℕ) where
  module _ (w l : List ℕ) (k node : ℕ) (c : Cursor) (n : ℕ) (x : ValuesAt table m w₀ l₀ modes node₀ repeated count c₀ n₀ w l k node c n) (whole : Sized table) where
    pub values-fits : {left : ℕ} → FitRun table w₀ left node₀ repeated count → (k ≡ 0 → ⊥) → FitsNode table w left node
    values-fits {left} g z =
        by_bool repeated
        (λ e. subst (λ i. FitsNode table w left i) (sym (x.stays e)) (entries-fits table m w₀ l₀ modes node₀ count c₀ n₀ w l k c n (x.entries e) whole (g.entries e)))
        (λ e. fields-fits table m w₀ l₀ modes node₀ count c₀ n₀ w l k node c n (x.fields e) whole (g.fields e) z)

    -- a value of it
    module _ {w₁ l₁ : List ℕ} {r : Result Progress Refusal} {o : Bool} (z : k ≡ 0 → ⊥) (t : o ≡ absent_in repeated (node_at table node)) (y : ReadsValue m w w₁ l l₁ c n r table modes node o) where
      entry : repeated ≡ true → ReadsValue m w w₁ l l₁ c n r table modes node₀ false
      entry e = subst₂ (λ (i : ℕ) (b : Bool). ReadsValue m w w₁ l l₁ c n r table modes i b) (x.stays e) (absent-is e (node_at table node) t) y

      pub values-not : {e : Refusal} → r ≡ Err e → ReadsValues m w₀ w₁ l₀ l₁ c₀ n₀ (Err e) table modes node₀ repeated count
      values-not q = record {
        entries = λ e. entries-not table m w₀ l₀ modes node₀ count c₀ n₀ w l k c n (x.entries e) whole z (entry e) q;
        fields = λ e. fields-not table m w₀ l₀ modes node₀ count c₀ n₀ w l k node c n (x.fields e) whole z (absent-is e (node_at table node) t) y q;
      }

      pub values-again : {left next : ℕ} {p : Progress} → FitRun table w₀ left node₀ repeated count → next ≡ next_in repeated node w → length l₁ ≡ length l → length w₁ ≡ length w → r ≡ Ok p
          → ValuesAt table m w₀ l₀ modes node₀ repeated count c₀ n₀ w₁ l₁ (k - 1) next p.core p.rows
      values-again {left} {next} {p} g b e₁ e₂ q =
          let es : repeated ≡ true → EntriesAt table m w₀ l₀ modes node₀ count c₀ n₀ w₁ l₁ (k - 1) p.core p.rows = λ e. entries-again table m w₀ l₀ modes node₀ count c₀ n₀ w l k c n (x.entries e) whole (g.entries e) z e₁ e₂ (entry e) q in
          let fs : repeated ≡ false → FieldsAt table m w₀ l₀ modes node₀ count c₀ n₀ w₁ l₁ (k - 1) next p.core p.rows = λ e. fields-again table m w₀ l₀ modes node₀ count c₀ n₀ w l k node c n (x.fields e) whole (g.fields e) z (absent-is e (node_at table node) t) (next-is e node w b) e₁ e₂ y q in
          record {
            lent = e₁ ∙ x.lent;
            worked = e₂ ∙ x.worked;
            ready = by_bool repeated (λ e. (es e).ready) (λ e. (fs e).ready);
            inside = by_bool repeated (λ e. (es e).inside) (λ e. (fs e).inside);
            stays = λ e. next-is e node w b ∙ x.stays e;
            entries = es;
            fields = fs;
          }

    pub values-end : k ≡ 0 → ReadsValues m w₀ w l₀ l c₀ n₀ (Ok (progress c n)) table modes node₀ repeated count
    values-end z = record { entries = λ e. entries-end table m w₀ l₀ modes node₀ count c₀ n₀ w l k c n (x.entries e) whole z; fields = λ e. fields-end table m w₀ l₀ modes node₀ count c₀ n₀ w l k node c n (x.fields e) whole z }

-- ---- none, and one alone

pub no_values : {table m w l : List ℕ} {modes node count n : ℕ} {c : Cursor} (repeated : Bool) → Ready m w → Inside m c → Sized table → count ≡ 0 → ReadsValues m w w l l c n (Ok (progress c n)) table modes node repeated count
no_values {table} {m} {w} {l} {modes} {node} {count} {n} {c} repeated g i whole z =
    let x : ValuesAt table m w l modes node repeated count c n w l count node c n = search rules in
    values-end table m w l modes node repeated count c n w l count node c n x whole z

-- no rows after these
with_none : {m : List ℕ} (a : Answer (List (Row Place) × State (in_message m))) → (a >>= (λ x. ok (x.0 ++ [], x.1))) ≡ a
unfolding ◌>>=◌
with_none (ok x) = ap (λ rows. ok (rows, x.1)) (append-nil x.0)
with_none (refuse i j) = refl

entries-one : {m : List ℕ} (f : Read (in_message m)) (s : State (in_message m)) → entries (in_message m) 1 f s ≡ f s
unfolding entries ◌>>=◌
entries-one f s = with_none (f s)

all_one : {m : List ℕ} (modes : ℕ) (held : ℕ → Held) (o : Bool) (v : Node) (vs : Fields) (s : State (in_message m)) → field_count vs ≡ 0
    → all (in_message m) modes held (field o v vs) s ≡ value_at m modes held o v s
unfolding all field_count ◌>>=◌
all_one {m} modes held o v no_field s z = with_none (value_at m modes held o v s)
all_one modes held o v (field o' u us) s z = absurd (omega arith)

pub one_entry : {m w w' l l' table : List ℕ} {c : Cursor} {n modes node : ℕ} {r : Result Progress Refusal} → ReadsValues m w w' l l' c n r table modes node true 1 → ReadsValue m w w' l l' c n r table modes node false
one_entry x = record { does = λ v h. along (sym (entries-one _ _)) ((x.entries refl).does v h) }

as-entry : {m w w' l l' table : List ℕ} {c : Cursor} {n modes node : ℕ} {r : Result Progress Refusal} → ReadsValue m w w' l l' c n r table modes node false → ReadsEntries m w w' l l' c n r table modes node 1
as-entry x = record { does = λ v h. along (entries-one _ _) (x.does v h) }

as-field : {m w w' l l' table : List ℕ} {c : Cursor} {n modes node : ℕ} {r : Result Progress Refusal} → ReadsValue m w w' l l' c n r table modes node (omittable (node_at table node)) → ReadsFields m w w' l l' c n r table modes node 1
as-field {m} {w} {w'} {l} {l'} {table} {c} {n} {modes} {node} {r} x = record {
  does = λ ws h e.
      by_field _ _ _ _ (λ vs. Walks m w w' c n l l' r (all (in_message m) modes (held_in table) vs)) node ws h (λ z. omega arith)
      (λ v vs k a b. along (all_one modes (held_in table) (omittable (node_at table node)) v vs _ (omega arith)) (x.does v a));
}

pub as_values : {m w w' l l' table : List ℕ} {c : Cursor} {n modes node : ℕ} {r : Result Progress Refusal} (repeated : Bool) → ReadsValue m w w' l l' c n r table modes node (absent_in repeated (node_at table node)) → ReadsValues m w w' l l' c n r table modes node repeated 1
as_values true x = record { entries = λ e. as-entry x; fields = λ e. absurd-bool (sym e) }
as_values false x = record { entries = λ e. absurd-bool e; fields = λ e. as-field x }
