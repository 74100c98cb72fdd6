-- What the passes of the check answer and leave in the work, in the terms of the code.
use Rattle.std.specs.Prelude.{◌≡◌, Bool, true, false, cond, ◌||◌, List, ℕ, ◌+◌, ◌-◌, ◌*◌, ◌<◌, ◌≤◌, leb, eqb, length, get_or, Result, Err}
use Rattle.std.proofs.Common.{subst}
use Rattle.std.proofs.lemmas.List.Edits.{sets}
use Rattle.format.specs.Answer.{Answer, ok, refuse, need, number, zeros, ◌>>=◌, ◌>>◌}
use Rattle.format.specs.Refusal.{answered}
use Rattle.format.specs.declared.refusal.Refusal.{Refusal}
use Rattle.format.specs.Table.{u16, TableNode, node_at, BLOCK, Context, at_root, in_record, in_array, in_nullable, in_block, Node, Schema, is_marked, right_count, right_alone, each, tree, agrees, held_by, is_block_of, check}
use Rattle.laws.specs.Tree.{ends, Ends}
use Rattle.laws.specs.Refusals.{refusal_is}
use Rattle.table.specs.Answers.{mapped, answers-err}
use Rattle.table.specs.declared.tree.Parent.{Parent}
use Rattle.table.specs.declared.tree.Parent.TheVariants.{Nothing, Record, Array, Nullable, Block}

abbrev pub context_of : Parent → Context
context_of Nothing = at_root
context_of Record = in_record
context_of Array = in_array
context_of Nullable = in_nullable
context_of (Block dedup) = in_block dedup

-- 10 to 12, and then the node count; 13 to 15 of n nodes
unfoldable pub header_of : List ℕ → Answer ℕ
header_of table = do
  need (is_marked table) 10
  need (eqb (u16 table 3) 1) 11
  need (right_count (u16 table 5) (length table)) 12
  ok (u16 table 5)

unfoldable pub schema_from : ℕ → (ℕ → TableNode) → Answer Schema
schema_from n at = do
  each n (λ i. right_alone (at i)) 13
  w ← tree n at
  each n (λ i. agrees n at i) 15
  ok (record { count = n; root = w; held = held_by n at })

-- «deduplicate (BLOCK only)»
unfoldable pub flags_may_stand : ℕ → ℕ → Bool
flags_may_stand kind flags = leb flags 1 || eqb kind BLOCK

-- What a part of the tree leaves in the work: from word `at` on the ends of the nodes that it was made of. Nothing is said after a refusal.
abbrev pub Stored : {A : Type 0} → (A → List ℕ) → ℕ → List ℕ → List ℕ → Answer (A × ℕ) → Type 0
Stored ends at before now (ok p) = now ≡ sets before at (ends p.0)
Stored ends at before now (refuse r i) = Unit {0}

pub record Makes {A : Type 0} (ends : A → List ℕ) (at : ℕ) (before now : List ℕ) (r : Result ℕ Refusal) (built : Answer (A × ℕ)) : Type 0 where
  pub answer : answered r ≡ mapped (λ p. p.1) built
  pub stored : Stored ends at before now built

-- the same of the whole tree
abbrev pub StoredTree : List ℕ → List ℕ → Answer Node → Type 0
StoredTree before now (ok w) = now ≡ sets before 0 (ends 0 w)
StoredTree before now (refuse r i) = Unit {0}

pub record Planted (before now : List ℕ) (r : Result (Unit {0}) Refusal) (built : Answer Node) : Type 0 where
  pub answer : answered r ≡ mapped (λ w. tt) built
  pub stored : StoredTree before now built

-- the same of all passes: the words of the nodes are the ends, and nothing is said of the other words
abbrev pub StoredSchema : List ℕ → Answer Schema → Type 0
StoredSchema now (ok s) = Ends (λ i. get_or now i 0) 0 (ends 0 s.root)
StoredSchema now (refuse r i) = Unit {0}

pub record Kept (now : List ℕ) (r : Result ℕ Refusal) (schema : Answer Schema) : Type 0 where
  pub answer : answered r ≡ mapped (λ s. s.count) schema
  pub stored : StoredSchema now schema

-- what the check leaves in so many lent words, for a walk over the table
abbrev pub Leaves : List ℕ → ℕ → Answer Schema → Type 0
Leaves now lent (ok s) = Ends (λ i. get_or now i 0) 0 (ends 0 s.root)
Leaves now lent (refuse r i) = now ≡ zeros lent

pub refused-zeros : (work : ℕ) (table : List ℕ) {now : List ℕ} → (number (check work table) ≡ 0 → ⊥) → Leaves now work (check work table) → now ≡ zeros work
refused-zeros work table {now} z h = subst (λ (m : Answer Schema). Leaves now work m) (refusal_is (λ s. s.count) (check work table) z) h

-- the same by the code's answer
pub refused-all : (work : ℕ) (table : List ℕ) {now : List ℕ} {r : Result ℕ Refusal} {e : Refusal} → answered r ≡ mapped (λ s. s.count) (check work table) → r ≡ Err e → Leaves now work (check work table) → now ≡ zeros work
refused-all work table {now} a q h = subst (λ (m : Answer Schema). Leaves now work m) (answers-err _ _ a q) h

-- What 13 and 14 have shown of a table's nodes before 15 looks at the keys.
pub record Whole (table : List ℕ) (n : ℕ) : Type 0 where
  pub inside : 7 + 4 * n ≤ length table
  pub most : n ≤ 1024
  pub keys : (i : ℕ) → i < n → (node_at table i).kind ≡ BLOCK → (node_at table i).argument < 32
  pub child : (i : ℕ) → i < n → (node_at table i).kind ≡ BLOCK → i + 1 < n

-- The note of a key is 1 more than its first BLOCK among the first i nodes, or 0 if there is none: here for any test.
unfoldable pub First : (ℕ → Bool) → ℕ → Type 0
First test f = (test f ≡ true) × ((k : ℕ) → k < f → test k ≡ false)

pub record Note (test : ℕ → Bool) (i note : ℕ) : Type 0 where
  pub none : note ≡ 0 → (k : ℕ) → k < i → test k ≡ false
  pub some : (f : ℕ) → note ≡ f + 1 → First test f
  pub within : note ≤ i

abbrev pub note_in : List ℕ → ℕ → ℕ
note_in work key = get_or work (1024 + key) 0

pub record Notes (at : ℕ → TableNode) (i : ℕ) (work : List ℕ) : Type 0 where
  pub note : (key : ℕ) → key < 32 → Note (λ k. is_block_of key (at k)) i (note_in work key)

unfoldable pub first_of : ℕ → ℕ → ℕ
first_of note i = cond (eqb note 0) i (note - 1)

-- the words beside the notes, which are the ends, have not changed
pub record Beside (before now : List ℕ) : Type 0 where
  pub size : length now ≡ length before
  pub low : (k : ℕ) → k < 1024 → get_or now k 0 ≡ get_or before k 0
