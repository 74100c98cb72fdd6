-- What is read at a key as the code holds it is what is read as the wire type says.
use Rattle.std.specs.Prelude.{◌≡◌, Bool, List, ℕ, ℤ, pos, negsuc, Result}
use Rattle.std.proofs.Math.Path.{refl}
use Rattle.std.proofs.Common.{sym, subst}
use Rattle.std.proofs.Math.Option.{Option}
use Rattle.format.specs.Table.{Leaf, string, varint, float64, bytes, fixed, Held}
use Rattle.format.specs.Read.{Source, State, in_message, from_key, read_text, leaf}
use Rattle.laws.specs.Facts.{bind-same}
use Rattle.label.specs.declared.cursor.Cursor.{Cursor}
use Rattle.table.specs.Held.{leaf_in}
use Rattle.table.specs.declared.nodes.Leaf as code
use Rattle.format.specs.declared.refusal.Refusal.{Refusal}
use Rattle.read_leaf.specs.declared.Progress.{Progress}
use Rattle.read_leaf.specs.State.{Walks}
use Rattle.read_leaf.specs.Does.{along}
use Rattle.read_leaf.specs.Meaning.{held_leaf, held_of}

pub leaf-is : (l : Leaf) → held_leaf (leaf_in l) ≡ l
unfolding leaf_in
leaf-is string = refl
leaf-is varint = refl
leaf-is float64 = refl
leaf-is bytes = refl
leaf-is (fixed n) = refl

held-is : {x : code.Leaf} {dedup : Bool} (h : Held) → x ≡ leaf_in h.leaf → dedup ≡ h.dedup → held_of x dedup ≡ h
held-is h e q = rw (e, q, leaf-is h.leaf)

-- only what the key itself holds makes a difference
module _ (A : Source) (modes : ℕ) (held : ℕ → Held) (k : ℕ) where
  text_at : (n : ℤ) (s : State A) → read_text A modes (λ i. held k) k n s ≡ read_text A modes held k n s
  unfolding read_text from_key
  text_at (pos n) s = refl
  text_at (negsuc n) s = refl

  pub leaf-at : (x : Leaf) (i : ℕ) (l : Option ℤ) (s : State A) → leaf A modes (λ j. held k) k x i l s ≡ leaf A modes held k x i l s
  unfolding leaf from_key
  leaf-at string i l s = bind-same _ _ _ (λ y. rw (text_at y.0 y.1))
  leaf-at bytes i l s = bind-same _ _ _ (λ y. rw (text_at y.0 y.1))
  leaf-at varint i l s = refl
  leaf-at float64 i l s = refl
  leaf-at (fixed n) i l s = refl

pub held-walks : {m w w₁ l l₁ : List ℕ} {n : ℕ} {r : Result Progress Refusal} {x : code.Leaf} {dedup : Bool} (modes : ℕ) (held : ℕ → Held) (k i : ℕ) (front : Option ℤ) (c : Cursor) → x ≡ leaf_in (held k).leaf → dedup ≡ (held k).dedup
    → Walks m w w₁ c n l l₁ r (leaf (in_message m) modes (λ j. held_of x dedup) k (held_leaf x) i front) → Walks m w w₁ c n l l₁ r (leaf (in_message m) modes held k (held k).leaf i front)
held-walks {m} {w} {w₁} {l} {l₁} {n} {r} modes held k i front c e q d =
    along (sym (leaf-at (in_message m) modes held k (held k).leaf i front _)) (subst (λ (h : Held). Walks m w w₁ c n l l₁ r (leaf (in_message m) modes (λ j. h) k h.leaf i front)) (held-is (held k) e q) d)
