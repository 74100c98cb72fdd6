-- Laws of what the C interface answers. Assumes nothing.
use mathlib.Core.Path.{◌≡◌, refl, ap, sym, subst, ◌∙◌}
use mathlib.Core.Bool.{Bool, true, false, cond}
use mathlib.Core.List.{List, [], ◌∷◌, ◌++◌}
use mathlib.Core.Option.{Option, none, some}
use Prim.Native.Nat.{ℕ, ◌+◌, ◌≤◌}
use native.Mathlib.Omega.{arith}
use lib.Dec.{eqb}
use lib.ListN.{length}
use lib.Ieee.{Float}
use Rattle.format.specs.Answer.{Answer, ok, refuse, number, second}
use Rattle.format.specs.Row.{Says, bare, placed, Row, row, Place, says_words, row_words, float_row, float_of, bytes_at, found, says_part, part_of, part}
use Rattle.std.specs.Prelude.{Option as Optional, Some, None, Result, IfSome}
use Rattle.format.specs.Refusal.{answered}
use Rattle.format.specs.declared.refusal.Refusal.{Refusal}
use Rattle.table.specs.Answers.{mapped, mapped-number, mapped-second}
use Rattle.argo.specs.declared.Answer.{Answer as Numbered}
use Rattle.format.specs.declared.place.Place as code
use Rattle.rows.specs.Placed.{place_of as place_said, place_found, place, IsInside}
use Rattle.argo.specs.declared.Seen.{Seen}
use Rattle.argo.specs.declared.Place.{Place as Start}
use Rattle.argo.specs.Exported.{Numbers, words_of, float_in, value_of, Shows, place_in, place_of, as_place, Stands}

-- the numbers of an answer that is another's but for what it counts
module _ {A : Type 0} (count : A → ℕ) (m : Answer A) (r : Result ℕ Refusal) (a : Numbered) where
  pub same_number : Numbers r a → answered r ≡ mapped count m → a.number ≡ number m
  same_number n e = n.number ∙ ap number e ∙ mapped-number count m

  pub same_second : Numbers r a → answered r ≡ mapped count m → a.second ≡ second count m
  same_second n e = n.second ∙ ap (second (λ n. n)) e ∙ mapped-second count m

pub shows : {r : Seen} {kind a b node : ℕ} {value : Float} (x : Says Place)
    → r ≡ record { number = 0; second = 0; kind = kind; a = a; b = b; node = node; value = value } → (kind ∷ a ∷ b ∷ []) ≡ says_words x → value ≡ float_in x → Shows r (ok (row node x))
unfolding number second words_of value_of row_words
shows {node = node} x e w v = record {
  number = ap (λ (s : Seen). s.number) e;
  second = ap (λ (s : Seen). s.second) e;
  words = ap (λ (s : Seen). s.kind ∷ s.a ∷ s.b ∷ s.node ∷ []) e ∙ ap (λ (ws : List ℕ). ws ++ node ∷ []) w;
  value = ap (λ (s : Seen). s.value) e ∙ v;
}

-- a row that is no float's, or whose word is 0, shows the float 0
pub no_word : (kind : ℕ) → float_of 0 ≡ float_in (bare kind 0)
unfolding float_in
no_word kind = sym (same (eqb kind float_row) (float_of 0)) where
  same : {A : Type 0} (t : Bool) (x : A) → cond t x x ≡ x
  same true x = refl
  same false x = refl

-- the place that the rows answer, or the empty one
abbrev pub or_empty : Option Place → Place
or_empty none = record { start = 0; size = 0 }
or_empty (some p) = p

-- It is the row's place, and what stands there is the row's part.
place-of : (bytes : List ℕ) (a : Answer (Row Place)) → (or_empty (place_found a) ≡ place_of a) × (bytes_at bytes (place_of a) ≡ part_of bytes a)
unfolding place_found place_said place_in place_of part_of says_part
place-of bytes (ok r) = go r.says
  where
    go : (x : Says Place) → (or_empty (place_said x) ≡ place_in x) × (bytes_at bytes (place_in x) ≡ says_part bytes x)
    go (bare kind a) = (refl, refl)
    go (placed kind p) = (refl, refl)
place-of bytes (refuse n i) = (refl, refl)

within : (count : ℕ) (p : Optional code.Place) → IfSome p (IsInside count) → (or_empty (place p)).start + (or_empty (place p)).size ≤ count
within count (Some p) h = h
within count None h = omega arith

pub stands : (rows bytes : List ℕ) (index : ℕ) (r : Start) (p : Optional code.Place)
    → place p ≡ place_found (found rows (length bytes) index) → IfSome p (IsInside (length bytes)) → as_place r ≡ or_empty (place p) → Stands rows bytes index r
unfolding part
stands rows bytes index r p e h q =
    let (f, g) = place-of bytes (found rows (length bytes) index) in
    let z = q ∙ ap or_empty e ∙ f in
    record {
      place = z;
      part = ap (bytes_at bytes) z ∙ g;
      inside = subst (λ (x : Place). x.start + x.size ≤ length bytes) (sym q) (within (length bytes) p h);
    }
