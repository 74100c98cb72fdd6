-- How many bytes a search compares: at most those of the text, and two for each literal, whatever the texts have in common. (Eight bytes at a time, it looks again at up to seven for each literal that differs.)
use Rattle.std.specs.Prelude.{◌≡◌, Bool}
use Rattle.std.proofs.Math.Path.{refl}
use Rattle.std.proofs.Common.{sym, eq-eqb}
use Rattle.std.proofs.Math.Bool.{true, false, cond}
use mathlib.Core.List.{List, [], ◌∷◌}
use Prim.Native.Nat.{ℕ, zero, suc, ◌+◌, ◌-◌, ◌*◌, ◌/◌, ◌<◌, ◌≤◌}
use native.Mathlib.Omega.{arith}
use Rattle.std.proofs.Math.ListN.{length, get_or}
use Rattle.format.specs.Row.{Text}
use Rattle.format.specs.Write.{same_text}
use Rattle.write_search.specs.Hash.{hash-small}
use Rattle.write_search.specs.Front.{Front, common, common-short, known, known_is, alike, met, front, front-on, front-short, alike-length, alike-agrees}

-- those before the first that differs, and that one, but for the first bytes that are known to be equal
abbrev pub fresh : Text → Text → Front → ℕ
fresh v u f = common v u + 1 - known f.pairs

-- All of them in the search for a text among the first j texts; only a text that may be equal is compared.
unfoldable pub compared : Text → List Text → ℕ → ℕ
compared v ts zero = 0
compared v ts (suc j) = compared v ts j + cond (alike (length v) (front v ts j) (length (get_or ts j [])) (front (get_or ts j []) ts j)) (fresh v (get_or ts j []) (front v ts j)) 0

-- texts that agree so far have as many bytes in common
common-least : (a b : Text) (k : ℕ) → k ≤ length a → k ≤ length b → ((i : ℕ) → i < k → get_or a i 0 ≡ get_or b i 0) → k ≤ common a b
unfolding common
common-least a b zero h l same = omega arith
common-least [] b (suc k) h l same = absurd (omega arith)
common-least (x ∷ a) [] (suc k) h l same = absurd (omega arith)
common-least (x ∷ a) (y ∷ b) (suc k) h l same =
    let c = common-least a b k (omega arith) (omega arith) (λ i z. same (suc i) (omega arith)) in
    rw (eq-eqb x y (same 0 (omega arith))) (omega (arith, c))

module _ (v : Text) (ts : List Text) (short : length v < 131072) where
  abbrev pub NoneBefore : ℕ → Type 0
  NoneBefore j = (i : ℕ) → i < j → same_text v (get_or ts i []) ≡ false

  pub still_open : (j : ℕ) → NoneBefore j → (front v ts j).pairs < 98304
  unfolding front met
  still_open zero n = omega (arith, hash-small v)
  still_open (suc j) n =
      let h = still_open j (λ i l. n i (omega arith)) in
      rw (front-on ts v j (n j (omega arith)) h) (go (alike (length v) (front v ts j) (length (get_or ts j [])) (front (get_or ts j []) ts j)) h)
    where
      go : (t : Bool) → (front v ts j).pairs < 98304 → (cond t (record { near = j; pairs = common v (get_or ts j []) / 2 }) (front v ts j)).pairs < 98304
      go true h = omega (arith, common-short v (get_or ts j []))
      go false h = h

  few : (j : ℕ) → NoneBefore j → compared v ts j ≤ known (front v ts j).pairs + 2 * j
  unfolding compared met
  few zero n = omega arith
  few (suc j) n =
      let m : NoneBefore j = λ i l. n i (omega arith) in
      rw (front-on ts v j (n j (omega arith)) (still_open j m)) (go (alike (length v) (front v ts j) (length u) (front u ts j)) refl (few j m))
    where
      u : Text
      u = get_or ts j []

      go : (t : Bool) → alike (length v) (front v ts j) (length u) (front u ts j) ≡ t → compared v ts j ≤ known (front v ts j).pairs + 2 * j
          → compared v ts j + cond t (fresh v u (front v ts j)) 0 ≤ known (cond t (record { near = j; pairs = common v u / 2 }) (front v ts j)).pairs + 2 * suc j
      go true e h =
          let s = front-short ts v j in
          let l = alike-length ts v u j e in
          let c = common-least v u (known (front v ts j).pairs) s (omega arith) (λ i z. sym (alike-agrees ts v u j e i z)) in
          omega (arith, c, known_is (common v u / 2) (omega (arith, common-short v u)))
      go false e h = omega arith

  -- up to the first that is equal, and with it
  pub compared-few : (j : ℕ) → NoneBefore j → compared v ts (suc j) ≤ length v + 2 * suc j
  unfolding compared
  compared-few j n = go (alike (length v) (front v ts j) (length (get_or ts j [])) (front (get_or ts j []) ts j)) (few j n)
    where
      go : (t : Bool) → compared v ts j ≤ known (front v ts j).pairs + 2 * j → compared v ts j + cond t (fresh v (get_or ts j []) (front v ts j)) 0 ≤ length v + 2 * suc j
      go true h = omega (arith, front-short ts v j, common-short v (get_or ts j []))
      go false h = omega (arith, front-short ts v j)
