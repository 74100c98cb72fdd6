-- Numbers as labels, and bytes put or counted.
use mathlib.Core.Path.{◌≡◌, refl, sym, ap, ◌∙◌}
use mathlib.Core.Bool.{Bool, true, false}
use mathlib.Core.List.{List}
use mir.Syntax.{w64}
use mir.Val.{SFits, to_z, of_z}
use mir.ValLaws.{to_z-of_z}
use Prim.Native.Nat.{ℕ, ◌+◌, ◌<◌, ◌≤◌}
use lib.Dec.{ltb}
use lib.IntN.{ℤ}
use lib.ListN.{length}
use lib.Seq.{sets}
use Rattle.std.specs.Prelude.{Result, Ok, Err, IsErrAnd}
use Rattle.std.proofs.lemmas.Result.{err_from_is_err_and}
use borrow.Author.Tests.{ltb-true, ltb-false}
use Rattle.format.specs.Label.{label}
use Rattle.write_passes.specs.Plan.{put_bytes}
use Rattle.write_passes.specs.Laws.{put-fits, put-over}
use Rattle.format.specs.declared.refusal.Refusal.{Refusal}
use Rattle.format.specs.declared.refusal.Refusal.TheVariants.{NoRoom}
use Rattle.write_bytes.specs.State.{Puts}

-- what a `?` returns is the refusal that it met
pub met : {A : Type 0} {r : Result A Refusal} {n : Refusal} → IsErrAnd r (λ m. m ≡ n) → r ≡ Err n
met {r = r} {n} h = let (m, q, e) = err_from_is_err_and r h in q ∙ ap Err e

-- an i64 that is passed on is read back from its bits
pub signed_is : {n m : ℤ} → SFits w64 n → n ≡ m → to_z w64 (of_z w64 n) ≡ m
signed_is {n} f e = to_z-of_z w64 n f ∙ e

-- and the label that was put is that of m
pub puts_signed : {put : Bool} {at : ℕ} {n m : ℤ} {out out' : List ℕ} {r : Result ℕ Refusal} → SFits w64 n → n ≡ m → Puts put at (label (to_z w64 (of_z w64 n))) out out' r → Puts put at (label m) out out' r
puts_signed f e d = rw (signed_is f e) at d

pub not-over : (size end : ℕ) {over : Bool} → over ≡ ltb size end → over ≡ false → end ≤ size
not-over size end t o = ltb-false size end (sym t ∙ o)

module _ (put : Bool) (at n : ℕ) (bs : List ℕ) (size : length bs ≡ n) where
  pub puts-counted : (out : List ℕ) → put ≡ false → Puts put at bs out out (Ok (at + n))
  unfolding put_bytes
  puts-counted out b = rw (b, ← size) (record { answer = refl; left = refl })

  -- `over` says whether they go beyond the output
  module _ (out : List ℕ) {out' : List ℕ} {over : Bool} (b : put ≡ true) (t : over ≡ ltb (length out) (at + n)) where
    pub puts-full : over ≡ true → Puts put at bs out out' (Err NoRoom)
    puts-full o =
        let h : length out < at + length bs = rw size (ltb-true (length out) (at + n) (sym t ∙ o)) in
        let e = put-over at bs out h in
        rw b (record { answer = rw e; left = rw e tt })

    pub puts-stored : over ≡ false → out' ≡ sets out at bs → Puts put at bs out out' (Ok (at + n))
    puts-stored o q =
        let h : at + length bs ≤ length out = rw size (not-over (length out) (at + n) t o) in
        let e = put-fits at bs out h in
        rw b (record { answer = rw (e, size); left = rw e q })
