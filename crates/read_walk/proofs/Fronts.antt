-- What the functions on the labels in front of a value answer.
use mathlib.Core.Path.{◌≡◌, refl, ap, ◌∙◌, sym}
use mathlib.Core.Bool.{Bool, true, false, cond, not, ◌||◌}
use mathlib.Core.List.{List}
use mathlib.Core.Option.{none, some}
use Prim.Native.Nat.{ℕ}
use lib.IntN.{ℤ}
use Rattle.std.specs.Prelude as code
use Rattle.std.specs.Prelude.{Result, Ok, Err}
use Rattle.format.specs.Answer.{ok, refuse, ◌>>=◌, ◌>>◌, need_at}
use Rattle.format.specs.Refusal.{answered, number_of, second_of}
use Rattle.format.specs.declared.refusal.Refusal.{Refusal}
use Rattle.format.specs.Modes.{out_of_band_field_errors}
use Rattle.format.specs.Read.{null_label, absent_label, error_label, is_label, is_null, own_label}
use Rattle.laws.specs.Facts.{absurd-ok}
use Rattle.label.specs.declared.cursor.Cursor.{Cursor}
use Rattle.read_pieces.specs.Pieces.{Inside}
use Rattle.read_leaf.specs.State.{Took}
use Rattle.read_leaf.specs.Takes.{took-ends, took-refuses, took-ready, took-inside, then-takes, then-takes-not}
use Rattle.read_leaf.specs.Promises.{Owns}
use Rattle.read_walk.specs.declared.opening.Seen.{Seen}
use Rattle.read_walk.specs.declared.opening.Seen.TheVariants.{Here}
use Rattle.read_walk.specs.Opening.{Opened, gone, here, null_or, absent_or, labelled, opened, seen_of, meant_of, Opens}

-- A label that is handed on goes through its bits: l' is what arrives.
module _ (modes : ℕ) (l l' : ℤ) (e : l' ≡ l) where
  told : (n : ℤ) {t b : Bool} → t ≡ is_label l' n → t ≡ b → is_label l n ≡ b
  told n x q = ap (λ y. is_label y n) (sym e) ∙ sym x ∙ q

  -- is it -3, and errors may stand or not; is it -1
  module _ {a : Bool} (x : a ≡ is_label l' error_label) where
    pub null-error : a ≡ true → out_of_band_field_errors modes ≡ true → ok (gone 0) ≡ null_or modes true l
    unfolding null_or is_null need_at ◌>>◌ ◌>>=◌
    null-error q h = rw (told error_label x q, h) (go (is_label l null_label))
      where
        go : (t : Bool) → ok (gone 0) ≡ ok (cond (t || true) (gone 0) (here (some l)))
        go true = refl
        go false = refl

    pub null-25 : a ≡ true → out_of_band_field_errors modes ≡ false → refuse 25 0 ≡ null_or modes true l
    unfolding null_or is_null need_at ◌>>◌ ◌>>=◌
    null-25 q h = rw (told error_label x q, h)

    module _ {b : Bool} (y : b ≡ is_label l' null_label) where
      pub null_null : a ≡ false → b ≡ true → ok (gone 0) ≡ null_or modes true l
      unfolding null_or is_null need_at ◌>>◌ ◌>>=◌
      null_null q h = rw (told error_label x q, told null_label y h)

      pub null-here : a ≡ false → b ≡ false → ok (here (some l')) ≡ null_or modes true l
      unfolding null_or is_null need_at ◌>>◌ ◌>>=◌
      null-here q h = rw (told error_label x q, told null_label y h, e)

  pub null-none : (z : Bool) → z ≡ false → ok (here (some l')) ≡ null_or modes z l
  unfolding null_or
  null-none z q = rw (q, e)

  module _ (o z : Bool) where
    pub absent-gone : {t : Bool} → t ≡ is_label l' absent_label → o ≡ true → t ≡ true → ok (gone 1) ≡ absent_or modes o z l
    unfolding absent_or
    absent-gone {t} x q h = rw (q, told absent_label x h)

    pub absent-not : {t : Bool} (r : Result Seen Refusal) → t ≡ is_label l' absent_label → o ≡ true → t ≡ false → meant_of r ≡ null_or modes z l' → meant_of r ≡ absent_or modes o z l
    unfolding absent_or
    absent-not {t} r x q h d = rw (q, told absent_label x h, ← e) d

    pub absent_none : (r : Result Seen Refusal) → o ≡ false → meant_of r ≡ null_or modes z l' → meant_of r ≡ absent_or modes o z l
    unfolding absent_or
    absent_none r q d = rw (q, ← e) d

-- what a label says is refused with 25 alone
null-second : (modes : ℕ) (z : Bool) (l : ℤ) {e i : ℕ} → null_or modes z l ≡ refuse e i → i ≡ 0
unfolding null_or is_null need_at ◌>>◌ ◌>>=◌
null-second modes false l q = absurd-ok (sym q)
null-second modes true l {e} {i} q = go (not (is_label l error_label) || out_of_band_field_errors modes) q
  where
    go : (b : Bool) → (need_at b 25 0 >> ok (is_label l null_label || is_label l error_label) >>= (λ null. ok (cond null (gone 0) (here (some l))))) ≡ refuse e i → i ≡ 0
    go true k = absurd-ok (sym k)
    go false k = cc

absent-second : (modes : ℕ) (o z : Bool) (l : ℤ) {e i : ℕ} → absent_or modes o z l ≡ refuse e i → i ≡ 0
unfolding absent_or
absent-second modes false z l q = null-second modes z l q
absent-second modes true z l {e} {i} q = go (is_label l absent_label) q
  where
    go : (b : Bool) → cond b (ok (gone 1)) (null_or modes z l) ≡ refuse e i → i ≡ 0
    go true k = absurd-ok (sym k)
    go false k = null-second modes z l k

module _ (m : List ℕ) (modes : ℕ) (o z : Bool) (c : Cursor) where
  module _ (r : Result (ℤ × Cursor) Refusal) (x : Owns m code.None c r) where
    pub labelled-bad : {e : Refusal} → r ≡ Err e → Opens m c (Err e) (labelled m modes o z)
    unfolding labelled own_label
    labelled-bad q = record { takes = λ w g. record { took = λ most n. then-takes-not _ ((x.takes w g).took most n) _ (ap answered q) } }

    module _ {l l' : ℤ} {next : Cursor} (q : r ≡ Ok (l, next)) (h : l' ≡ l) (u : Result Seen Refusal) (d : meant_of u ≡ absent_or modes o z l') where
      says : {v : Result Seen Refusal} → u ≡ v → absent_or modes o z l ≡ meant_of v
      says e = ap (λ a. absent_or modes o z a) (sym h) ∙ sym d ∙ ap meant_of e

      pub labelled-error : {e : Refusal} → u ≡ Err e → Opens m c (Err e) (labelled m modes o z)
      unfolding labelled own_label ◌>>=◌
      labelled-error {e} k =
          let z₁ : second_of e ≡ 0 = absent-second modes o z l (says k) in
          let t : (w : List ℕ) (most n : ℕ) → Took {X = Opened} m most w w n (refuse (number_of e) (second_of e)) (refuse (number_of e) (second_of e)) = λ w most n. rw z₁ (took-refuses (number_of e)) in
          record { takes = λ w g. record { took = λ most n. then-takes _ ((x.takes w g).took most n) _ (ap answered q) (rw (says k) (t w most n)) } }

      pub labelled-says : {y : Seen} → u ≡ Ok y → Opens m c (Ok (y, next)) (labelled m modes o z)
      unfolding labelled own_label ◌>>=◌
      labelled-says {y} e = record {
        takes = λ w g. record {
          took = λ most n.
              let t = (x.takes w g).took most n in
              then-takes _ t _ (ap answered q) (rw (says e) (took-ends (seen_of y) next (took-ready _ t (ap answered q)) (took-inside _ t (ap answered q))));
        };
      }

  pub open-labelled : (r : Result (Seen × Cursor) Refusal) → (o || z) ≡ true → Opens m c r (labelled m modes o z) → Opens m c r (opened m modes o z)
  unfolding opened
  open-labelled r e x = record { takes = λ w g. record { took = λ most n. rw e ((x.takes w g).took most n) } }

  pub open-here : (o || z) ≡ false → Inside m c → Opens m c (Ok (Here code.None, c)) (opened m modes o z)
  unfolding opened
  open-here e i = record { takes = λ w g. record { took = λ most n. rw e (took-ends (here none) c g i) } }
