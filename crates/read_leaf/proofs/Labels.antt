-- The label of a value, read or in front of it, and its tests. Assumes nothing.
use mathlib.Core.Path.{◌≡◌, refl, sym, ap, ◌∙◌}
use mathlib.Core.Bool.{Bool, true, false, not}
use mathlib.Core.List.{List}
use Prim.Native.Nat.{ℕ}
use lib.Dec.{eqb}
use lib.IntN.{ℤ, pos}
use borrow.Author.Tests.{eqb-true, eqb-false, eq-eqb, ne_eqb}
use mir.Syntax.{w64}
use mir.Val.{SFits, to_z, of_z}
use mir.ValLaws.{to_z-of_z}
use Rattle.format.specs.Answer.{need_at, ◌>>=◌}
use Rattle.format.specs.Modes.{no_deduplication}
use Rattle.format.specs.Label.{zigzag, unzigzag}
use Rattle.format.specs.Read.{in_message, read_number, at_key, is_label, take_label, own_label, no_label, is_numbered}
use Rattle.label.specs.declared.cursor.Cursor.{Cursor}
use Rattle.label.specs.Cursor.{label_at}
use Rattle.label.specs.Laws.{unzigzag-zigzag}
use Rattle.read_pieces.specs.Pieces.{Inside}
use Rattle.format.specs.declared.refusal.Refusal.TheVariants.{Label}
use Rattle.std.specs.Option.{ok_or}
use Rattle.format.specs.declared.refusal.Refusal.{Refusal}
use Rattle.std.specs.Prelude.{Option, Some, None, Result, Ok}
use Rattle.format.specs.Refusal.{answered}
use Rattle.read_leaf.specs.State.{Ready, Takes}
use Rattle.read_leaf.proofs.Blocks.{core-takes, core-not}
use Rattle.read_leaf.specs.Takes.{took-refuses, took-ends}
use Rattle.read_leaf.specs.Promises.{Owns, Bare, Numbers}
use Rattle.read_leaf.proofs.Reading.{number-got, number-bad, number-inside}

-- the words of two labels are alike where their zig-zags are
pub label-test : (l n : ℤ) → SFits w64 l → SFits w64 n → eqb (of_z w64 l) (of_z w64 n) ≡ is_label l n
unfolding is_label
label-test l n f g = go (eqb (zigzag l) (zigzag n)) refl
  where
    go : (b : Bool) → eqb (zigzag l) (zigzag n) ≡ b → eqb (of_z w64 l) (of_z w64 n) ≡ b
    go true e =
        let q : l ≡ n = sym (unzigzag-zigzag l) ∙ ap unzigzag (eqb-true (zigzag l) (zigzag n) e) ∙ unzigzag-zigzag n in
        eq-eqb (of_z w64 l) (of_z w64 n) (ap (λ z. of_z w64 z) q)
    go false e = ne_eqb (of_z w64 l) (of_z w64 n) (λ h. eqb-false (zigzag l) (zigzag n) e (ap zigzag (sym (to_z-of_z w64 l f) ∙ ap (to_z w64) h ∙ to_z-of_z w64 n g)))

module _ (m : List ℕ) (c : Cursor) (i : Inside m c) {front : Option ℤ} where
  -- no label has been read yet
  pub owns-read : {r : Result (ℤ × Cursor) Refusal} → front ≡ None → r ≡ ok_or (label_at m c) Label → Owns m front c r
  unfolding own_label take_label ◌>>=◌
  owns-read z e = rw (z, e) (go (label_at m c) refl)
    where
      go : (o : Option (ℤ × Cursor)) → label_at m c ≡ o → Owns m None c (ok_or o Label)
      go (Some (l, next)) q = record { takes = λ w g. record { took = λ most n. rw (number-got m c i l next q) (took-ends l next g (number-inside m c i l next q).0) } }
      go None q = record { takes = λ w g. record { took = λ most n. rw (number-bad m c i q) (took-refuses 23) } }

  pub owns-front : (l : ℤ) {k : ℤ} → front ≡ Some l → k ≡ l → Owns m front c (Ok (k, c))
  unfolding own_label
  owns-front l z e = rw (z, e) (record { takes = λ w g. record { took = λ most n. took-ends l c g i } })

-- a number in the core
pub number-takes : (m : List ℕ) (key : ℕ) (c : Cursor) (w : List ℕ) → Ready m w → Inside m c → {r : Result (ℤ × Cursor) Refusal} → r ≡ ok_or (label_at m c) Label
    → Takes m w w c (answered r) (at_key (in_message m) true key (read_number (in_message m)))
number-takes m key c w g i e = rw e (go (label_at m c) refl)
  where
    go : (o : Option (ℤ × Cursor)) → label_at m c ≡ o → Takes m w w c (answered (ok_or o Label)) (at_key (in_message m) true key (read_number (in_message m)))
    go (Some (l, next)) q = core-takes m key (read_number (in_message m)) c w l next g (number-inside m c i l next q).0 (number-got m c i l next q)
    go None q = core-not m key (read_number (in_message m)) c w 23 (number-bad m c i q)

pub bare-open : {front : Option ℤ} → front ≡ None → Bare front true
unfolding no_label need_at
bare-open z = rw z (record { is = λ m. refl })

pub bare-label : {front : Option ℤ} {b : Bool} (l : ℤ) {k : ℤ} → front ≡ Some l → k ≡ l → b ≡ is_label k (pos 0) → Bare front b
unfolding no_label
bare-label l z q e = rw z (record { is = λ m. rw (e, q) })

-- The literals of a key that deduplicates are numbered, unless a mode says no.

pub mode-five : (modes : ℕ) {dedup b : Bool} → dedup ≡ true → b ≡ no_deduplication modes → Numbers modes dedup (not b)
unfolding is_numbered
mode-five modes e h = rw (e, h) (record { is = λ l. refl })

pub no-numbers : (modes : ℕ) {dedup : Bool} → dedup ≡ false → Numbers modes dedup dedup
unfolding is_numbered
no-numbers modes e = rw e (record { is = λ l. refl })
