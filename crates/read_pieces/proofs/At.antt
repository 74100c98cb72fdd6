-- The label at a place of the message, and the piece behind it, as the code meets them. Assumes nothing.
use mathlib.Core.Path.{◌≡◌, refl, ap}
use mathlib.Core.Bool.{true, false}
use mathlib.Core.List.{List}
use mathlib.Core.Option.{some}
use Prim.Native.Nat.{ℕ, ◌+◌, ◌-◌, ◌<◌, ◌≤◌}
use native.Mathlib.Omega.{arith}
use lib.Dec.{T}
use lib.IntN.{ℤ, pos, negsuc, nat_abs}
use lib.ListN.{length, drop, length-drop}
use lib.Seq.{slice, take-length}
use lib.Signed.{lt_z, non_neg, pos-nat_abs}
use mir.Syntax.{w64}
use mir.Val.{SFits, to_z, of_z}
use mir.ValLaws.{to_z-of_z}
use borrow.Author.Tests.{ltb-true}
use Rattle.format.specs.Label.{read_label, zigzag, Signed64}
use Rattle.label.specs.Cursor.{cursor, label_at}
use Rattle.label.specs.Laws.{label-signed, label-least}
use Rattle.label.specs.Moved.{label-moved, label-bad}
use Rattle.label.specs.declared.cursor.Cursor.{Cursor}
use Rattle.std.proofs.Common.{Some, None}
use Rattle.read_pieces.specs.Chain.{Piece, NoPiece, broken, negative, long}

-- a signed number as the code holds it
abbrev pub held : ℤ → ℤ
held n = to_z w64 (of_z w64 n)

signed-fits : (n : ℤ) → Signed64 n → SFits w64 n
unfolding Signed64 zigzag
signed-fits (pos k) h = record { sfits = omega arith }
signed-fits (negsuc k) h = record { sfits = omega arith }

from_zero : (n : ℤ) → lt_z n (pos 0) ≡ false → T (non_neg n)
from_zero (pos k) h = tt
from_zero (negsuc k) h = absurd (let z : ◌≡◌ {A = ℕ} 0 1 = cc in omega arith)

module _ (m : List ℕ) (at : ℕ) where
  whole : (i : ℕ) → slice i (length m) m ≡ drop i m
  whole i = ap (drop i) (take-length m)

  pub at-bad : label_at m (cursor at (length m)) ≡ None → NoPiece m at
  at-bad e = broken (rw whole at (label-bad m (cursor at (length m)) e))

  below-zero : (n : ℤ) (rest : List ℕ) → lt_z n (pos 0) ≡ true → read_label (drop at m) ≡ some (n, rest) → NoPiece m at
  below-zero (pos k) rest h e = absurd (omega (arith, ltb-true k 0 h))
  below-zero (negsuc k) rest h e = negative e

  -- the label n stands at `at`, and what follows it at i
  record Labelled (n : ℤ) (i : ℕ) : Type 0 where
    is : read_label (drop at m) ≡ some (n, drop i m)
    later : at < i
    inside : i ≤ length m
    fits : SFits w64 n

  module _ (n : ℤ) (next : Cursor) (e : label_at m (cursor at (length m)) ≡ Some (n, next)) where
    labelled : Labelled n next.at
    labelled =
        let v = label-moved m (cursor at (length m)) n next (omega arith) e in
        let r : read_label (drop at m) ≡ some (n, drop next.at m) = rw (whole at, whole next.at) at v.is in
        record {
          is = r;
          later = omega (arith, label-least n, v.at);
          inside = v.inside;
          fits = signed-fits n (label-signed (drop at m) n (drop next.at m) r);
        }

    held-is : held n ≡ n
    held-is = to_z-of_z w64 n labelled.fits

    pub at-below : lt_z (held n) (pos 0) ≡ true → NoPiece m at
    at-below h = below-zero n (drop next.at m) (rw held-is at h) labelled.is

    module _ (h : lt_z (held n) (pos 0) ≡ false) where
      size_is : read_label (drop at m) ≡ some (pos (nat_abs (held n)), drop next.at m)
      size_is = rw (pos-nat_abs (held n) (from_zero (held n) h), held-is) labelled.is

      pub at_long : length m - next.at < nat_abs (held n) → NoPiece m at
      at_long l = long size_is (rw length-drop l)

      pub at_piece : nat_abs (held n) ≤ length m - next.at → Piece m at (record { at = next.at; end = next.at + nat_abs (held n) })
      at_piece l = record { size = nat_abs (held n); reads = size_is; later = labelled.later; ends = refl; inside = omega (arith, labelled.inside) }
