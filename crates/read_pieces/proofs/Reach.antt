-- From label to label behind the header, to the end of the message or to a label that has no piece. Assumes nothing.
use mathlib.Core.Path.{◌≡◌, sym}
use mathlib.Core.Bool.{false}
use mathlib.Core.List.{List, [], ◌∷◌}
use Prim.Native.Nat.{ℕ, ◌<◌}
use native.Mathlib.Omega.{arith}
use lib.ListN.{length}
use Rattle.format.specs.Answer.{ok, refuse, ◌>>=◌}
use Rattle.format.specs.Read.{Reading, split}
use Rattle.laws.specs.Facts.{by-lt}
use Rattle.label.specs.Cursor.{cursor}
use Rattle.label.specs.declared.cursor.Cursor.{Cursor}
use Rattle.std.proofs.Common.{Some, None}
use Rattle.read_pieces.specs.Chain.{pieces_from, Piece, NoPiece, Chain, here, past, piece-step, no-piece, nothing_left, chain-le, split-found, split-refused, split-empty}
use Rattle.read_pieces.specs.Pieces.{reading_of, Parted}

-- the label at `at` is reached from the first one, piece by piece, and none of these pieces is the last
pub data Reached (m : List ℕ) : ℕ → Type 0 where
  first : Reached m 1
  next : {at : ℕ} (p : Reading) → Reached m at → Piece m at p → p.end < length m → Reached m p.end

module _ (m : List ℕ) where
  reached-chain : {at end : ℕ} → Reached m at → Chain m at end → Chain m 1 end
  reached-chain first c = c
  reached-chain (next p r x l) c = reached-chain r (past p x c)

  -- a refusal further on is one of the whole
  reached-refused : {at : ℕ} → Reached m at → pieces_from m at ≡ refuse 22 0 → pieces_from m 1 ≡ refuse 22 0
  unfolding ◌>>=◌
  reached-refused first e = e
  reached-refused (next p r x l) e = reached-refused r (rw (piece-step x, e))

  -- behind the header alone there is nothing, which is refused too
  reached-not : {at : ℕ} → Reached m at → NoPiece m at → split false m ≡ refuse 22 0
  reached-not first n = by-lt 1 (length m) (λ l. split-refused m (no-piece l n)) (λ l. split-empty m (nothing_left m l))
  reached-not (next p r x l) n = split-refused m (reached-refused (next p r x l) (no-piece l n))

  pub reached-bad : {at : ℕ} → Reached m at → NoPiece m at → Parted m None
  reached-bad r n = record { is = sym (reached-not r n); stand = tt }

  last-piece : {at : ℕ} (p : Reading) → Piece m at p → p.end ≡ length m → pieces_from m at ≡ ok (p ∷ [])
  unfolding ◌>>=◌
  last-piece p x e = rw (piece-step x, nothing_left m {at = p.end} (omega arith))

  pub reached-found : {at : ℕ} (core : Cursor) → Reached m at → Piece m at (reading_of core) → core.end ≡ length m → Parted m (Some (record { core = core; blocks = cursor 1 at }))
  reached-found {at} core r x e =
      let l = last-piece (reading_of core) x e in
      let c : Chain m 1 at = reached-chain r (here l) in
      record {
        is = sym (split-found c l);
        stand = (record { ordered = omega arith; inside = omega arith }, record { chain = c; ordered = chain-le c; inside = omega arith });
      }
