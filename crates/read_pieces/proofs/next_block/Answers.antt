-- `read_pieces::next_block` meets its contract: the chain is at its end, or begins with the piece that stands there.
use mathlib.Core.Path.{◌≡◌, sym, subst}
use mathlib.Core.List.{List}
use Prim.Native.Nat.{ℕ}
use native.Mathlib.Omega.{arith}
use Rattle.format.specs.Read.{Reading}
use Rattle.std.proofs.Common.{Option, Some, None}
use Rattle.label.specs.declared.cursor.Cursor.{Cursor}
use Rattle.read_pieces.specs.Chain.{Chain, chain_first, chain-le, piece-unique, piece-not, waiting_none, waiting-step}
use Rattle.read_pieces.specs.Pieces.{Blocks, PieceIs, Gave}
use Rattle.read_pieces.proofs.next_block.Goals as goal

module _ (m : List ℕ) {at end : ℕ} where
  gave-none : at ≡ end → Gave m at end None
  gave-none e = record { is = rw e (sym (waiting_none m end)); left = tt }

  gave : (r : Option Cursor) → Blocks m at end → (at ≡ end → ⊥) → PieceIs m at r → Gave m at end r
  gave (Some block) b apart x =
      let (p, y, c) = chain_first b.chain apart in
      let behind : Chain m block.end end = subst (λ (q : Reading). Chain m q.end end) (piece-unique y x) c in
      record {
        is = sym (waiting-step x behind);
        left = (record { ordered = omega arith; inside = x.inside }, record { chain = behind; ordered = chain-le behind; inside = b.inside });
      }
  gave None b apart n = absurd (piece-not (chain_first b.chain apart).1 n)

pub returns-then-at-rest : goal.returns-then-at-rest
returns-then-at-rest c = gave-none c.args.m.now c.if-at-rest.true

pub returns : goal.returns
returns c = gave c.args.m.now c.piece_at.result c.requires c.if-at-rest.false c.piece_at.ensures
