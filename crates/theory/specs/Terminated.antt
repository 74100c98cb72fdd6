-- In mode 4 a 00 stands in the message right behind each STRING that a row shows: its literal was read with the 00, and a backreference names a literal of the same key.
use Rattle.std.specs.Prelude.{◌≡◌, true, List, ℕ, ◌+◌, ◌-◌, ◌/◌, ◌≤◌, ◌<◌, min, length, get_or, drop}
use Rattle.std.proofs.Common.{sym, ◌∙◌, ap, add-zero, arith, length-take, length-drop, get_or-take, get_or-drop}
use Rattle.format.specs.Modes.{null_terminated_strings}
use Rattle.format.specs.Row.{row, placed, string_row, row_width}
use Rattle.format.specs.Read.{Reading, in_message, read}
use Rattle.format.specs.Claims.{Terminated}
use Rattle.laws.specs.Facts.{absurd-bool, bind-elim}
use Rattle.theory.specs.Says.{Any, ok-says}
use Rattle.theory.specs.Inside.{none_left, each-nth, no-literals, Invariant, RightContent, right-placed, Good, After, walk-keeps}
use Rattle.theory.specs.Places.{left_in}
use Rattle.theory.specs.Received.{start_in, received}
use Rattle.theory.specs.Calls.{same-modes}
use Rattle.theory.specs.Answered.{each-any}

-- a 00 stands there in the message
abbrev ZeroAt : List ℕ → ℕ → Type 0
ZeroAt m at = (at < length m) × (get_or m at 1 ≡ 0)

zero-at : (m : List ℕ) (p : Reading) → 1 ≤ length (left_in m p) → get_or (left_in m p) 0 1 ≡ 0 → ZeroAt m p.at
zero-at m p h z =
    let size : ℕ = p.end - p.at in
    let long : 1 ≤ size = omega (arith, length-take size (drop p.at m)) in
    (omega (arith, length-take size (drop p.at m), length-drop p.at m), rw (get_or-take size (drop p.at m) 0 1 long, get_or-drop p.at m 0 1, add-zero) at z)

-- nothing is asked of pieces, nor of parts with no 00 behind them
abbrev terminated_in : (m : List ℕ) → Invariant (in_message m)
terminated_in m = record {
  Piece = λ p. Any p;
  Part = λ b v. b ≡ true → ZeroAt m (v.start + v.size);
  moved = λ n p h l. tt;
  taken = λ n p h l b. absurd-bool b;
  ended = λ n p h l more z b. zero-at m ((in_message m).moved n p) more z;
}

place-has : {P : Type 0} {Q : ℕ → P → Type 0} {k : ℕ} {v : P} → RightContent Q (placed k v) → Q k v
place-has (right-placed e h) = h

pub terminated : Terminated
unfolding read
terminated work table m rows rs e mode i node p at = bind-elim _ _ e λ s c e₁.
    let q = received s m rows rs e₁ in
    let begin = start_in m q.core q.blocks (min 8192 (rows / row_width)) in
    let g : Good (in_message m) (terminated_in m) q.modes s.held begin = record { core = tt; blocks = none_left; waiting = each-any q.blocks; literals = no-literals _ } in
    let kept : After (in_message m) (terminated_in m) q.modes s.held begin (rs, q.after) = ok-says (rw q.walked at (walk-keeps (in_message m) (terminated_in m) q.modes s.held s.root begin g)) in
    place-has (each-nth kept.rows i (row node (placed string_row p)) at) (sym (ap null_terminated_strings (same-modes (get_or m 0 0) q.modes q.header).1) ∙ mode)
