-- `modes::read_header` meets its contract, a test at a time.
use mathlib.Core.Path.{◌≡◌, sym, ◌∙◌}
use mathlib.Core.Bool.{true, false}
use Prim.Native.Nat.{◌/◌, ◌%◌}
use native.Mathlib.Omega.{arith}
use lib.Dec.{eqb}
use borrow.Author.Tests.{eq-eqb, ne_eqb}
use Rattle.format.specs.Answer.{need_at, ◌>>◌}
use Rattle.format.specs.Modes.{are_allowed, read_header}
use Rattle.modes.proofs.read_header.Goals as goal

pub returns-then-w-eq1 : goal.returns-then-w-eq1
unfolding read_header need_at ◌>>◌
returns-then-w-eq1 c =
    let long : eqb (c.args.b % 2) 0 ≡ false = ne_eqb (c.args.b % 2) 0 (λ z. omega arith) in
    rw long

pub returns-then-are_allowed : goal.returns-then-are_allowed
unfolding read_header need_at ◌>>◌
returns-then-are_allowed c =
    let test : are_allowed (c.args.b / 2) ≡ true = rw c.from-w.ensures at (sym c.are_allowed.ensures ∙ c.if-are_allowed.true) in
    rw (eq-eqb (c.args.b % 2) 0 (omega arith), test, c.from-w.ensures)

pub returns-else-are_allowed : goal.returns-else-are_allowed
unfolding read_header need_at ◌>>◌
returns-else-are_allowed c =
    let test : are_allowed (c.args.b / 2) ≡ false = rw c.from-w.ensures at (sym c.are_allowed.ensures ∙ c.if-are_allowed.false) in
    rw (eq-eqb (c.args.b % 2) 0 (omega arith), test)
