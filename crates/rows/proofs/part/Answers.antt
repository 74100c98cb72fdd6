-- `rows::part` meets its contract: a place is inside the bytes, and where there is none there is no part.
use mathlib.Core.Path.{◌≡◌, ap, sym, ◌∙◌}
use Prim.Native.Nat.{ℕ, ◌+◌, ◌-◌}
use native.Mathlib.Omega.{arith}
use lib.ListN.{take, drop}
use Rattle.format.specs.Row.{part}
use Rattle.rows.specs.Placed.{place}
use Rattle.rows.proofs.Places.{part_none, part-some}
use Rattle.rows.proofs.part.Goals as goal

pub returns-in_default : goal.returns-in_default
unfolding part
returns-in_default c = sym (part_none c.args.bytes.now _ (sym (ap place c.in_default.is) ∙ c.place_at.ensures.result_value))

pub returns : goal.returns
unfolding part
returns c =
    let p = c.in-Some.field-0 in
    let e : p.start + p.size - p.start ≡ p.size = omega arith in
    ap (λ (n : ℕ). take n (drop p.start c.args.bytes.now)) e ∙ sym (part-some c.args.bytes.now _ c.in-Some.ensures.result_value)
