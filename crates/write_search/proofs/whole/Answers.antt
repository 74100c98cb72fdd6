-- `write_search::whole` meets its contract. The loop's invariant: `h` is made of the words before `i`.
use mathlib.Core.Path.{refl, ap, ap₂, ◌∙◌}
use mathlib.Core.List.{List}
use Prim.Native.Nat.{ℕ}
use native.Mathlib.Omega.{arith}
use Rattle.format.specs.Row.{Place}
use Rattle.write_search.specs.Hash.{mixed}
use Rattle.write_search.proofs.Hashing.{folded-none, folded_more, whole_is}
use Rattle.write_search.proofs.whole.Goals as goal
use Rattle.write_search.proofs.whole.Goals.{else-loop-i-test, then-loop-i-test+else-step-i-end}

pub loop-i-init : goal.loop-i-init
loop-i-init c = (refl, omega arith, folded-none _ _)

pub loop-i-preserved : goal.loop-i-preserved
loop-i-preserved c = (refl, c.mixed-h.ensures.1, folded_more c.args.pool.now (record { start = c.args.start; size = c.args.size }) c.requires.0 c.loop-i.invariant.2 (omega (arith, c.stride-step.ensures)) (omega (arith, c.loop-i-test.true)) (c.mixed-h.ensures.0 ∙ ap (λ (w : ℕ). mixed c.loop-i.h w) c.word8.ensures.0))

pub returns : goal.returns
returns c =
    let pool : List ℕ = c.args.pool.now in
    let p : Place = record { start = c.args.start; size = c.args.size } in
    elim c.loop-i-test.branch [
      | else-loop-i-test w ↦ (whole_is pool p c.requires.0 c.stride-step.ensures.0 c.loop-i.invariant.2 (omega arith) c.requires.2 (c.mixed.ensures.0 ∙ ap₂ mixed w.h-is c.word8-2.ensures.0), c.mixed.ensures.1)
      | then-loop-i-test+else-step-i-end w ↦ (
        whole_is pool p c.requires.0 c.stride-step.ensures.0
            (folded_more pool p c.requires.0 c.loop-i.invariant.2 (omega (arith, c.stride-step.ensures)) (omega (arith, w.loop-i-test.true)) (w.mixed-h.ensures.0 ∙ ap (λ (w : ℕ). mixed c.loop-i.h w) w.word8.ensures.0))
            (omega arith) c.requires.2 (c.mixed.ensures.0 ∙ ap₂ mixed w.h-is c.word8-2.ensures.0),
        c.mixed.ensures.1,
      )
    ]
