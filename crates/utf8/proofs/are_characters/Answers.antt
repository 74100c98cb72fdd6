-- `utf8::are_characters` meets its contract. The loop's invariant: the bytes still to come are judged as the whole is.
use mathlib.Core.Path.{refl, sym, ◌∙◌}
use native.Mathlib.Omega.{arith}
use Rattle.format.specs.Utf8.{text_from, is_text}
use Rattle.utf8.proofs.Laws.{slice-past}
use Rattle.utf8.proofs.are_characters.Goals as goal

pub loop-at-init : goal.loop-at-init
loop-at-init c = refl

pub returns-then-n-eq0 : goal.returns-then-n-eq0
returns-then-n-eq0 c = sym (c.character-n.ensures.none c.if-n-eq0.true) ∙ c.loop-at.invariant

pub overflow_add-at : goal.overflow_add-at
overflow_add-at c = omega (arith, c.character-n.ensures.inside, c.requires)

pub loop-at-smaller : goal.loop-at-smaller
loop-at-smaller c = omega (arith, c.character-n.ensures.inside, c.if-n-eq0.false, c.loop-at-test.true)

pub loop-at-preserved : goal.loop-at-preserved
loop-at-preserved c = sym (c.character-n.ensures.some (omega arith)) ∙ c.loop-at.invariant

pub returns : goal.returns
unfolding is_text text_from
returns c = rw (slice-past c.args.s.now c.loop-at.at c.args.end c.loop-at-test.false) at c.loop-at.invariant
