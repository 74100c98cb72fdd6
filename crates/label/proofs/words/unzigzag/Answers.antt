-- `label::words::unzigzag` meets its contract, by the word that half of z stands for.
use Rattle.std.proofs.Common.{◌≡◌, suc, ◌-◌, ◌/◌, ◌^◌, negsuc, sym, ap, ◌∙◌, arith, w64}
use mir.ValLaws.{to_z-of_z}
use Rattle.label.specs.Laws.{integer-low, integer-high, unzigzag-even, unzigzag-odd}
use Rattle.label.proofs.words.unzigzag.Goals as goal

pub returns-then-z-eq0 : goal.returns-then-z-eq0
returns-then-z-eq0 c = to_z-of_z w64 _ (record { sfits = c.integer_of.type_inv }) ∙ c.integer_of.ensures ∙ integer-low (omega arith) ∙ sym (unzigzag-even c.args.z c.if-z-eq0.true)

pub returns-else-z-eq0 : goal.returns-else-z-eq0
returns-else-z-eq0 c =
    let e : 2 ^ 64 - suc (2 ^ 64 - 1 - c.args.z / 2) ≡ c.args.z / 2 = omega arith in
    to_z-of_z w64 _ (record { sfits = c.integer_of-else-z-eq0.type_inv }) ∙ c.integer_of-else-z-eq0.ensures ∙ integer-high (omega arith) ∙ ap negsuc e ∙ sym (unzigzag-odd c.args.z c.if-z-eq0.false)
