-- An empty store is good, and no key of it has gone anywhere.
use Rattle.write_literals.specs.Laws.{cleared}
use Rattle.write_passes.specs.Slots.{most}
use mathlib.Core.Path.{refl}
use Rattle.write_bytes.proofs.tests.clear.Goals as goal

pub returns : goal.returns
unfolding most
returns c =
    let e = cleared c.requires c.clear.ensures in
    (e.good, rw e.store refl)
