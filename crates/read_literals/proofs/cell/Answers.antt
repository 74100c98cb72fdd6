-- `read_literals::cell` meets its contract. The page of a literal is one of those taken, so its words are inside.
use mathlib.Core.Path.{refl}
use native.Mathlib.Omega.{arith}
use Rattle.read_literals.proofs.Literals.{get_in}
use Rattle.read_literals.proofs.cell.Goals as goal

pub bounds-work-key : goal.bounds-work-key
bounds-work-key c = omega (arith, get_in c.args.work.now c.requires.0 c.args.key c.args.j c.requires.1 c.requires.2, c.requires.0.slots.whole)

pub returns : goal.returns
returns c = (refl, omega (arith, (get_in c.args.work.now c.requires.0 c.args.key c.args.j c.requires.1 c.requires.2).1))
