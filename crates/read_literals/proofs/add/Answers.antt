-- `read_literals::add` meets its contract. A page is left, since the literals are fewer than 4,096.
use mathlib.Core.Path.{refl}
use native.Mathlib.Omega.{arith}
use Rattle.read_literals.specs.Laws.{count_most}
use Rattle.read_literals.proofs.Literals.{add-in, add_is}
use Rattle.read_literals.proofs.add.Goals as goal

pub pages-requires : goal.pages-requires
pages-requires c = omega (arith, c.count-n.ensures.0, count_most c.args.work.now c.requires.0.literals c.args.key c.requires.1, c.requires.0.literals.most)

pub write-requires : goal.write-requires
write-requires c =
    let b = add-in c.args.work.now c.requires.0 c.args.key c.requires.1 c.requires.2 c.count-n.ensures.0 c.next_page-page.ensures refl c.pages.ensures c.pages-2.ensures in
    (c.requires.0.slots.whole, c.requires.1, b.0, b.1, b.2, b.3, c.requires.3, c.requires.4)

pub returns-clause-changes : goal.returns-clause-changes
returns-clause-changes c = add_is c.args.work.now c.requires.0 c.args.key c.requires.1 c.requires.2 c.count-n.ensures.0 c.next_page-page.ensures refl c.pages.ensures c.pages-2.ensures c.write.ensures
