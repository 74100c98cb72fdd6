-- `write_literals::add` meets its contract.
use mathlib.Core.Path.{refl}
use native.Mathlib.Omega.{arith}
use Rattle.write_literals.proofs.Linking.{few-enough, where-at, keep-in, keep-is}
use Rattle.write_literals.proofs.add.Goals as goal

pub offset_bounds-work-at : goal.offset_bounds-work-at
offset_bounds-work-at c =
    let tl = (rw c.bucket-b.ensures.0 at c.tail-at.ensures) in
    omega (arith, where-at c.args.work.now c.requires.0 c.args.key (record { first = c.args.first; second = c.args.second }) c.requires.1 c.requires.2 c.total-g.ensures.0 c.count-n.ensures.0 tl, few-enough c.args.work.now c.requires.0 c.args.key (record { first = c.args.first; second = c.args.second }) c.requires.1 c.requires.2 c.total-g.ensures.0 c.count-n.ensures.0 tl)

pub bounds-work-at : goal.bounds-work-at
bounds-work-at c =
    let tl = (rw c.bucket-b.ensures.0 at c.tail-at.ensures) in
    omega (arith, where-at c.args.work.now c.requires.0 c.args.key (record { first = c.args.first; second = c.args.second }) c.requires.1 c.requires.2 c.total-g.ensures.0 c.count-n.ensures.0 tl, few-enough c.args.work.now c.requires.0 c.args.key (record { first = c.args.first; second = c.args.second }) c.requires.1 c.requires.2 c.total-g.ensures.0 c.count-n.ensures.0 tl, c.requires.0.slots.whole)

pub write-requires : goal.write-requires
write-requires c =
    let tl = (rw c.bucket-b.ensures.0 at c.tail-at.ensures) in
    let k = keep-in c.args.work.now c.requires.0 c.args.key (record { first = c.args.first; second = c.args.second }) c.requires.1 c.requires.2 c.total-g.ensures.0 c.count-n.ensures.0 tl in
    (c.requires.0.slots.whole, c.requires.1, k.0, k.1, k.2, k.3, c.relinked-link.ensures.1, c.requires.3, c.requires.4)

pub returns : goal.returns
returns c =
    let tl = (rw c.bucket-b.ensures.0 at c.tail-at.ensures) in
    keep-is c.args.work.now c.requires.0 c.args.key (record { first = c.args.first; second = c.args.second }) c.requires.1 c.requires.2 c.total-g.ensures.0 c.count-n.ensures.0 tl refl (rw c.bucket-b.ensures.0 at c.side.ensures.0) c.side.ensures.1 c.relinked-link.ensures.0 c.write.ensures
