-- `write_bytes::layout::lay_out` meets its contract.
use mathlib.Core.Path.{sym, ◌∙◌}
use Prim.Native.Nat.{◌*◌}
use native.Mathlib.Omega.{arith}
use lib.ListN.{length-set}
use Rattle.write_literals.specs.Laws.{forgotten}
use Rattle.format.specs.Modes.{inline_everything}
use Rattle.write_bytes.specs.State.{slots_of}
use Rattle.write_bytes.proofs.Facts.{signed_is}
use Rattle.write_bytes.proofs.Layouts.{length-blocks, length-framed, lays-inline, lays-framed}
use Rattle.write_bytes.proofs.layout.lay_out.Goals as goal

pub bounds-out-0 : goal.bounds-out-0
bounds-out-0 c =
    let b = length-blocks c.args.core (slots_of c.args.work.now) (inline_everything c.args.modes) in
    omega (arith, c.requires.3)

pub lay_blocks-at-requires : goal.lay_blocks-at-requires
lay_blocks-at-requires c =
    let b = length-blocks c.args.core (slots_of c.args.work.now) (inline_everything c.args.modes) in
    (c.requires.0, c.requires.1, simp length-set (omega (arith, c.requires.3)), omega (arith, c.requires.4))

pub returns-then-inline_everything : goal.returns-then-inline_everything
returns-then-inline_everything c = lays-inline c.args.modes c.args.core c.lay_blocks-at.ensures (forgotten c.lay_blocks-at.ensures.good c.forget.ensures) (sym c.inline_everything.ensures ∙ c.if-inline_everything.true)

pub count_label-requires : goal.count_label-requires
count_label-requires c =
    let b = length-blocks c.args.core (slots_of c.args.work.now) (inline_everything c.args.modes) in
    omega (arith, c.requires.4)

pub put_label-requires : goal.put_label-requires
put_label-requires c =
    let f = length-framed c.args.core (slots_of c.args.work.now) (sym c.inline_everything.ensures ∙ c.if-inline_everything.false) in
    let n = c.lay_blocks-at.auto.out ∙ length-set c.args.out.now 0 (2 * c.args.modes) in
    rw (signed_is (record { sfits = c.count_label.type_inv }) c.count_label.ensures) (omega (arith, c.lay_blocks-at.ensures.end, c.requires.3))

pub returns : goal.returns
returns c =
    let e = signed_is (record { sfits = c.count_label.type_inv }) c.count_label.ensures in
    lays-framed c.args.modes c.args.core c.lay_blocks-at.ensures (forgotten c.lay_blocks-at.ensures.good c.forget.ensures) (sym c.inline_everything.ensures ∙ c.if-inline_everything.false) (rw e at c.put_label.ensures.out_after) (rw e at c.put_label.ensures.value)
