-- `writer::put` meets its contract.
use native.Mathlib.Omega.{arith}
use Rattle.wire_types.specs.Root.{kept-sized, kept-fits}
use Rattle.writer.proofs.Second.{slots_apart, laid_kept, laid-holds, put-puts}
use Rattle.writer.proofs.put.Goals as goal

pub lay_out-start-requires : goal.lay_out-start-requires
lay_out-start-requires c = (c.requires.counted.ready.good, slots_apart c.requires.kept c.requires.counted, c.requires.allowed, omega (arith, c.requires.room), omega (arith, c.requires.room))

pub root-requires : goal.root-requires
root-requires c =
    let k = laid_kept c.requires c.lay_out-start.ensures c.lay_out-start.auto.work in
    (laid-holds c.requires c.lay_out-start.ensures, kept-sized k, kept-fits k)

pub returns : goal.returns
returns c = put-puts c.requires c.lay_out-start.ensures c.pass_in.ensures c.root.ensures
