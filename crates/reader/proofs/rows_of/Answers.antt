-- `reader::rows_of` meets its contract.
use native.Mathlib.Omega.{arith}
use Rattle.table.specs.Answers.{met}
use Rattle.reader.proofs.Starts.{or-some}
use Rattle.reader.proofs.Message.{rows-20, sized-is, rows-21, rows-22, root-ready, rows-gone, end-ready, rows-30, rows_are}
use Rattle.reader.proofs.rows_of.Goals as goal

pub returns-then-not-is_sized : goal.returns-then-not-is_sized
returns-then-not-is_sized c = rows-20 c.args.table.now c.args.m.now c.args.work.now c.args.rows.now c.requires _ c.is_sized.ensures c.if-not-is_sized.true

pub bounds-m-0 : goal.bounds-m-0
bounds-m-0 c = omega (arith, (sized-is c.args.table.now c.args.m.now c.args.work.now c.args.rows.now c.requires _ c.is_sized.ensures c.if-not-is_sized.false).0)

pub returns-in_err-modes : goal.returns-in_err-modes
returns-in_err-modes c = rw (met c.from_residual.ensures.1) (rows-21 c.args.table.now c.args.m.now c.args.work.now c.args.rows.now c.requires _ c.is_sized.ensures c.if-not-is_sized.false _ c.read_header.ensures c.ok_or.ensures.value c.in_err-modes.was)

pub begin-requires : goal.begin-requires
begin-requires c =
    let b = sized-is c.args.table.now c.args.m.now c.args.work.now c.args.rows.now c.requires _ c.is_sized.ensures c.if-not-is_sized.false in
    (c.requires.whole, b.0, b.1)

pub returns-in_err-core : goal.returns-in_err-core
returns-in_err-core c = rw (met c.from_residual-in_err-core.ensures.1) (rows-22 c.args.table.now c.args.m.now c.args.work.now c.args.rows.now c.requires _ c.is_sized.ensures c.if-not-is_sized.false _ c.read_header.ensures (or-some _ _ c.ok_or.ensures.value c.in_ok-modes.was) _ c.begin.ensures c.begin.auto.work c.in_err-core.was)

pub root-requires : goal.root-requires
root-requires c = root-ready c.args.table.now c.args.m.now c.args.work.now c.args.rows.now c.requires _ c.is_sized.ensures c.if-not-is_sized.false _ c.read_header.ensures (or-some _ _ c.ok_or.ensures.value c.in_ok-modes.was) _ c.begin.ensures c.begin.auto.work c.in_ok-core.was

pub returns-in_err-end : goal.returns-in_err-end
returns-in_err-end c = rw (met c.from_residual-in_err-end.ensures.1) (rows-gone c.args.table.now c.args.m.now c.args.work.now c.args.rows.now c.requires _ c.is_sized.ensures c.if-not-is_sized.false _ c.read_header.ensures (or-some _ _ c.ok_or.ensures.value c.in_ok-modes.was) _ c.begin.ensures c.begin.auto.work c.in_ok-core.was _ c.root.ensures c.root.auto.work c.in_err-end.was)

pub is_done-requires : goal.is_done-requires
is_done-requires c = (end-ready c.args.table.now c.args.m.now c.args.work.now c.args.rows.now c.requires _ c.is_sized.ensures c.if-not-is_sized.false _ c.read_header.ensures (or-some _ _ c.ok_or.ensures.value c.in_ok-modes.was) _ c.begin.ensures c.begin.auto.work c.in_ok-core.was _ c.root.ensures c.root.auto.work c.in_ok-end.was).good

pub returns-then-not-is_done : goal.returns-then-not-is_done
returns-then-not-is_done c = rows-30 c.args.table.now c.args.m.now c.args.work.now c.args.rows.now c.requires _ c.is_sized.ensures c.if-not-is_sized.false _ c.read_header.ensures (or-some _ _ c.ok_or.ensures.value c.in_ok-modes.was) _ c.begin.ensures c.begin.auto.work c.in_ok-core.was _ c.root.ensures c.root.auto.work c.in_ok-end.was _ c.is_done.ensures c.if-not-is_done.true

pub returns : goal.returns
returns c = rows_are c.args.table.now c.args.m.now c.args.work.now c.args.rows.now c.requires _ c.is_sized.ensures c.if-not-is_sized.false _ c.read_header.ensures (or-some _ _ c.ok_or.ensures.value c.in_ok-modes.was) _ c.begin.ensures c.begin.auto.work c.in_ok-core.was _ c.root.ensures c.root.auto.work c.in_ok-end.was _ c.is_done.ensures c.if-not-is_done.false
