-- `label::cursor::last_byte` meets its contract. The loop's invariant: the bytes from `at` to i, nine at most, each say that more follow.
use Rattle.std.proofs.Common.{◌+◌, arith, rules}
use Rattle.label.proofs.Run.{ran-next, ran-last, ran-past, ran-long}
use Rattle.label.proofs.cursor.last_byte.Goals as goal

pub returns-then-s-i-lt128 : goal.returns-then-s-i-lt128
returns-then-s-i-lt128 c =
    record {
      after = λ h. c.loop-i.invariant.0;
      found = λ h. ran-last c.args.s.now c.args.end c.requires c.args.at c.loop-i.i h c.if-s-i-lt128.true c.loop-i.invariant.2;
      missing = λ h. absurd (omega arith);
    }

pub returns-then-i-at-ge9 : goal.returns-then-i-at-ge9
returns-then-i-at-ge9 c =
    record {
      after = λ h. absurd (omega arith);
      found = λ h. absurd (omega arith);
      missing = λ h. ran-long c.args.s.now c.args.end c.requires c.args.at (c.loop-i.i + 1) (omega arith) (omega arith) (ran-next c.args.s.now c.args.end c.requires c.args.at c.loop-i.i c.loop-i.invariant.0 c.loop-i-test.true c.if-s-i-lt128.false c.loop-i.invariant.2);
    }

pub loop-i-preserved : goal.loop-i-preserved
loop-i-preserved c = (search rules, search rules, ran-next c.args.s.now c.args.end c.requires c.args.at c.loop-i.i c.loop-i.invariant.0 c.loop-i-test.true c.if-s-i-lt128.false c.loop-i.invariant.2)

pub returns : goal.returns
returns c =
    record {
      after = λ h. absurd (omega arith);
      found = λ h. absurd (omega arith);
      missing = λ h. ran-past c.args.s.now c.args.end c.requires c.args.at c.loop-i.i c.loop-i-test.false c.loop-i.invariant.2;
    }
