-- `label::cursor::joined` meets its contract. The loop's invariant: the bytes from i to `last` have been joined to acc, which fits.
use Rattle.std.proofs.Common.{None, length, ◌≡◌, ℕ, ◌+◌, ◌-◌, ◌*◌, ◌%◌, ◌^◌, ◌<◌, ◌≤◌, List, get_or, arith, rules}
use Rattle.format.specs.Label.{within64}
use Rattle.label.specs.Cursor.{answer, up_to}
use Rattle.label.proofs.Run.{Joined, joined-next, joined-over, joined-all}
use Rattle.label.proofs.cursor.joined.Goals as goal

-- no 64-bit number, or a byte too many, from byte i on
broken : (s : List ℕ) (at last end i acc : ℕ) → at < i → i ≤ last → last < end → end ≤ length s → Joined s at last end i acc → (0 < acc → 2 ^ 64 ≤ get_or s (i - 1) 0 % 128 + 128 * acc) → None ≡ answer end (within64 (up_to s at last end))
broken s at last end i acc h l m e j f = joined-over s end e at last i acc h l j m f

pub returns-then-acc-eq0 : goal.returns-then-acc-eq0
returns-then-acc-eq0 c = broken c.args.s.now c.args.at c.args.last c.args.end c.loop-i.i c.loop-i.acc c.loop-i-test.true c.loop-i.invariant.1 c.requires.1 c.requires.2 c.loop-i.invariant.3 (λ p. absurd (omega arith))

pub returns-then-d-acc : goal.returns-then-d-acc
returns-then-d-acc c =
    let w : c.from-d.result ≡ get_or c.args.s.now (c.loop-i.i - 1) 0 = c.from-d.ensures in
    broken c.args.s.now c.args.at c.args.last c.args.end c.loop-i.i c.loop-i.acc c.loop-i-test.true c.loop-i.invariant.1 c.requires.1 c.requires.2 c.loop-i.invariant.3 (λ p. omega arith)

pub loop-i-preserved : goal.loop-i-preserved
loop-i-preserved c =
    let w : c.from-d.result ≡ get_or c.args.s.now (c.loop-i.i - 1) 0 = c.from-d.ensures in
    (search rules, search rules, omega arith, rw w (joined-next c.args.s.now c.args.end c.requires.2 c.args.at c.args.last c.loop-i.i c.loop-i.acc c.loop-i-test.true c.loop-i.invariant.1 c.loop-i.invariant.3 c.requires.1 (omega arith)))

pub returns : goal.returns
returns c =
    let e : c.loop-i.i ≡ c.args.at = omega arith in
    joined-all c.args.s.now c.args.end c.requires.2 c.args.at c.args.last c.loop-i.acc (rw e at c.loop-i.invariant.3) c.loop-i.invariant.2 c.requires.1
