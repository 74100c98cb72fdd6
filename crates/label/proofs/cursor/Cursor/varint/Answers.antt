-- `label::cursor::Cursor::varint` meets its contract: no byte, one byte, or what `last_byte` and `joined` say.
use Rattle.std.proofs.Common.{◌≡◌, ◌<◌, get_or, sym, refl, ap, ◌∙◌, arith}
use Rattle.format.specs.Label.{within64, read_varint}
use Rattle.label.specs.Cursor.{answer, varint_at}
use Rattle.label.proofs.Run.{ran-none, ran-past, ran-last, joined-all}
use Rattle.label.proofs.cursor.Cursor.varint.Goals as goal

pub returns-then-end-at : goal.returns-then-end-at
unfolding varint_at answer
returns-then-end-at c = sym (ap (answer c.args.self.end) (ran-past c.args.s.now c.args.self.end c.requires c.args.self.at c.args.self.at (omega arith) (ran-none c.args.s.now c.args.self.end c.requires c.args.self.at)))

pub returns-then-first-lt128 : goal.returns-then-first-lt128
unfolding varint_at read_varint
returns-then-first-lt128 c =
    let e : c.from-first.result ≡ get_or c.args.s.now c.args.self.at 0 = c.from-first.ensures in
    let inside : c.args.self.at < c.args.self.end = omega arith in
    rw e (joined-all c.args.s.now c.args.self.end c.requires c.args.self.at c.args.self.at (get_or c.args.s.now c.args.self.at 0) refl (omega arith) inside
    ∙ ap (λ r. answer c.args.self.end (within64 r)) (sym (ran-last c.args.s.now c.args.self.end c.requires c.args.self.at c.args.self.at inside (omega arith) (ran-none c.args.s.now c.args.self.end c.requires c.args.self.at))))

pub returns-then-end-last : goal.returns-then-end-last
unfolding varint_at answer
returns-then-end-last c = sym (ap (answer c.args.self.end) (c.last_byte-last.ensures.missing c.if-end-last.true))

pub returns : goal.returns
unfolding varint_at read_varint
returns c = c.joined.ensures ∙ ap (λ r. answer c.args.self.end (within64 r)) (sym (c.last_byte-last.ensures.found c.if-end-last.false))
