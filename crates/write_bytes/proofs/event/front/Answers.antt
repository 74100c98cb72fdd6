-- `write_bytes::event::front` meets its contract.
use Rattle.write_bytes.proofs.Events.{front-none, front-zero}
use Rattle.write_bytes.proofs.event.front.Goals as goal

pub returns-then-not-labelled : goal.returns-then-not-labelled
returns-then-not-labelled c =
    let (f, n) = front-none c.if-not-labelled.true in
    record { fronts = f; near = n }

pub returns : goal.returns
returns c =
    let (f, n) = front-zero c.if-not-labelled.false c.put_label.ensures in
    record { fronts = f; near = n }
