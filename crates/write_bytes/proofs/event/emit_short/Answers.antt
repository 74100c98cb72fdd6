-- `write_bytes::event::emit_short` meets its contract.
use Rattle.write_bytes.proofs.Events.{event-stop, event-value}
use Rattle.write_bytes.proofs.Facts.{met}
use Rattle.write_bytes.proofs.event.emit_short.Goals as goal

pub returns-in_err-next : goal.returns-in_err-next
returns-in_err-next g c = rw (met c.from_residual.ensures.1) (event-stop _ _ _ _ _ _ c.front.ensures.fronts c.in_err-next.was)

pub returns : goal.returns
returns g c = event-value _ _ _ _ _ _ c.front.ensures.fronts c.in_ok-next.was c.emit_short.ensures
