-- `write_bytes::value::emit_short` meets its contract.
use native.Mathlib.Omega.{arith}
use Rattle.write_bytes.specs.Does.{puts-done}
use Rattle.write_bytes.proofs.Values.{place-found, place-within, value-nowhere, value-full, value-done}
use Rattle.write_bytes.proofs.Facts.{met}
use Rattle.write_bytes.proofs.value.emit_short.Goals as goal

pub returns-in_err-at : goal.returns-in_err-at
returns-in_err-at g c = rw (met c.from_residual.ensures.1) (value-nowhere _ _ _ _ c.place.ensures _ c.in_err-at.was)

pub put_bytes-requires : goal.put_bytes-requires
put_bytes-requires g c = omega (arith, place-within _ _ _ _ c.place.ensures c.requires.1 c.in_ok-at.was)

pub returns-in_err-end : goal.returns-in_err-end
returns-in_err-end g c = rw (met c.from_residual-in_err-end.ensures.1) (value-full _ _ _ _ c.place.ensures _ c.in_ok-at.was c.put_bytes.ensures c.in_err-end.was)

pub move_to-requires : goal.move_to-requires
move_to-requires g c = (c.requires.0, c.requires.2, omega (arith, place-within _ _ _ _ c.place.ensures c.requires.1 c.in_ok-at.was, (puts-done c.put_bytes.ensures c.in_ok-end.was).1, g.met.B.AsBytes.short_bounded c.args.value c.requires.3), place-found _ _ _ _ c.place.ensures c.in_ok-at.was)

pub returns : goal.returns
returns g c = value-done _ _ _ _ c.place.ensures _ c.in_ok-at.was c.put_bytes.ensures c.in_ok-end.was c.move_to.ensures.value c.move_to.ensures.changes
