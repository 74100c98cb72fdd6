-- `write_bytes::bytes::put_bytes` meets its contract.
use mathlib.Core.Path.{sym}
use Rattle.write_bytes.proofs.Facts.{puts-counted, puts-full, puts-stored}
use Rattle.write_bytes.proofs.bytes.put_bytes.Goals as goal

pub returns-then-not-put : goal.returns-then-not-put
returns-then-not-put g c = puts-counted _ _ _ _ (sym c.size.ensures.value) _ c.if-not-put.true

pub returns-then-is_over : goal.returns-then-is_over
returns-then-is_over g c = puts-full _ _ _ _ (sym c.size.ensures.value) _ c.if-not-put.false c.is_over.ensures c.if-is_over.true

pub returns : goal.returns
returns g c = puts-stored _ _ _ _ (sym c.size.ensures.value) _ c.if-not-put.false c.is_over.ensures c.if-is_over.false c.write.ensures
