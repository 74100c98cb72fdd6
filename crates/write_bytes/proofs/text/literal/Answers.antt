-- `write_bytes::text::literal` meets its contract.
use native.Mathlib.Omega.{arith}
use lib.IntN.{pos}
use Rattle.label.specs.Laws.{label-most}
use Rattle.write_bytes.specs.Short.{slice-short}
use Rattle.write_bytes.specs.Does.{puts-done}
use Rattle.write_bytes.proofs.Facts.{met, puts_signed}
use Rattle.write_bytes.proofs.Stores.{part-slice}
use Rattle.write_bytes.proofs.Texts.{literal-stop, literal-full, literal-good, literal-done}
use Rattle.write_bytes.proofs.text.literal.Goals as goal

pub returns-in_err-next : goal.returns-in_err-next
returns-in_err-next c = rw (met c.from_residual.ensures.1) (literal-stop _ _ _ _ _ _ _ c.requires.0 c.requires.3 (puts_signed (record { sfits = c.count_label.type_inv }) c.count_label.ensures c.put_label.ensures) c.in_err-next.was)

pub emit_short-requires : goal.emit_short-requires
emit_short-requires c = (c.requires.0.good, record { first = omega (arith, (puts-done (puts_signed (record { sfits = c.count_label.type_inv }) c.count_label.ensures c.put_label.ensures) c.in_ok-next.was).1, label-most (pos c.args.place.size), c.requires.1.first); others = omega (arith, c.requires.1.others) }, c.requires.2, slice-short c.args.pool.now _ _ c.requires.0.small)

pub returns-in_err-end : goal.returns-in_err-end
returns-in_err-end c = rw (met c.from_residual-in_err-end.ensures.1) (literal-full _ _ _ _ _ _ _ c.requires.0 c.requires.3 (puts_signed (record { sfits = c.count_label.type_inv }) c.count_label.ensures c.put_label.ensures) c.in_ok-next.was (rw (part-slice c.args.pool.now (record { start = c.args.place.start; size = c.args.place.size })) at c.emit_short.ensures) c.in_err-end.was)

pub keep-requires : goal.keep-requires
keep-requires c = (literal-good _ _ c.args.numbered _ _ _ _ c.requires.0 c.requires.3 (puts_signed (record { sfits = c.count_label.type_inv }) c.count_label.ensures c.put_label.ensures) c.in_ok-next.was (rw (part-slice c.args.pool.now (record { start = c.args.place.start; size = c.args.place.size })) at c.emit_short.ensures) c.in_ok-end.was, c.requires.2, c.requires.4, c.requires.5)

pub returns : goal.returns
returns c = literal-done _ _ _ _ _ _ _ c.requires.0 c.requires.3 (puts_signed (record { sfits = c.count_label.type_inv }) c.count_label.ensures c.put_label.ensures) c.in_ok-next.was (rw (part-slice c.args.pool.now (record { start = c.args.place.start; size = c.args.place.size })) at c.emit_short.ensures) c.in_ok-end.was c.requires.6 c.keep.ensures
