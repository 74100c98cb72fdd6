-- `write_bytes::layout::framed` meets its contract.
use mathlib.Core.Path.{◌≡◌}
use native.Mathlib.Omega.{arith}
use lib.IntN.{pos}
use Rattle.format.specs.Label.{label_size}
use Rattle.label.specs.Laws.{label-most}
use Rattle.write_bytes.proofs.Facts.{signed_is}
use Rattle.write_bytes.proofs.layout.framed.Goals as goal

pub overflow_add-result : goal.overflow_add-result
overflow_add-result c =
    let e = signed_is (record { sfits = c.count_label.type_inv }) c.count_label.ensures in
    let s : c.label_size.result ≡ label_size (pos c.args.size) = rw e at c.label_size.ensures in
    omega (arith, label-most (pos c.args.size))

pub returns : goal.returns
returns c =
    let e = signed_is (record { sfits = c.count_label.type_inv }) c.count_label.ensures in
    let s : c.label_size.result ≡ label_size (pos c.args.size) = rw e at c.label_size.ensures in
    (omega arith, omega (arith, label-most (pos c.args.size)))
