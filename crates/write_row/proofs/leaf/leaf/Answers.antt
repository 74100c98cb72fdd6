-- `write_row::leaf::leaf` meets its contract.
use Rattle.write_row.proofs.Facts.{held-text, held-value}
use Rattle.write_row.specs.Row.{leaf_of}
use Rattle.write_row.proofs.leaf.leaf.Goals as goal

pub returns-in-Varint : goal.returns-in-Varint
unfolding leaf_of
returns-in-Varint c = held-value c.args.node c.args.at.row c.args.labelled c.in-Varint.is c.varint.ensures

pub returns-in-Float64 : goal.returns-in-Float64
unfolding leaf_of
returns-in-Float64 c = held-value c.args.node c.args.at.row c.args.labelled c.in-Float64.is c.float64.ensures

pub returns-in-Fixed : goal.returns-in-Fixed
unfolding leaf_of
returns-in-Fixed c = held-value c.args.node c.args.at.row c.args.labelled c.in-Fixed.is c.fixed.ensures

pub returns-in_default : goal.returns-in_default
returns-in_default c = held-text c.args.node c.args.at.row c.args.labelled c.args.leaf c.in_default.not-Varint c.in_default.not-Float64 c.in_default.not-Fixed c.is_judged.ensures c.text.ensures
