-- `Label::size` meets its contract.
use native.Mathlib.Omega.{arith}
use mir.Syntax.{w64}
use mir.Val.{to_z, of_z}
use Rattle.label.specs.Laws.{label-most}
use Rattle.write_bytes.proofs.encoded.LabelEncoded.size.Goals as goal

pub returns-clause-upper_bound : goal.returns-clause-upper_bound
returns-clause-upper_bound c = omega (arith, c.label_size.ensures, label-most (to_z w64 (of_z w64 c.args.self.0)))
