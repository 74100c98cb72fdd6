-- `read_walk::opening::null_label` meets its contract.
use mathlib.Core.Path.{sym, ◌∙◌}
use mir.Syntax.{w64}
use mir.ValLaws.{to_z-of_z}
use Rattle.read_walk.proofs.Fronts.{null-error, null-25, null_null, null-here}
use Rattle.read_walk.proofs.opening.null_label.Goals as goal

pub returns-then-out_of_band_field_errors : goal.returns-then-out_of_band_field_errors
returns-then-out_of_band_field_errors c = null-error c.args.modes c.args.l _ (to_z-of_z w64 c.args.l c.ranges.l) c.is_label.ensures c.if-is_label.true (sym c.out_of_band_field_errors.ensures ∙ c.if-out_of_band_field_errors.true)

pub returns-then-is_label : goal.returns-then-is_label
returns-then-is_label c = null-25 c.args.modes c.args.l _ (to_z-of_z w64 c.args.l c.ranges.l) c.is_label.ensures c.if-is_label.true (sym c.out_of_band_field_errors.ensures ∙ c.if-out_of_band_field_errors.false)

pub returns-then-is_label-2 : goal.returns-then-is_label-2
returns-then-is_label-2 c = null_null c.args.modes c.args.l _ (to_z-of_z w64 c.args.l c.ranges.l) c.is_label.ensures c.is_label-2.ensures c.if-is_label.false c.if-is_label-2.true

pub returns : goal.returns
returns c = null-here c.args.modes c.args.l _ (to_z-of_z w64 c.args.l c.ranges.l) c.is_label.ensures c.is_label-2.ensures c.if-is_label.false c.if-is_label-2.false
