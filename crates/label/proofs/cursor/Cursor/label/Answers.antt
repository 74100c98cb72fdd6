-- `label::cursor::Cursor::label` meets its contract: a label is a number's zig-zag undone.
use Rattle.std.proofs.Common.{◌≡◌, ℕ, List, ℤ, Option, Some, None, refl, ap, ◌∙◌, w64}
use mathlib.Core.Option.{Option as Maybe, none, some}
use lib.Seq.{slice}
use mir.ValLaws.{to_z-of_z}
use Rattle.format.specs.Label.{unzigzag, read_varint, read_label, signed_of}
use Rattle.label.specs.declared.cursor.Cursor.{Cursor}
use Rattle.label.specs.Cursor.{answer, varint_at, label_at}
use Rattle.label.proofs.cursor.Cursor.label.Goals as goal

abbrev signed : Option (ℕ × Cursor) → Option (ℤ × Cursor)
signed (Some r) = Some (unzigzag r.0, r.1)
signed None = None

signed-answer : (end : ℕ) (o : Maybe (ℕ × List ℕ)) → signed (answer end o) ≡ answer end (signed_of o)
unfolding answer signed_of
signed-answer end none = refl
signed-answer end (some r) = refl

label_is : (s : List ℕ) (c : Cursor) → signed (varint_at s c) ≡ label_at s c
unfolding varint_at label_at read_label
label_is s c = signed-answer c.end (read_varint (slice c.at c.end s))

pub returns-in_err-z : goal.returns-in_err-z
returns-in_err-z c = c.from_residual.ensures ∙ ap signed (c.in_err-z.ensures) ∙ label_is c.args.s.now c.args.self

pub returns : goal.returns
returns c =
    ap (λ (n : ℤ). Some (n, c.in_ok-z.next)) (to_z-of_z w64 _ (record { sfits = c.unzigzag.type_inv }) ∙ c.unzigzag.ensures)
    ∙ ap signed (c.in_ok-z.ensures)
    ∙ label_is c.args.s.now c.args.self
