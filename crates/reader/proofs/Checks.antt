-- The table's check in front of a message's reading.
use mathlib.Core.Path.{◌≡◌, refl, sym, ap, ◌∙◌}
use mathlib.Core.List.{List}
use Prim.Native.Nat.{ℕ}
use lib.ListN.{length}
use Rattle.std.specs.Prelude.{Result, Ok, Err}
use Rattle.format.specs.Answer.{◌>>=◌, number, output, zeros}
use Rattle.format.specs.Refusal.{answered, refused}
use Rattle.format.specs.declared.refusal.Refusal.{Refusal}
use Rattle.format.specs.Table.{check}
use Rattle.format.specs.Row.{words}
use Rattle.format.specs.Read.{read_checked, read}
use Rattle.table.specs.Answers.{mapped, mapped-number, answers-err}
use Rattle.wire_types.specs.Root.{check-then}
use Rattle.reader.specs.Reader.{rows_of}

module _ (table m w l : List ℕ) {r : Result ℕ Refusal} (h : answered r ≡ mapped (λ s. s.count) (check (length w) table)) where
  -- the check refuses: so does the call
  module _ {e : Refusal} (q : r ≡ Err e) where
    read-not : read (length w) table m (length l) ≡ refused e
    unfolding read ◌>>=◌
    read-not = rw (answers-err (λ s. s.count) (check (length w) table) h q) refl

    pub answer-refused : answered {A = ℕ} (Err e) ≡ mapped (λ rs. length rs) (read (length w) table m (length l))
    answer-refused = rw read-not refl

    pub rows-refused : {l₁ : List ℕ} → l₁ ≡ zeros (length l) → l₁ ≡ output words (length l) (read (length w) table m (length l))
    unfolding output
    rows-refused z = rw read-not z

  -- it accepts: then the message decides
  module _ {n : ℕ} (q : r ≡ Ok n) where
    pub accepts : number (check (length w) table) ≡ 0
    unfolding number
    accepts = sym (mapped-number (λ s. s.count) (check (length w) table)) ∙ ap number (sym h ∙ ap answered q)

    pub read_is : rows_of table m (length l) ≡ read (length w) table m (length l)
    unfolding rows_of read
    read_is = check-then table (length w) accepts (λ s. read_checked s m (length l))
