-- The row of a record or an array itself, at each return: from the values that it holds to the whole. Assumes nothing.
use mathlib.Core.Path.{◌≡◌, sym, ap, ◌∙◌}
use mathlib.Core.Bool.{Bool, true, false, cond}
use mathlib.Core.List.{List}
use mathlib.Core.Option.{none, some}
use Prim.Native.Nat.{ℕ, ◌^◌, ◌<◌}
use Rattle.std.specs.Prelude.{Result, Ok, Err}
use Rattle.format.specs.Label.{integer}
use Rattle.format.specs.declared.refusal.Refusal.{Refusal}
use Rattle.format.specs.declared.refusal.Refusal.TheVariants.{Unfit}
use Rattle.format.specs.Table.{node_at, RECORD, ARRAY}
use Rattle.format.specs.Row.{array_row}
use Rattle.laws.specs.Facts.{absurd-bool}
use Rattle.write_row.specs.declared.Progress.{Progress}
use Rattle.write_bytes.specs.declared.Pass.{Pass}
use Rattle.write_row.specs.Rest.{rest_of}
use Rattle.write_row.specs.Judged.{value_in}
use Rattle.write_row.specs.Fits.{looked, value_there}
use Rattle.write_row.specs.Opens.{fit_record}
use Rattle.write_row.specs.Row.{Marks, WritesRow}
use Rattle.write_walk.specs.Own.{IsHolder, Makes, Stops}
use Rattle.write_walk.proofs.ByKind.{row-holds, mark-holds, wire-array, record-not, record-then, array-none, array-refused, array-then}

module _ (put : Bool) (table pool rows out : List ℕ) (core i node top : ℕ) (array labelled : Bool) (h : IsHolder table node array) where
  module _ (z : array ≡ true) where
    is-array : (node_at table node).kind ≡ ARRAY
    is-array = h ∙ ap (λ b. cond b ARRAY RECORD) z

    not-record : {P : Type 0} → array ≡ false → P
    not-record e = absurd-bool (sym e ∙ z)

    pub own-none : value_in array_row (looked pool rows top i) ≡ none → Stops put table pool rows out core i node top array labelled out (Unfit i)
    own-none e = record {
      writes = λ how q w g. wire-array how table pool rows out w i core node g top is-array (array-none how table pool rows out w i core node g top is-array e);
    }

    module _ {n : ℕ} {out₁ : List ℕ} {r₁ : Result Progress Refusal} (e : value_in array_row (looked pool rows top i) ≡ some n) (b : n < 2 ^ 64) (d : Marks put out out₁ i core r₁ (integer n)) where
      marks : (how : Pass) → how.put ≡ put → Marks how.put out out₁ i core r₁ (integer n)
      marks how q = rw q d

      pub own-array-not : {m : Refusal} → r₁ ≡ Err m → Stops put table pool rows out core i node top array labelled out₁ m
      own-array-not q = record {
        writes = λ how p w g. wire-array how table pool rows out w i core node g top is-array (array-refused how table pool rows out w i core node g top is-array e b (marks how p) q);
      }

      pub own-array : {m : Progress} → r₁ ≡ Ok m → Makes put table pool rows out core i node top array labelled out₁ n m.row m.core
      own-array q = record {
        said = λ y. e;
        listed = λ y. not-record y;
        remaining = λ how p w g. record {
          holds = mark-holds g (value_there pool rows top i array_row e) (marks how p) q;
          entries = λ y u. wire-array how table pool rows out w i core node g top is-array (array-then how table pool rows out w i core node g top is-array e b (marks how p) q u);
          fields = λ y. not-record y;
        };
      }

  module _ (z : array ≡ false) where
    is-record : (node_at table node).kind ≡ RECORD
    is-record = h ∙ ap (λ b. cond b ARRAY RECORD) z

    not-array : {P : Type 0} → array ≡ true → P
    not-array e = absurd-bool (sym z ∙ e)

    module _ {n : ℕ} {out₁ : List ℕ} {r₁ : Result Progress Refusal} (c : n ≡ (node_at table node).argument) (d : WritesRow put pool rows out out₁ i core r₁ (fit_record n top labelled (rest_of pool rows i))) where
      row_of : (how : Pass) → how.put ≡ put → WritesRow how.put pool rows out out₁ i core r₁ (fit_record n top labelled (rest_of pool rows i))
      row_of how q = rw q d

      pub own-record-not : {m : Refusal} → r₁ ≡ Err m → Stops put table pool rows out core i node top array labelled out₁ m
      own-record-not q = record {
        writes = λ how p w g. record-not how table pool rows out w i core node g top labelled is-record c (row_of how p) q;
      }

      pub own-record : {m : Progress} → r₁ ≡ Ok m → Makes put table pool rows out core i node top array labelled out₁ n m.row m.core
      own-record q = record {
        said = λ y. not-array y;
        listed = λ y. c;
        remaining = λ how p w g. record {
          holds = row-holds g (row_of how p) q;
          entries = λ y. not-array y;
          fields = λ y u. record-then how table pool rows out w i core node g top labelled is-record c (row_of how p) q u;
        };
      }
