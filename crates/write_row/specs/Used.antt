-- Every value takes a row of its own, so an array of more entries than there are rows does not fit; and what does not fit is refused with 42 or 28.
use Rattle.std.specs.Prelude.{refl, Bool, true, false, List, [], ◌∷◌, ℕ, zero, suc, ◌+◌, ◌≤◌, eqb, ℤ, length}
use Rattle.std.proofs.Math.Option.{Option, none, some}
use Rattle.std.proofs.Common.{arith}
use Rattle.format.specs.Answer.{Answer, ok, ◌>>=◌, or_refuse}
use Rattle.format.specs.Table.{Wire, boolean, array, fields, block, Node, plain, nullable, top_of, Fields, no_field, field, Leaf, string, varint, float64, bytes, fixed, Held}
use Rattle.format.specs.Row.{Text, Cell, absent_row, null_row, integer_row, float_row, string_row, bytes_row, fixed_row, record_row, array_row}
use Rattle.format.specs.Read.{field_count, absent_label, null_label}
use Rattle.format.specs.Utf8.{is_text}
use Rattle.format.specs.Write.{Event, Rest, next_in, next, Fit, is_bare, word_in, text_in, truth_in, mark_or, fit_entries, fit_field, fit_leaf, fit_wire, fit_node, fit_all}
use Rattle.format.specs.Claims.{is_one_of}
use Rattle.format.specs.Row as said
use Rattle.theory.specs.Says.{Says, says-ok, says-refuse, says-bind, says-need, says-or, Any}

abbrev pub row_numbers : List ℕ
row_numbers = 28 ∷ 42 ∷ []

-- at least n of the rows are used
abbrev Uses : ℕ → Rest → List Event × Rest → Type 0
Uses n r x = n + length x.1.cells ≤ length r.cells

abbrev pub UsesIn : ℕ → Fit → Type 0
UsesIn n f = (r : Rest) → Says row_numbers (Uses n r) (f r)

-- the next row, of which p is what is left
abbrev After : Rest → said.Says Text × Rest → Type 0
After r p = 1 + length p.1.cells ≤ length r.cells

next-uses : (node i : ℕ) (cs : List (Option Cell)) → Says row_numbers (λ p. 1 + length p.1.cells ≤ length cs) (next_in node i cs)
unfolding next_in is_one_of
next-uses node i [] = says-refuse refl
next-uses node i (none ∷ cs) = says-refuse refl
next-uses node i (some c ∷ cs) = let h : 1 + length cs ≤ suc (length cs) = omega arith in says-need (eqb c.node node) 42 i _ refl λ e. says-ok h

-- a row, and then what keeps to the rows after it
row-uses : (node : ℕ) (r : Rest) (f : said.Says Text × Rest → Answer (List Event × Rest)) → ((p : said.Says Text × Rest) → After r p → Says row_numbers (Uses 1 r) (f p)) → Says row_numbers (Uses 1 r) (next node r >>= f)
row-uses node r f h = says-bind (next node r) f (next-uses node r.at r.cells) h

-- what the cell has to show for it, or 42
found-uses : {A : Type 0} (r : Rest) (o : Option A) (f : A → Answer (List Event × Rest)) → ((a : A) → Says row_numbers (Uses 1 r) (f a)) → Says row_numbers (Uses 1 r) (or_refuse o 42 r.at >>= f)
unfolding is_one_of
found-uses r o f h = says-bind (or_refuse o 42 r.at) f (says-or {P = λ a. Any a} o 42 r.at refl (λ a e. tt)) (λ a u. h a)

-- so is the row alone
one-uses : {A : Type 0} (node : ℕ) (r : Rest) (g : said.Says Text → Option A) (b : A → List Event) → Says row_numbers (Uses 1 r) (next node r >>= (λ p. or_refuse (g p.0) 42 r.at >>= (λ a. ok (b a, p.1))))
one-uses node r g b = row-uses node r _ λ p h. found-uses r (g p.0) _ λ a. says-ok h

leaf-uses : (k : ℕ) (l : Leaf) (node : ℕ) (labelled : Bool) → UsesIn 1 (λ r. fit_leaf k l node labelled r)
unfolding fit_leaf is_one_of
leaf-uses k string node labelled r = row-uses node r _ λ p h. found-uses r (text_in string_row p.0) _ λ v. says-need (is_text v) 28 r.at _ refl λ e. says-ok h
leaf-uses k bytes node labelled r = one-uses node r (text_in bytes_row) _
leaf-uses k varint node labelled r = one-uses node r (word_in integer_row) _
leaf-uses k float64 node labelled r = one-uses node r (word_in float_row) _
leaf-uses k (fixed n) node labelled r = row-uses node r _ λ p h. found-uses r (text_in fixed_row p.0) _ λ v. says-need (eqb (length v) n) 42 r.at _ refl λ e. says-ok h

pub entries-use : (n : ℕ) (f : Fit) → UsesIn 1 f → UsesIn n (λ r. fit_entries n f r)
unfolding fit_entries
entries-use zero f h r = let b : 0 + length r.cells ≤ length r.cells = omega arith in says-ok b
entries-use (suc n) f h r = says-bind (f r) _ (h r) λ p a. says-bind (fit_entries n f p.1) _ (entries-use n f h p.1) λ q b.
    let c : suc n + length q.1.cells ≤ length r.cells = omega arith in
    says-ok c

mark-uses : (b : Bool) (l : ℤ) (f : Fit) → UsesIn 1 f → (r : Rest) (p : said.Says Text × Rest) → After r p → Says row_numbers (Uses 1 r) (mark_or b l p.1 f r)
unfolding mark_or
mark-uses true l f h r p a = says-ok a
mark-uses false l f h r p a = h r

field-uses : (o : Bool) (node : ℕ) (f : Bool → Fit) → ((b : Bool) → UsesIn 1 (f b)) → UsesIn 1 (λ r. fit_field o node f r)
unfolding fit_field
field-uses false node f h r = h false r
field-uses true node f h r = row-uses node r _ λ p a. mark-uses (is_bare absent_row 0 p.0) absent_label (f true) (h true) r p a

module _ (held : ℕ → Held) where
  mutual
    unfolding fit_wire fit_node fit_all is_one_of

    wire-uses : (w : Wire) (node : ℕ) (labelled : Bool) → UsesIn 1 (λ r. fit_wire held w node labelled r)
    wire-uses boolean node labelled r = one-uses node r truth_in _
    wire-uses (array w) node labelled r = row-uses node r _ λ p a. found-uses r (word_in array_row p.0) _ λ n.
        says-bind (fit_entries n (λ t. fit_node held w false t) p.1) _ (entries-use n (λ t. fit_node held w false t) (λ t. node-uses w false t) p.1) λ q b.
        let c : 1 + length q.1.cells ≤ length r.cells = omega arith in
        says-ok c
    wire-uses (fields fs) node labelled r = row-uses node r _ λ p a. says-need (is_bare record_row (field_count fs) p.0) 42 r.at _ refl λ e. says-bind (fit_all held fs p.1) _ (all-use fs p.1) λ q b.
        let c : 1 + length q.1.cells ≤ length r.cells = omega arith in
        says-ok c
    wire-uses (block k) node labelled r = leaf-uses k (held k).leaf node labelled r

    pub node-uses : (w : Node) (labelled : Bool) → UsesIn 1 (λ r. fit_node held w labelled r)
    node-uses (plain i w) labelled r = wire-uses w i labelled r
    node-uses (nullable i w) labelled r = row-uses i r _ λ p a. mark-uses (is_bare null_row 0 p.0) null_label (λ t. fit_wire held w i true t) (λ t. wire-uses w i true t) r p a

    all-use : (fs : Fields) → UsesIn 0 (λ r. fit_all held fs r)
    all-use no_field r = let b : 0 + length r.cells ≤ length r.cells = omega arith in says-ok b
    all-use (field o w fs) r = says-bind (fit_field o (top_of w) (λ b t. fit_node held w b t) r) _ (field-uses o (top_of w) (λ b t. fit_node held w b t) (λ b t. node-uses w b t) r) λ p a.
        says-bind (fit_all held fs p.1) _ (all-use fs p.1) λ q b.
        let c : 0 + length q.1.cells ≤ length r.cells = omega arith in
        says-ok c
