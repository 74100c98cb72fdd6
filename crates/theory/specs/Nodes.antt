-- The node of a row that fits is a function of the rest: rows that fit and say the same are the same.
use Rattle.std.proofs.Math.Path.{◌≡◌, sym, ap₂}
use Rattle.std.specs.Prelude.{refl, Bool, length}
use Rattle.std.proofs.Common.{◌∙◌, ap, inl, inr, ext_get_or}
use Rattle.std.proofs.Math.Bool.{true, false}
use mathlib.Core.List.{List, [], ◌∷◌, ◌++◌, map, append_assoc, map-append}
use Rattle.std.proofs.Math.Option.{Option, none, some}
use Prim.Native.Nat.{ℕ, zero, suc, ◌+◌, ◌*◌, ◌/◌, ◌%◌, ◌≤◌, ◌<◌}
use native.Mathlib.Omega.{arith}
use Rattle.std.proofs.Math.ListN.{get_or}
use Rattle.format.specs.Table.{Wire, boolean, array, fields, block, Node, plain, nullable, top_of, Fields, no_field, field, Leaf, string, varint, float64, bytes, fixed, Held}
use Rattle.format.specs.Row.{Says, bare, placed, row, Place, Text, Cell, is_inside, under, row_node, row_at, row_count, row_width, says_of, cell_of, shown_at, shown_from, null_row, absent_row, array_row}
use Rattle.format.specs.Claims.{FitsLeaf, Several, OrAbsent, FitsWire, FitsNode, FitsAll, NodesFollow}
use Rattle.laws.specs.Facts.{by_bool, by-lt, absurd-some, some_same}

abbrev said : List Cell → List (Says Text)
said cs = map (λ c. c.says) cs

-- Trees that fit, at the front of lists that say the same, are the same, and so is what follows them.
abbrev Fixed : (List Cell → Type 0) → Type 0
Fixed fits = (cs ds : List Cell) (xs ys : List (Says Text)) → fits cs → fits ds → said cs ++ xs ≡ said ds ++ ys → (cs ≡ ds) × (xs ≡ ys)

-- of one row under node i
one-fixed : (i : ℕ) (x y : Says Text) (cs ds : List Cell) (xs ys : List (Says Text)) → cs ≡ row i x ∷ [] → ds ≡ row i y ∷ [] → said cs ++ xs ≡ said ds ++ ys → (cs ≡ ds) × (xs ≡ ys)
one-fixed i x y cs ds xs ys c d e =
    let z : x ∷ xs ≡ y ∷ ys = rw (c, d) at e in
    let head : x ≡ y = cc in
    let tail : xs ≡ ys = cc in
    (c ∙ (ap (λ s. row i s ∷ []) head ∙ sym d), tail)

-- of a row under node i and of what is below it
below-fixed : (fits : List Cell → Type 0) → Fixed fits → (i : ℕ) (x y : Says Text) (cs ds below below₁ : List Cell) (xs ys : List (Says Text))
    → cs ≡ row i x ∷ below → ds ≡ row i y ∷ below₁ → fits below → fits below₁ → said cs ++ xs ≡ said ds ++ ys → (cs ≡ ds) × (xs ≡ ys)
below-fixed fits ih i x y cs ds below below₁ xs ys c d f g e =
    let z : x ∷ (said below ++ xs) ≡ y ∷ (said below₁ ++ ys) = rw (c, d) at e in
    let head : x ≡ y = cc in
    let tail : said below ++ xs ≡ said below₁ ++ ys = cc in
    let (same, rest) = ih below below₁ xs ys f g tail in
    (c ∙ (ap₂ (λ s bs. row i s ∷ bs) head same ∙ sym d), rest)

said-both : (cs ds : List Cell) (xs : List (Says Text)) → said (cs ++ ds) ++ xs ≡ said cs ++ (said ds ++ xs)
said-both cs ds xs = rw (map-append, append_assoc) refl

-- of two trees, one after the other
both-fixed : (first second : List Cell → Type 0) → Fixed first → Fixed second → (cs ds cs₁ ds₁ cs₂ ds₂ : List Cell) (xs ys : List (Says Text))
    → cs ≡ cs₁ ++ cs₂ → ds ≡ ds₁ ++ ds₂ → first cs₁ → first ds₁ → second cs₂ → second ds₂ → said cs ++ xs ≡ said ds ++ ys → (cs ≡ ds) × (xs ≡ ys)
both-fixed first second ih₁ ih₂ cs ds cs₁ ds₁ cs₂ ds₂ xs ys c d f f₁ g g₁ e =
    let z : said (cs₁ ++ cs₂) ++ xs ≡ said (ds₁ ++ ds₂) ++ ys = rw (c, d) at e in
    let (same, rest) = ih₁ cs₁ ds₁ (said cs₂ ++ xs) (said ds₂ ++ ys) f f₁ (sym (said-both cs₁ cs₂ xs) ∙ (z ∙ said-both ds₁ ds₂ ys)) in
    let (same₁, rest₁) = ih₂ cs₂ ds₂ xs ys g g₁ rest in
    (c ∙ (ap₂ (λ es fs. es ++ fs) same same₁ ∙ sym d), rest₁)

leaf-fixed : (l : Leaf) (i : ℕ) → Fixed (FitsLeaf l i)
leaf-fixed string i cs ds xs ys (v, c, t) (w, d, u) e = one-fixed i _ _ cs ds xs ys c d e
leaf-fixed bytes i cs ds xs ys (v, c) (w, d) e = one-fixed i _ _ cs ds xs ys c d e
leaf-fixed varint i cs ds xs ys (v, h, c) (w, g, d) e = one-fixed i _ _ cs ds xs ys c d e
leaf-fixed float64 i cs ds xs ys (v, h, c) (w, g, d) e = one-fixed i _ _ cs ds xs ys c d e
leaf-fixed (fixed n) i cs ds xs ys (v, h, c) (w, g, d) e = one-fixed i _ _ cs ds xs ys c d e

several-fixed : (fits : List Cell → Type 0) → Fixed fits → (n : ℕ) → Fixed (Several fits n)
unfolding Several
several-fixed fits ih zero cs ds xs ys c d e = (c ∙ sym d, rw (c, d) at e)
several-fixed fits ih (suc n) cs ds xs ys (cs₁, cs₂, c, f, g) (ds₁, ds₂, d, f₁, g₁) e =
    both-fixed fits (Several fits n) ih (several-fixed fits ih n) cs ds cs₁ ds₁ cs₂ ds₂ xs ys c d f f₁ g g₁ e

-- The kind of a tree's first row tells a null and an absent field from any other value.
unfoldable kind_of : Says Text → ℕ
kind_of (bare k a) = k
kind_of (placed k v) = k

abbrev Begins : (ℕ → Type 0) → List Cell → Type 0
Begins P cs = (c : Cell) × (rest : List Cell) × (cs ≡ c ∷ rest) × P (kind_of c.says)

leaf-begins : (l : Leaf) (i : ℕ) (cs : List Cell) → FitsLeaf l i cs → Begins (λ k. 2 ≤ k) cs
unfolding kind_of
leaf-begins string i cs (v, e, t) = (_, _, e, omega arith)
leaf-begins bytes i cs (v, e) = (_, _, e, omega arith)
leaf-begins varint i cs (a, h, e) = (_, _, e, omega arith)
leaf-begins float64 i cs (a, h, e) = (_, _, e, omega arith)
leaf-begins (fixed n) i cs (v, h, e) = (_, _, e, omega arith)

-- lists that say the same begin with the same kind
begins-other : (P : ℕ → Type 0) (i k : ℕ) (cs ds : List Cell) (xs ys : List (Says Text)) → (P k → ⊥) → cs ≡ row i (bare k 0) ∷ [] → Begins P ds → said cs ++ xs ≡ said ds ++ ys → ⊥
unfolding kind_of
begins-other P i k cs ds xs ys out c (d, rest, is, p) e =
    let z : bare k 0 ∷ xs ≡ d.says ∷ (said rest ++ ys) = rw (c, is) at e in
    let head : bare k 0 ≡ d.says = cc in
    out (rw (← head) at p)

module _ (held : ℕ → Held) where
  wire-begins : (w : Wire) (i : ℕ) (cs : List Cell) → FitsWire held w i cs → Begins (λ k. 2 ≤ k) cs
  unfolding FitsWire kind_of
  wire-begins boolean i cs (inl e) = (_, _, e, omega arith)
  wire-begins boolean i cs (inr e) = (_, _, e, omega arith)
  wire-begins (array w) i cs (n, ds, e, f) = (_, _, e, omega arith)
  wire-begins (fields fs) i cs (ds, e, f) = (_, _, e, omega arith)
  wire-begins (block k) i cs f = leaf-begins (held k).leaf i cs f

  node-begins : (w : Node) (cs : List Cell) → FitsNode held w cs → Begins (λ k. k ≡ absent_row → ⊥) cs
  unfolding FitsNode kind_of
  node-begins (plain i w) cs f = let (c, rest, e, h) = wire-begins w i cs f in (c, rest, e, λ z. omega arith)
  node-begins (nullable i w) cs (inl e) = (_, _, e, λ z. omega arith)
  node-begins (nullable i w) cs (inr f) = let (c, rest, e, h) = wire-begins w i cs f in (c, rest, e, λ z. omega arith)

  boolean-fixed : (i : ℕ) → Fixed (λ cs. FitsWire held boolean i cs)
  unfolding FitsWire
  boolean-fixed i cs ds xs ys (inl c) (inl d) e = one-fixed i _ _ cs ds xs ys c d e
  boolean-fixed i cs ds xs ys (inl c) (inr d) e = one-fixed i _ _ cs ds xs ys c d e
  boolean-fixed i cs ds xs ys (inr c) (inl d) e = one-fixed i _ _ cs ds xs ys c d e
  boolean-fixed i cs ds xs ys (inr c) (inr d) e = one-fixed i _ _ cs ds xs ys c d e

  array_fixed : (w : Node) (i : ℕ) → Fixed (λ cs. FitsNode held w cs) → Fixed (λ cs. FitsWire held (array w) i cs)
  unfolding FitsWire
  array_fixed w i ih cs ds xs ys (n, cs₁, c, f) (m, ds₁, d, g) e =
      let z : bare array_row n ∷ (said cs₁ ++ xs) ≡ bare array_row m ∷ (said ds₁ ++ ys) = rw (c, d) at e in
      let counts : n ≡ m = cc in
      below-fixed (Several (λ es. FitsNode held w es) m) (several-fixed (λ es. FitsNode held w es) ih m) i _ _ cs ds cs₁ ds₁ xs ys c d (rw counts at f) g e

  fields-fixed : (fs : Fields) (i : ℕ) → Fixed (λ cs. FitsAll held fs cs) → Fixed (λ cs. FitsWire held (fields fs) i cs)
  unfolding FitsWire
  fields-fixed fs i ih cs ds xs ys (cs₁, c, f) (ds₁, d, g) e = below-fixed (λ es. FitsAll held fs es) ih i _ _ cs ds cs₁ ds₁ xs ys c d f g e

  nullable-fixed : (i : ℕ) (w : Wire) → Fixed (λ cs. FitsWire held w i cs) → Fixed (λ cs. FitsNode held (nullable i w) cs)
  unfolding FitsNode
  nullable-fixed i w ih cs ds xs ys (inl c) (inl d) e = one-fixed i _ _ cs ds xs ys c d e
  nullable-fixed i w ih cs ds xs ys (inl c) (inr g) e = absurd (begins-other (λ k. 2 ≤ k) i null_row cs ds xs ys (λ h. omega arith) c (wire-begins w i ds g) e)
  nullable-fixed i w ih cs ds xs ys (inr f) (inl d) e = absurd (begins-other (λ k. 2 ≤ k) i null_row ds cs ys xs (λ h. omega arith) d (wire-begins w i cs f) (sym e))
  nullable-fixed i w ih cs ds xs ys (inr f) (inr g) e = ih cs ds xs ys f g e

  field_fixed : (o : Bool) (w : Node) → Fixed (λ cs. FitsNode held w cs) → Fixed (OrAbsent o (top_of w) (λ cs. FitsNode held w cs))
  unfolding OrAbsent
  field_fixed false w ih cs ds xs ys f g e = ih cs ds xs ys f g e
  field_fixed true w ih cs ds xs ys (inl c) (inl d) e = one-fixed (top_of w) _ _ cs ds xs ys c d e
  field_fixed true w ih cs ds xs ys (inl c) (inr g) e = absurd (begins-other (λ k. k ≡ absent_row → ⊥) (top_of w) absent_row cs ds xs ys (λ h. h refl) c (node-begins w ds g) e)
  field_fixed true w ih cs ds xs ys (inr f) (inl d) e = absurd (begins-other (λ k. k ≡ absent_row → ⊥) (top_of w) absent_row ds cs ys xs (λ h. h refl) d (node-begins w cs f) (sym e))
  field_fixed true w ih cs ds xs ys (inr f) (inr g) e = ih cs ds xs ys f g e

  none-fixed : Fixed (λ cs. FitsAll held no_field cs)
  unfolding FitsAll
  none-fixed cs ds xs ys c d e = (c ∙ sym d, rw (c, d) at e)

  more-fixed : (o : Bool) (w : Node) (fs : Fields) → Fixed (λ cs. FitsNode held w cs) → Fixed (λ cs. FitsAll held fs cs) → Fixed (λ cs. FitsAll held (field o w fs) cs)
  unfolding FitsAll
  more-fixed o w fs ih ih₁ cs ds xs ys (cs₁, cs₂, c, f, g) (ds₁, ds₂, d, f₁, g₁) e =
      both-fixed (OrAbsent o (top_of w) (λ es. FitsNode held w es)) (λ es. FitsAll held fs es) (field_fixed o w ih) ih₁ cs ds cs₁ ds₁ cs₂ ds₂ xs ys c d f f₁ g g₁ e

  mutual
    unfolding FitsWire FitsNode FitsAll

    wire-fixed : (w : Wire) (i : ℕ) → Fixed (λ cs. FitsWire held w i cs)
    wire-fixed boolean i cs ds xs ys f g e = boolean-fixed i cs ds xs ys f g e
    wire-fixed (array w) i cs ds xs ys f g e = array_fixed w i (λ es gs us vs h k z. node-fixed w es gs us vs h k z) cs ds xs ys f g e
    wire-fixed (fields fs) i cs ds xs ys f g e = fields-fixed fs i (λ es gs us vs h k z. all-fixed fs es gs us vs h k z) cs ds xs ys f g e
    wire-fixed (block k) i cs ds xs ys f g e = leaf-fixed (held k).leaf i cs ds xs ys f g e

    node-fixed : (w : Node) → Fixed (λ cs. FitsNode held w cs)
    node-fixed (plain i w) cs ds xs ys f g e = wire-fixed w i cs ds xs ys f g e
    node-fixed (nullable i w) cs ds xs ys f g e = nullable-fixed i w (λ es gs us vs h k z. wire-fixed w i es gs us vs h k z) cs ds xs ys f g e

    all-fixed : (fs : Fields) → Fixed (λ cs. FitsAll held fs cs)
    all-fixed no_field cs ds xs ys f g e = none-fixed cs ds xs ys f g e
    all-fixed (field o w fs) cs ds xs ys f g e = more-fixed o w fs (λ es gs us vs h k z. node-fixed w es gs us vs h k z) (λ es gs us vs h k z. all-fixed fs es gs us vs h k z) cs ds xs ys f g e

-- The same of the words.

-- what shows is the row's node and what it says
shown-node : (pool : List ℕ) (n n₁ : ℕ) (o : Option (Says Place)) (c c₁ : Cell) → shown_at pool (under n o) ≡ some c → shown_at pool (under n₁ o) ≡ some c₁
    → (n ≡ c.node) × (n₁ ≡ c₁.node) × (c.says ≡ c₁.says)
unfolding shown_at under cell_of
shown-node pool n n₁ none c c₁ e e₁ = absurd-some e
shown-node pool n n₁ (some x) c c₁ e e₁ = by_bool (is_inside (length pool) x)
    (λ t. let is : row n (says_of pool x) ≡ c = some_same (rw t at e) in
    let is₁ : row n₁ (says_of pool x) ≡ c₁ = some_same (rw t at e₁) in
    (ap (λ r. r.node) is, ap (λ r. r.node) is₁, sym (ap (λ r. r.says) is) ∙ ap (λ r. r.says) is₁))
    (λ t. absurd-some (rw t at e))

module _ (pool ws ws₁ : List ℕ) (agree : (i j : ℕ) → j < 3 → get_or ws (row_width * i + j) 0 ≡ get_or ws₁ (row_width * i + j) 0) where
  row-agrees : (i : ℕ) (c d : Cell) → shown_at pool (row_at ws i) ≡ some c → shown_at pool (row_at ws₁ i) ≡ some d → (row_node ws i ≡ c.node) × (row_node ws₁ i ≡ d.node) × (c.says ≡ d.says)
  unfolding row_at
  row-agrees i c d e e₁ =
      let zero_more : row_width * i + 0 ≡ row_width * i = omega arith in
      let kinds : get_or ws (row_width * i) 0 ≡ get_or ws₁ (row_width * i) 0 = rw zero_more at (agree i 0 (omega arith)) in
      shown-node pool (row_node ws i) (row_node ws₁ i) _ c d (rw (kinds, agree i 1 (omega arith), agree i 2 (omega arith)) at e) e₁

  -- from row i on, so many rows
  rows_agree : (n i : ℕ) (cs ds : List Cell) → shown_from pool ws i n ≡ map (λ c. some c) cs → shown_from pool ws₁ i n ≡ map (λ c. some c) ds
      → (said cs ≡ said ds) × (cs ≡ ds → (j : ℕ) → i ≤ j → j < i + n → row_node ws j ≡ row_node ws₁ j)
  unfolding shown_from
  rows_agree zero i [] [] e e₁ = (refl, λ same j from to. absurd (omega arith))
  rows_agree zero i [] (d ∷ ds) e e₁ = absurd (let z : ◌≡◌ {A = ℕ} 0 1 = cc in omega arith)
  rows_agree zero i (c ∷ cs) ds e e₁ = absurd (let z : ◌≡◌ {A = ℕ} 0 1 = cc in omega arith)
  rows_agree (suc n) i [] ds e e₁ = absurd (let z : ◌≡◌ {A = ℕ} 0 1 = cc in omega arith)
  rows_agree (suc n) i (c ∷ cs) [] e e₁ = absurd (let z : ◌≡◌ {A = ℕ} 0 1 = cc in omega arith)
  rows_agree (suc n) i (c ∷ cs) (d ∷ ds) e e₁ =
      let first : shown_at pool (row_at ws i) ≡ some c = cc in
      let first₁ : shown_at pool (row_at ws₁ i) ≡ some d = cc in
      let after : shown_from pool ws (suc i) n ≡ map (λ x. some x) cs = cc in
      let after₁ : shown_from pool ws₁ (suc i) n ≡ map (λ x. some x) ds = cc in
      let (node, node₁, says) = row-agrees i c d first first₁ in
      let (more, nodes) = rows_agree n (suc i) cs ds after after₁ in (
        ap₂ (λ x xs. x ∷ xs) says more,
        λ same j from to. by-lt i j
            (λ h. let rest : cs ≡ ds = cc in
            nodes rest j h (omega arith))
            (λ h. let here : j ≡ i = omega arith in
            let one : c ≡ d = cc in
            rw here (node ∙ (ap (λ r. r.node) one ∙ sym node₁))),
      )

pub nodes-follow : NodesFollow
nodes-follow schema ws ws₁ pool (cs, s, f) (ds, t, g) (sizes, agree) =
    let counts : row_count ws₁ ≡ row_count ws = omega arith in
    let (says, nodes) = rows_agree pool ws ws₁ agree (row_count ws) 0 cs ds s (ap (shown_from pool ws₁ 0) (sym counts) ∙ t) in
    let same : cs ≡ ds = (node-fixed schema.held schema.root cs ds [] [] f g (ap (λ xs. xs ++ []) says)).0 in
    ext_get_or 0 ws ws₁ sizes λ k h. by-lt (k % row_width) 3
    (λ b. let at : row_width * (k / row_width) + k % row_width ≡ k = omega arith in
    rw at at (agree (k / row_width) (k % row_width) b))
    (λ b. let at : row_width * (k / row_width) + 3 ≡ k = omega arith in
    rw at at (nodes same (k / row_width) (omega arith) (omega arith)))
