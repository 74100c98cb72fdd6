-- Pass 14: what each step of the walk over the nodes has made, and left in the work.
use mathlib.Core.Path.{◌≡◌, refl, sym, ap, ◌∙◌, subst}
use mathlib.Core.Bool.{Bool}
use mathlib.Core.List.{List, [], ◌∷◌}
use Rattle.std.specs.Prelude.{Result, Ok, Err}
use Prim.Native.Nat.{ℕ, zero, suc, ◌+◌, ◌-◌, ◌<◌, ◌≤◌}
use native.Mathlib.Numerals.{add-one, sub-one}
use native.Mathlib.Omega.{arith}
use lib.Dec.{eqb}
use lib.ListN.{set}
use lib.Seq.{sets, set_comm}
use borrow.Author.Tests.{eq-eqb, ne_eqb}
use Rattle.format.specs.Answer.{Answer, ok, refuse, ◌>>=◌, ◌>>◌, need_at}
use Rattle.format.specs.Table.{TableNode, RECORD, ARRAY, BLOCK, NULLABLE, omittable, deduplicate, Context, at_root, in_record, in_array, in_nullable, in_block, boolean, array, fields, block, Node, plain, nullable, Fields, no_field, field, wire_of, leaf, shape_of, stands, build_fields, below, build, tree}
use Rattle.laws.specs.Lists.{sets-append}
use Rattle.laws.specs.Tree.{size, below_wire, ends_below, ends, ends_fields}
use Rattle.laws.specs.Built.{standing, built, plain-below, length-ends}
use Rattle.format.specs.Refusal.{refused, answered}
use Rattle.format.specs.declared.refusal.Refusal.{Refusal}
use Rattle.format.specs.declared.refusal.Refusal.TheVariants.{TableTree}
use Rattle.table.specs.Answers.{answers-ok, answers-err, passed, stopped}
use Rattle.table.specs.Passes.{Stored, Makes, Planted}

-- ---- chains

pub then_ok : {B : Type 0} {u : Unit {0}} {m : Answer (Unit {0})} → m ≡ ok u → (k : Answer B) → (m >> k) ≡ k
unfolding ◌>>◌
then_ok e k = rw e

then_refuse : {B : Type 0} (e : Refusal) {m : Answer (Unit {0})} → m ≡ refused e → (k : Answer B) → (m >> k) ≡ refused e
unfolding ◌>>◌
then_refuse e q k = rw q refl

pub bind_ok : {A B : Type 0} {a : A} {m : Answer A} → m ≡ ok a → (f : A → Answer B) → (m >>= f) ≡ f a
unfolding ◌>>=◌
bind_ok e f = rw e

pub bind-refuse : {A B : Type 0} {x y : ℕ} {m : Answer A} → m ≡ refuse x y → (f : A → Answer B) → (m >>= f) ≡ refuse x y
unfolding ◌>>=◌
bind-refuse e f = rw e

-- ---- stores

set-sets : (l : List ℕ) (i j x : ℕ) (xs : List ℕ) → i < j → set (sets l j xs) i x ≡ sets (set l i x) j xs
set-sets l i j x [] h = refl
set-sets l i j x (y ∷ xs) h = set-sets (set l j y) i (suc j) x xs (omega arith) ∙ ap (λ (z : List ℕ). sets z (suc j) xs) (set_comm l j i y x (λ e. omega arith))

ends-cons : (i : ℕ) (w : Node) → ends i w ≡ (i + size w) ∷ ends_below i w
unfolding ends ends_below size
ends-cons i (plain j w) = refl
ends-cons i (nullable j w) = refl

node-stores : (l l' : List ℕ) (i j : ℕ) (w : Node) → l' ≡ sets l (i + 1) (ends_below i w) → j ≡ i + size w → set l' i j ≡ sets l i (ends i w)
node-stores l l' i j w e q =
    ap (λ (x : List ℕ). set x i j) e ∙ set-sets l i (i + 1) j (ends_below i w) (omega arith)
    ∙ rw (ends-cons, q, add-one)

-- ---- what is made

module _ {A : Type 0} {E : A → List ℕ} {i : ℕ} where
  pub along : {l l' : List ℕ} {r : Result ℕ Refusal} {m m' : Answer (A × ℕ)} → m ≡ m' → Makes E i l l' r m' → Makes E i l l' r m
  along {l} {l'} {r} e d = subst (λ (x : Answer (A × ℕ)). Makes E i l l' r x) (sym e) d

  refuses : {l l' : List ℕ} (e : Refusal) → Makes E i l l' (Err e) (refused e)
  refuses e = record { answer = refl; stored = tt }

  makes : {l l' : List ℕ} {r : Result ℕ Refusal} (a : A) (j : ℕ) → r ≡ Ok j → l' ≡ sets l i (E a) → Makes E i l l' r (ok (a, j))
  makes a j e s = record { answer = ap answered e; stored = s }

  stored_is : {l l' : List ℕ} {r : Result ℕ Refusal} {a : A × ℕ} {m : Answer (A × ℕ)} → Makes E i l l' r m → m ≡ ok a → l' ≡ sets l i (E a.0)
  stored_is {l} {l'} d e = subst (λ (x : Answer (A × ℕ)). Stored E i l l' x) e d.stored

-- what is made of a, made of g a, with the same ends
maps : {A B : Type 0} {E : A → List ℕ} {F : B → List ℕ} {i : ℕ} {l l' : List ℕ} {r : Result ℕ Refusal} (g : A → B) (m : Answer (A × ℕ))
    → ((a : A) (j : ℕ) → m ≡ ok (a, j) → F (g a) ≡ E a) → Makes E i l l' r m → Makes F i l l' r (m >>= (λ p. ok (g p.0, p.1)))
unfolding ◌>>=◌
maps {i = i} {l} g (ok p) h d = record { answer = d.answer; stored = d.stored ∙ ap (sets l i) (sym (h p.0 p.1 refl)) }
maps g (refuse x y) h d = record { answer = d.answer; stored = tt }

-- a field w from i on, and fields from j on
joins : {i j : ℕ} {l l₁ l₂ : List ℕ} {r : Result ℕ Refusal} (o : Bool) (w : Node) → j ≡ i + size w → l₁ ≡ sets l i (ends i w) → (m : Answer (Fields × ℕ))
    → Makes (ends_fields j) j l₁ l₂ r m → Makes (ends_fields i) i l l₂ r (m >>= (λ q. ok (field o w q.0, q.1)))
unfolding ◌>>=◌ ends_fields
joins {i} {j} {l} {l₁} {l₂} {r} o w e s (ok q) d = record { answer = d.answer; stored = d.stored ∙ rw (s, e, ← length-ends i w) (sets-append l i (ends i w) _) }
joins o w e s (refuse x y) d = record { answer = d.answer; stored = tt }

-- A loop's invariant: who makes the fields m' from i' and l' on has made the fields m from i and l on.
pub record Leads (i : ℕ) (l : List ℕ) (m : Answer (Fields × ℕ)) (i' : ℕ) (l' : List ℕ) (m' : Answer (Fields × ℕ)) : Type 0 where
  pub onward : {l₂ : List ℕ} {r : Result ℕ Refusal} → Makes (ends_fields i') i' l' l₂ r m' → Makes (ends_fields i) i l l₂ r m

pub leads-self : {i : ℕ} {l : List ℕ} {m : Answer (Fields × ℕ)} → Leads i l m i l m
leads-self = record { onward = λ d. d }

module _ (n : ℕ) (at : ℕ → TableNode) where
  -- ---- what is below a node

  module _ (path i : ℕ) where
    abbrev Below : Answer (Node × ℕ)
    Below = below n at (shape_of (at i).kind) path (build n at path) i

    pub below-record : {l l' : List ℕ} {r : Result ℕ Refusal} {a : ℕ} → (at i).kind ≡ RECORD → a ≡ (at i).argument → Makes (ends_fields (i + 1)) (i + 1) l l' r (build_fields n at a (build n at path in_record) (i + 1)) → Makes (ends_below i) (i + 1) l l' r Below
    unfolding shape_of below ends_below below_wire
    below-record e u d = along (simp e) (maps (λ ws. plain i (fields ws)) _ (λ ws j q. refl) (rw u at d))

    pub below-array : {l l' : List ℕ} {r : Result ℕ Refusal} → (at i).kind ≡ ARRAY → Makes (ends (i + 1)) (i + 1) l l' r (build n at path in_array (i + 1)) → Makes (ends_below i) (i + 1) l l' r Below
    unfolding shape_of below ends_below below_wire
    below-array e d = along (simp e) (maps (λ w. plain i (array w)) _ (λ w j q. refl) d)

    pub below-nullable : {l l' : List ℕ} {r : Result ℕ Refusal} → (at i).kind ≡ NULLABLE → Makes (ends (i + 1)) (i + 1) l l' r (build n at path in_nullable (i + 1)) → Makes (ends_below i) (i + 1) l l' r Below
    unfolding shape_of below ends_below ends
    below-nullable e d = along (simp e) (maps (λ w. nullable i (wire_of w)) _ (λ w j q. ap (ends (i + 1)) (sym (plain-below n at path (i + 1) j w q))) d)

    pub below-block : {l l' : List ℕ} {r : Result ℕ Refusal} → (at i).kind ≡ BLOCK → Makes (ends_below i) (i + 1) l l' r (below n at leaf path (build n at path) i) → Makes (ends_below i) (i + 1) l l' r Below
    unfolding shape_of
    below-block e d = along (simp e) d

    pub below-nothing : {l : List ℕ} → ((at i).kind ≡ RECORD → ⊥) → ((at i).kind ≡ ARRAY → ⊥) → ((at i).kind ≡ BLOCK → ⊥) → ((at i).kind ≡ NULLABLE → ⊥) → Makes (ends_below i) (i + 1) l l (Ok (i + 1)) Below
    unfolding shape_of below ends_below below_wire
    below-nothing a b c d = along (simp (ne_eqb _ _ a, ne_eqb _ _ b, ne_eqb _ _ c, ne_eqb _ _ d)) (makes (plain i boolean) (i + 1) refl refl)

  -- ---- a BLOCK's child

  module _ (path i : ℕ) {d : Bool} {r : Result (Unit {0}) Refusal} (v : d ≡ deduplicate (at i)) (h : answered r ≡ stands n at path (in_block d) (i + 1)) where
    pub child-not : {l l' : List ℕ} {e : Refusal} → r ≡ Err e → Makes (ends_below i) (i + 1) l l' (Err e) (below n at leaf path (build n at path) i)
    unfolding below
    child-not {e = e} q = along (rw (← v) (then_refuse e (stopped h q) _)) (refuses e)

    child-stands : {u : Unit {0}} → r ≡ Ok u → stands n at path (in_block (deduplicate (at i))) (i + 1) ≡ ok u
    child-stands q = rw (← v) (passed h q)

    pub child-done : {l : List ℕ} {u : Unit {0}} → r ≡ Ok u → Makes (ends_below i) (i + 1) l (set l (i + 1) (i + 2)) (Ok (i + 2)) (below n at leaf path (build n at path) i)
    unfolding below ends_below below_wire
    child-done q = along (then_ok (child-stands q) _) (makes (plain i (block (at i).argument)) (i + 2) refl refl)

    pub child-inside : {u : Unit {0}} → r ≡ Ok u → i + 1 < n
    child-inside q = (standing n at path _ (i + 1) (child-stands q)).inside

  -- ---- a node

  build-more : (path : ℕ) (c : Context) (i : ℕ) → (path ≡ 0 → ⊥) → build n at path c i ≡ (stands n at path c i >> below n at (shape_of (at i).kind) (path - 1) (build n at (path - 1)) i)
  unfolding build
  build-more zero c i z = absurd (z refl)
  build-more (suc path) c i z = simp sub-one

  module _ (path : ℕ) (c : Context) (i : ℕ) where
    pub node-deep : {l l' : List ℕ} → path ≡ 0 → Makes (ends i) i l l' (Err (TableTree i)) (build n at path c i)
    unfolding build
    node-deep z = rw z (refuses (TableTree i))

    module _ {s : Result (Unit {0}) Refusal} (z : path ≡ 0 → ⊥) (h : answered s ≡ stands n at path c i) where
      pub node-not : {l l' : List ℕ} {e : Refusal} → s ≡ Err e → Makes (ends i) i l l' (Err e) (build n at path c i)
      node-not {e = e} q = along (build-more path c i z ∙ then_refuse e (stopped h q) _) (refuses e)

      build-below : {x : Unit {0}} → s ≡ Ok x → build n at path c i ≡ below n at (shape_of (at i).kind) (path - 1) (build n at (path - 1)) i
      build-below q = build-more path c i z ∙ then_ok (passed h q) _

      pub node-inside : {x : Unit {0}} → s ≡ Ok x → i < n
      node-inside q = (standing n at path c i (passed h q)).inside

      module _ {x : Unit {0}} {l l' : List ℕ} {r : Result ℕ Refusal} (q : s ≡ Ok x) (d : Makes (ends_below i) (i + 1) l l' r (below n at (shape_of (at i).kind) (path - 1) (build n at (path - 1)) i)) where
        pub node-fails : {l'' : List ℕ} {e : Refusal} → r ≡ Err e → Makes (ends i) i l l'' (Err e) (build n at path c i)
        node-fails {e = e} p = along (build-below q ∙ answers-err _ _ d.answer p) (refuses e)

        -- the node after it is in reach of the work's words
        pub node-within : {j : ℕ} → r ≡ Ok j → j ≤ n
        node-within p = answers-ok _ _ d.answer p λ a e u. rw (← u) (built n at path c i a.1 a.0 (build-below q ∙ e)).within

        pub node_done : {j : ℕ} → r ≡ Ok j → Makes (ends i) i l (set l' i j) (Ok j) (build n at path c i)
        node_done {j} p = answers-ok _ _ d.answer p λ a e u.
            let b : build n at path c i ≡ ok a = build-below q ∙ e in
            along b (makes a.0 a.1 (ap Ok (sym u)) (node-stores l l' i j a.0 (stored_is d e) (sym u ∙ (built n at path c i a.1 a.0 b).past)))

  -- ---- fields

  fields-more : (go : ℕ → Answer (Node × ℕ)) (k i : ℕ) → (k ≡ 0 → ⊥) → build_fields n at k go i ≡ (go i >>= (λ p. build_fields n at (k - 1) go p.1 >>= (λ q. ok (field (omittable (at i)) p.0 q.0, q.1))))
  unfolding build_fields
  fields-more go zero i z = absurd (z refl)
  fields-more go (suc k) i z = simp sub-one

  module _ (path k i : ℕ) where
    pub fields-none : {l : List ℕ} → k ≡ 0 → Makes (ends_fields i) i l l (Ok i) (build_fields n at k (build n at path in_record) i)
    unfolding build_fields ends_fields
    fields-none z = rw z (makes no_field i refl refl)

    module _ {l l' : List ℕ} {r : Result ℕ Refusal} (z : k ≡ 0 → ⊥) (d : Makes (ends i) i l l' r (build n at path in_record i)) where
      pub fields-not : {l'' : List ℕ} {e : Refusal} → r ≡ Err e → Makes (ends_fields i) i l l'' (Err e) (build_fields n at k (build n at path in_record) i)
      fields-not {e = e} q = along (fields-more _ k i z ∙ bind-refuse (answers-err _ _ d.answer q) _) (refuses e)

      pub fields-then : {l₂ : List ℕ} {r₂ : Result ℕ Refusal} {j : ℕ} → r ≡ Ok j → Makes (ends_fields j) j l' l₂ r₂ (build_fields n at (k - 1) (build n at path in_record) j) → Makes (ends_fields i) i l l₂ r₂ (build_fields n at k (build n at path in_record) i)
      fields-then {l₂} {r₂} {j} q d₂ = answers-ok _ _ d.answer q λ a e u.
          along (fields-more _ k i z ∙ bind_ok e _)
          (joins (omittable (at i)) a.0 (built n at path in_record i a.1 a.0 e).past (stored_is d e) (build_fields n at (k - 1) (build n at path in_record) a.1)
          (rw u d₂))

      pub fields-again : {i₀ j : ℕ} {l₀ : List ℕ} {m : Answer (Fields × ℕ)} → Leads i₀ l₀ m i l (build_fields n at k (build n at path in_record) i) → r ≡ Ok j → Leads i₀ l₀ m j l' (build_fields n at (k - 1) (build n at path in_record) j)
      fields-again o q = record { onward = λ d₂. o.onward (fields-then q d₂) }

  -- ---- the whole tree

  tree-refuses : {l l' : List ℕ} {e : Refusal} → tree n at ≡ refused e → Planted l l' (Err e) (tree n at)
  tree-refuses h = rw h (record { answer = refl; stored = tt })

  whole-tree : {a : Node × ℕ} → build n at 32 at_root 0 ≡ ok a → tree n at ≡ (need_at (eqb a.1 n) 14 a.1 >> ok a.0)
  unfolding tree
  whole-tree e = bind_ok e _

  module _ {l l' : List ℕ} {r : Result ℕ Refusal} (d : Makes (ends 0) 0 l l' r (build n at 32 at_root 0)) where
    pub tree-not : {l'' : List ℕ} {e : Refusal} → r ≡ Err e → Planted l l'' (Err e) (tree n at)
    unfolding tree
    tree-not q = tree-refuses (bind-refuse (answers-err _ _ d.answer q) _)

    pub tree-left : {l'' : List ℕ} {j : ℕ} → r ≡ Ok j → (j ≡ n → ⊥) → Planted l l'' (Err (TableTree j)) (tree n at)
    unfolding need_at ◌>>◌
    tree-left {j = j} q z = answers-ok _ _ d.answer q λ a e u. tree-refuses (whole-tree e ∙ rw (ne_eqb a.1 n (λ p. z (sym u ∙ p)), u) refl)

    pub tree-done : {j : ℕ} → r ≡ Ok j → j ≡ n → Planted l l' (Ok tt) (tree n at)
    unfolding need_at ◌>>◌
    tree-done q z = answers-ok _ _ d.answer q λ a e u.
        let w : tree n at ≡ ok a.0 = whole-tree e ∙ simp (eq-eqb a.1 n (u ∙ z)) in
        rw w (record { answer = refl; stored = stored_is d e })
