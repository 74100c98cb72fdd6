-- The definitions' tests, case by case, in the order in which the code makes them.
use mathlib.Core.Path.{◌≡◌, refl, sym, ap, ◌∙◌}
use mathlib.Core.Bool.{Bool, ◌&&◌, true, false, and-eq-true_iff}
use mathlib.Core.List.{List, [], ◌∷◌}
use Rattle.std.specs.List.{starts_with}
use Rattle.std.specs.Prelude.{Option, Some, None}
use Prim.Native.Nat.{ℕ, zero, suc, ◌+◌, ◌<◌, ◌≤◌}
use native.Mathlib.Numerals.{add-one}
use native.Mathlib.Omega.{arith}
use lib.Dec.{eqb, leb}
use Rattle.std.proofs.lemmas.Bool.Decides.{nat_tests}
use lib.ListN.{length, get_or}
use borrow.Author.Tests.{lt-leb, ne_eqb, lt-ltb, le-ltb, le-leb, leb-true}
use Rattle.format.specs.Answer.{ok, refuse, ◌>>◌, need_at}
use Rattle.format.specs.Table.{TableNode, STRING, VARINT, FLOAT64, BYTES, fixed, leaf_of, u16, omittable, Context, at_root, in_record, in_array, in_nullable, in_block, right_alone, most_argument, kind_may_stand, omittable_may_stand, may_stand, stands, is_marked, right_count, each}
use Rattle.laws.specs.Facts.{by-lt}
use Rattle.table.specs.Kind.{number_of, number_in, kind_of, kind-is, number-inside, number-outside, same-textual, same-leaf, same-nullable}
use Rattle.table.specs.declared.nodes.Kind.{Kind}
use Rattle.table.specs.Passes.{header_of, flags_may_stand}

-- ---- the header

pub marked : (t : List ℕ) → 7 ≤ length t → starts_with eqb t (0x41 ∷ 0x57 ∷ 0x54 ∷ []) ≡ is_marked t
unfolding is_marked
marked (a ∷ b ∷ c ∷ t) h = grind (arith, nat_tests, le-leb 7 (length (a ∷ b ∷ c ∷ t)) h)
marked [] h = absurd (omega arith)
marked (a ∷ []) h = absurd (omega arith)
marked (a ∷ b ∷ []) h = absurd (omega arith)

pub unmarked : (t : List ℕ) → length t < 7 → false ≡ is_marked t
unfolding is_marked
unmarked t h = simp (lt-leb _ _ h)

module _ (t : List ℕ) where
  pub marked-length : is_marked t ≡ true → 7 ≤ length t
  unfolding is_marked
  marked-length e =
      let a = (and-eq-true_iff _ (eqb (get_or t 2 0) 0x54)).0 e in
      let b = (and-eq-true_iff _ (eqb (get_or t 1 0) 0x57)).0 a.0 in
      let c = (and-eq-true_iff (leb 7 (length t)) (eqb (get_or t 0 0) 0x41)).0 b.0 in
      leb-true 7 (length t) c.0

  pub header-10 : is_marked t ≡ false → refuse 10 0 ≡ header_of t
  unfolding header_of need_at ◌>>◌
  header-10 e = simp e

  module _ (m : is_marked t ≡ true) where
    pub header-11 : (u16 t 3 ≡ 1 → ⊥) → refuse 11 0 ≡ header_of t
    unfolding header_of need_at ◌>>◌
    header-11 e = simp (m, ne_eqb _ _ e)

    module _ (v : u16 t 3 ≡ 1) where
      pub header-12 : right_count (u16 t 5) (length t) ≡ false → refuse 12 0 ≡ header_of t
      unfolding header_of need_at ◌>>◌
      header-12 e = simp (m, v, e)

      pub header-right : right_count (u16 t 5) (length t) ≡ true → ok (u16 t 5) ≡ header_of t
      unfolding header_of need_at ◌>>◌
      header-right e = simp (m, v, e)

-- ---- a node by itself

module _ (x : TableNode) where
  pub alone-none : kind_of x.kind ≡ None → false ≡ right_alone x
  unfolding right_alone
  alone-none e = simp (number-outside x.kind e)

  pub alone-named : {c : Kind} → kind_of x.kind ≡ Some c → right_alone x ≡ (leb x.flags 3 && flags_may_stand (number_of c) x.flags && leb x.argument (most_argument (number_of c)))
  unfolding right_alone flags_may_stand
  alone-named {c} e = simp (kind-is x.kind c e, le-leb _ _ (number-inside c).0, le-leb _ _ (number-inside c).1)

-- ---- what a key holds, where it is no STRING, VARINT, FLOAT64 or BYTES

pub leaf-fixed : {a : ℕ} (x : TableNode) → a ≡ x.argument → (x.kind ≡ STRING → ⊥) → (x.kind ≡ VARINT → ⊥) → (x.kind ≡ FLOAT64 → ⊥) → (x.kind ≡ BYTES → ⊥) → fixed a ≡ leaf_of x
unfolding leaf_of
leaf-fixed x e p q r s = simp (e, ne_eqb _ _ p, ne_eqb _ _ q, ne_eqb _ _ r, ne_eqb _ _ s)

-- ---- where a node may stand

pub same-stand : (c : Context) (k : ℕ) → kind_may_stand c (number_in (kind_of k)) ≡ kind_may_stand c k
unfolding kind_may_stand
same-stand at_root k = rw (same-leaf k) refl
same-stand in_record k = rw (same-leaf k) refl
same-stand in_array k = rw (same-leaf k) refl
same-stand in_nullable k = rw (same-leaf k, same-nullable k) refl
same-stand (in_block true) k = same-textual k
same-stand (in_block false) k = same-leaf k

module _ (c : Context) (x : TableNode) {o : Option Kind} {b : Bool} (k : o ≡ kind_of x.kind) (h : b ≡ kind_may_stand c (number_in o)) where
  by_kind : b ≡ kind_may_stand c x.kind
  by_kind = h ∙ ap (λ p. kind_may_stand c (number_in p)) k ∙ same-stand c x.kind

  pub kind-not : b ≡ false → b ≡ may_stand c x
  unfolding may_stand
  kind-not e = simp (← by_kind, e)

  pub omittable-may : b ≡ true → omittable x ≡ true → omittable_may_stand c ≡ may_stand c x
  unfolding may_stand
  omittable-may e o = simp (← by_kind, e, o)

  pub plain-may : b ≡ true → omittable x ≡ false → true ≡ may_stand c x
  unfolding may_stand
  plain-may e o = simp (← by_kind, e, o)

module _ (n : ℕ) (at : ℕ → TableNode) (path : ℕ) (c : Context) (i : ℕ) where
  pub stand-missing : n ≤ i → refuse 14 n ≡ stands n at path c i
  unfolding stands need_at ◌>>◌
  stand-missing h = simp (le-ltb _ _ h)

  module _ (h : i < n) where
    pub stand-deep : path ≡ 0 → refuse 14 i ≡ stands n at path c i
    unfolding stands need_at ◌>>◌
    stand-deep p = simp (lt-ltb _ _ h, p)

    pub stand-not : (path ≡ 0 → ⊥) → may_stand c (at i) ≡ false → refuse 14 i ≡ stands n at path c i
    unfolding stands need_at ◌>>◌
    stand-not p m = let q : 0 < path = omega arith in simp (lt-ltb _ _ h, lt-ltb _ _ q, m)

    pub stand-right : (path ≡ 0 → ⊥) → may_stand c (at i) ≡ true → ok tt ≡ stands n at path c i
    unfolding stands need_at ◌>>◌
    stand-right p m = let q : 0 < path = omega arith in simp (lt-ltb _ _ h, lt-ltb _ _ q, m)

-- ---- a pass over all nodes

module _ (test : ℕ → Bool) (r : ℕ) where
  -- the first i pass
  unfoldable pub Passed : ℕ → Type 0
  Passed i = each i test r ≡ ok tt

  pub passed_none : Passed 0
  unfolding Passed each
  passed_none = refl

  pub passed-more : (i : ℕ) → Passed i → test i ≡ true → Passed (i + 1)
  unfolding Passed each need_at ◌>>◌
  passed-more i e t = simp (add-one, e, t)

  stops : (n i : ℕ) → i < n → Passed i → test i ≡ false → each n test r ≡ refuse r i
  unfolding Passed each need_at ◌>>◌
  stops zero i h e t = absurd (omega arith)
  stops (suc n) i h e t = by-lt i n (λ l. simp (stops n i l e t)) (λ l. let x : n ≡ i = omega arith in simp (x, e, t))

  pub pass-stops : (n i : ℕ) → i < n → Passed i → test i ≡ false → refuse r i ≡ each n test r
  pass-stops n i h e t = sym (stops n i h e t)

  pub pass-ends : (n i : ℕ) → i ≤ n → n ≤ i → Passed i → ok tt ≡ each n test r
  unfolding Passed
  pass-ends n i h l e = let x : n ≡ i = omega arith in simp (x, e)
