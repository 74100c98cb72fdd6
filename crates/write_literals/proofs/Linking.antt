-- One literal more: the words after the stores, and that each literal stands in its chain again.
use mathlib.Core.Path.{◌≡◌, refl, sym, ap, ap₂, ◌∙◌}
use mathlib.Core.List.{List, [], ◌∷◌, ◌++◌}
use Prim.Native.Nat.{ℕ, zero, suc, ◌+◌, ◌-◌, ◌*◌, ◌/◌, ◌%◌, ◌<◌, ◌≤◌}
use native.Mathlib.Omega.{arith}
use native.Mathlib.Numerals.{add-one}
use lib.Dec.{ltb}
use lib.ListN.{length, set, length-set, length-append}
use Rattle.format.specs.Read.{total}
use Rattle.laws.specs.Facts.{by-eq, by-lt}
use Rattle.store.specs.Lists.{upto-add_at, sum-at}
use Rattle.store.specs.Words.{word, all_of, count_of}
use Rattle.store.specs.Slots.{skip, hit, slots-below}
use Rattle.write_literals.specs.Store.{Literal, added, literal-eq, store-eq}
use Rattle.write_literals.specs.Words.{literal_at, owner_of, key_at, number_at, bucket, bucket_of, key_literals, store_of, link_at, lane, relinked, side_of, head_of, link_of, On, First, Linked, GoodLiterals, Good, Changes, Tail, Written}
use Rattle.write_literals.specs.Laws.{total-is, count_most, head-none, head-on, head-off, head-beyond, first_done, key-literals-kept, on-was, first-kept}
use Rattle.write_literals.proofs.Lanes.{lane-new, lane-other, above_same}
use Rattle.write_literals.proofs.Places.{bucket-small, link-in, leads-next, key-literals-more, key-literals-other, append-none}

-- ---- the words after the stores

module _ (w : List ℕ) (key g n at link s l : ℕ) (whole : 16384 ≤ length w) (hk : key < 32) (hg : g < 4096) (ha : 2048 ≤ at) (hb : at < 4096 + 3 * g) where
  abbrev w₁ : List ℕ
  w₁ = set w at link

  abbrev w₂ : List ℕ
  w₂ = set w₁ (4096 + 3 * g) s

  abbrev w₃ : List ℕ
  w₃ = set w₂ (4096 + 3 * g + 1) l

  abbrev w₄ : List ℕ
  w₄ = set w₃ (4096 + 3 * g + 2) (8192 * (n + 4096 * key))

  abbrev w₅ : List ℕ
  w₅ = set w₄ (1184 + key) (n + 1)

  abbrev w₆ : List ℕ
  w₆ = set w₅ 1156 (g + 1)

  after : (a : ℕ) → (a ≡ 1156 → ⊥) × (a ≡ 1184 + key → ⊥) → word w₆ a ≡ word w₄ a
  after a o = skip w₅ 1156 _ a o.0 ∙ skip w₄ (1184 + key) _ a o.1

  same : (a : ℕ) → (a ≡ 1156 → ⊥) × (a ≡ 1184 + key → ⊥) × (a ≡ 4096 + 3 * g + 2 → ⊥) × (a ≡ 4096 + 3 * g + 1 → ⊥) × (a ≡ 4096 + 3 * g → ⊥) × (a ≡ at → ⊥) → word w₆ a ≡ word w a
  same a o = after a (o.0, o.1) ∙ skip w₃ (4096 + 3 * g + 2) _ a o.2 ∙ skip w₂ (4096 + 3 * g + 1) _ a o.3 ∙ skip w₁ (4096 + 3 * g) _ a o.4 ∙ skip w at _ a o.5

  pub written : Written w w₆ key g n at link (record { first = s; second = l })
  written =
      let b₁ : 4096 + 3 * g < length w₁ = simp length-set (omega arith) in
      let b₂ : 4096 + 3 * g + 1 < length w₂ = simp length-set (omega arith) in
      let b₃ : 4096 + 3 * g + 2 < length w₃ = simp length-set (omega arith) in
      let b₄ : 1184 + key < length w₄ = simp length-set (omega arith) in
      let b₅ : 1156 < length w₅ = simp length-set (omega arith) in
      record {
        size = simp length-set;
        below = λ i h. same i (omega arith);
        all = hit w₅ 1156 (g + 1) b₅;
        counted = skip w₅ 1156 _ (1184 + key) (omega arith) ∙ hit w₄ (1184 + key) (n + 1) b₄;
        counts = λ k h o. same (1184 + k) (omega arith);
        links = λ i h b o. same i (omega arith, omega arith, omega arith, omega arith, omega arith, o);
        leads = after at (omega arith) ∙ skip w₃ (4096 + 3 * g + 2) _ at (omega arith) ∙ skip w₂ (4096 + 3 * g + 1) _ at (omega arith) ∙ skip w₁ (4096 + 3 * g) _ at (omega arith)
            ∙ hit w at link (omega arith);
        here = literal-eq
            (after (4096 + 3 * g) (omega arith) ∙ skip w₃ (4096 + 3 * g + 2) _ (4096 + 3 * g) (omega arith) ∙ skip w₂ (4096 + 3 * g + 1) _ (4096 + 3 * g) (omega arith) ∙ hit w₁ (4096 + 3 * g) s b₁)
            (after (4096 + 3 * g + 1) (omega arith) ∙ skip w₃ (4096 + 3 * g + 2) _ (4096 + 3 * g + 1) (omega arith) ∙ hit w₂ (4096 + 3 * g + 1) l b₂);
        owner = after (4096 + 3 * g + 2) (omega arith) ∙ hit w₃ (4096 + 3 * g + 2) (8192 * (n + 4096 * key)) b₃;
      }

-- ---- links

link-shape : (b i g : ℕ) → b < 4096 → (4096 + 3 * g ≡ link_at b i → ⊥) × (4096 + 3 * g + 1 ≡ link_at b i → ⊥)
unfolding link_at
link-shape b zero g h = (λ e. omega arith, λ e. omega arith)
link-shape b (suc h) g l = (λ e. omega arith, λ e. omega arith)

-- a head, with a literal more of bucket b
head-still : (w w' : List ℕ) (t b b' r : ℕ) → all_of w ≡ t → all_of w' ≡ t + 1 → ((g : ℕ) → g < t → bucket_of w' g ≡ bucket_of w g) → bucket_of w' t ≡ b → (b' ≡ b → head_of w b' r ≡ 0 → ⊥) → head_of w' b' r ≡ head_of w b' r
head-still w w' t b b' zero a a' s n d = head-none w' b' ∙ sym (head-none w b')
head-still w w' t b b' (suc g) a a' s n d = by-lt g t
    (λ h. by-eq (bucket_of w g) b'
    (λ e. head-on w' b' (suc g) (omega arith) (omega arith) (rw q (s g h ∙ e)) ∙ sym (head-on w b' (suc g) (omega arith) (omega arith) (rw q e)))
    (λ o. head-off w' b' (suc g) (rw q (λ e. o (sym (s g h) ∙ e))) ∙ sym (head-off w b' (suc g) (rw q o))))
    (λ h. let z : head_of w b' (suc g) ≡ 0 = head-beyond w b' (suc g) (omega arith) in
    by-eq g t
    (λ e. head-off w' b' (suc g) (rw q (λ y. d (sym y ∙ ap (λ (m : ℕ). bucket_of w' m) e ∙ n) z)) ∙ sym z)
    (λ o. head-beyond w' b' (suc g) (omega arith) ∙ sym z))
  where
    q : suc g - 1 ≡ g
    q = omega arith

module _ (w w' : List ℕ) (t b i : ℕ) (hb : b < 4096) (ht : t < 4096) (a : all_of w ≡ t) (a' : all_of w' ≡ t + 1) (s : (g : ℕ) → g < t → bucket_of w' g ≡ bucket_of w g) (n : bucket_of w' t ≡ b)
    (e : word w' (link_at b i) ≡ relinked (side_of b i) (word w (link_at b i)) (t + 1)) where
  -- what was written leads to the new literal
  link-new : link_of w' b i ≡ t + 1
  unfolding link_at link_of side_of
  link-new = go i e
    where
      go : (i : ℕ) → word w' (link_at b i) ≡ relinked (side_of b i) (word w (link_at b i)) (t + 1) → link_of w' b i ≡ t + 1
      go zero e =
          let y : t + 1 - 1 ≡ t = omega arith in
          ap (λ (x : ℕ). head_of w' b (lane (b % 2) x)) e ∙ ap (head_of w' b) (lane-new (b % 2) (word w (2048 + b / 2)) (t + 1) (omega arith) (omega arith))
          ∙ head-on w' b (t + 1) (omega arith) (omega arith) (rw y n)
      go (suc g) e = ap (lane 0) e ∙ lane-new 0 (word w (4096 + 3 * g + 2)) (t + 1) (omega arith) (omega arith)

  -- and all other links lead where they did
  link-still : (b' i' : ℕ) → b' < 4096 → i' ≤ t → ((k : ℕ) → 2048 ≤ k → k < 4096 + 3 * t → (k ≡ link_at b i → ⊥) → word w' k ≡ word w k) → On w b i → On w b' i' → (b' ≡ b → i' ≡ i → ⊥)
      → (b' ≡ b → link_of w b' i' ≡ 0 → ⊥) → link_of w' b' i' ≡ link_of w b' i'
  unfolding link_at link_of side_of
  link-still b' i' hb' l same o o' d d' = go i e i' l same o o' d d'
    where
      Same : ℕ → Type 0
      Same i = (k : ℕ) → 2048 ≤ k → k < 4096 + 3 * t → (k ≡ link_at b i → ⊥) → word w' k ≡ word w k

      head-of : (b' ≡ b → head_of w b' (lane (b' % 2) (word w (2048 + b' / 2))) ≡ 0 → ⊥) → lane (b' % 2) (word w' (2048 + b' / 2)) ≡ lane (b' % 2) (word w (2048 + b' / 2))
          → head_of w' b' (lane (b' % 2) (word w' (2048 + b' / 2))) ≡ head_of w b' (lane (b' % 2) (word w (2048 + b' / 2)))
      head-of d' q = ap (head_of w' b') q ∙ head-still w w' t b b' (lane (b' % 2) (word w (2048 + b' / 2))) a a' s n d'

      go : (i : ℕ) → word w' (link_at b i) ≡ relinked (side_of b i) (word w (link_at b i)) (t + 1) → (i' : ℕ) → i' ≤ t → Same i → On w b i → On w b' i' → (b' ≡ b → i' ≡ i → ⊥) → (b' ≡ b → link_of w b' i' ≡ 0 → ⊥) → link_of w' b' i' ≡ link_of w b' i'
      go zero e zero l same o o' d d' = head-of d' (by-eq (b / 2) (b' / 2)
          (λ q. ap (λ (m : ℕ). lane (b' % 2) (word w' (2048 + m))) (sym q) ∙ ap (lane (b' % 2)) e
          ∙ lane-other (b % 2) (word w (2048 + b / 2)) (t + 1) (omega arith) (omega arith) (b' % 2) (omega arith) (λ y. d (omega arith) refl) ∙ ap (λ (m : ℕ). lane (b' % 2) (word w (2048 + m))) q)
          (λ q. ap (lane (b' % 2)) (same (2048 + b' / 2) (omega arith) (omega arith) (λ y. q (omega arith)))))
      go zero e (suc g') l same o o' d d' = ap (lane 0) (same (4096 + 3 * g' + 2) (omega arith) (omega arith) (λ y. omega arith))
      go (suc g) e zero l same o o' d d' = head-of d' (ap (lane (b' % 2)) (same (2048 + b' / 2) (omega arith) (omega arith) (λ y. omega arith)))
      go (suc g) e (suc g') l same o o' d d' = ap (lane 0) (same (4096 + 3 * g' + 2) (omega arith) (omega arith)
          (λ y. let q : g' ≡ g = omega arith in d (sym (o' g' refl) ∙ ap (λ (m : ℕ). bucket_of w m) q ∙ o g refl) (ap suc q)))

-- what stands above a link stays
owner-same : (w : List ℕ) (b i g v : ℕ) → b < 4096 → v < 8192 → 4096 + 3 * g + 2 ≡ link_at b i → relinked (side_of b i) (word w (link_at b i)) v / 8192 ≡ word w (4096 + 3 * g + 2) / 8192
unfolding link_at side_of
owner-same w b zero g v hb hv e = absurd (omega arith)
owner-same w b (suc h) g v hb hv e = above_same (word w (4096 + 3 * h + 2)) v hv ∙ ap (λ (m : ℕ). word w m / 8192) (sym e)

-- one chain has one end
not-before : (w : List ℕ) (b i i' t : ℕ) → First w b i t 0 → i' ≤ t → On w b i' → i < i' → ⊥
not-before w b i i' t f h o l = f.none refl (i' - 1) (omega arith) (omega arith) (o (i' - 1) (omega arith))

one_end : (w : List ℕ) (b i i' t : ℕ) → First w b i t 0 → First w b i' t 0 → i ≤ t → i' ≤ t → On w b i → On w b i' → i ≡ i'
one_end w b i i' t f f' h h' o o' = by-lt i i'
    (λ l. absurd (not-before w b i i' t f h' o' l))
    (λ l. by-lt i' i (λ m. absurd (not-before w b i' i t f' h o m)) (λ m. omega arith))

first-added : (w : List ℕ) (b i t : ℕ) → i ≤ t → First w b i t 0 → bucket_of w t ≡ b → First w b i (t + 1) (t + 1)
first-added w b i t h f e = record {
  most = omega arith;
  least = λ l. omega arith;
  here = λ g q. let z : g ≡ t = omega arith in rw z e;
  before = λ g l m q. f.none refl g l (omega arith) q;
  none = λ z g l m q. omega arith;
}

first-passed : (w : List ℕ) (b i t r : ℕ) → First w b i t r → (r ≡ 0 → bucket_of w t ≡ b → ⊥) → First w b i (t + 1) r
first-passed w b i t r f d = record {
  most = omega (arith, f.most);
  least = f.least;
  here = f.here;
  before = f.before;
  none = λ z g l m q. by-eq g t (λ e. d z (rw (← e) q)) (λ o. f.none z g l (omega arith) q);
}

-- ---- a literal more

module _ (w w₂ : List ℕ) (key : ℕ) (x : Literal) (good : Good w) (hk : key < 32) (room : all_of w < 4096) {at : ℕ} (tl : Tail w (bucket key x.second) at)
    (c : Written w w₂ key (all_of w) (count_of w key) at (relinked (side_of (bucket key x.second) tl.i) (word w at) (all_of w + 1)) x) where
  abbrev t : ℕ
  t = all_of w

  abbrev n : ℕ
  n = count_of w key

  abbrev b : ℕ
  b = bucket key x.second

  small : b < 4096
  small = bucket-small key x.second

  few : n < 4096
  few = omega (arith, count_most w good.literals key hk)

  literal-kept : (g : ℕ) → g < t → literal_at w₂ g ≡ literal_at w g
  literal-kept g h =
      let s = link-shape b tl.i g small in
      literal-eq
      (c.links (4096 + 3 * g) (omega arith) (omega arith) (λ e. s.0 (e ∙ tl.is)))
      (c.links (4096 + 3 * g + 1) (omega arith) (omega arith) (λ e. s.1 (e ∙ tl.is)))

  -- the link may be another, but not what stands above it
  owner-kept : (g : ℕ) → g < t → owner_of w₂ g ≡ owner_of w g
  owner-kept g h = by-eq (4096 + 3 * g + 2) at
      (λ e. ap (λ (m : ℕ). word w₂ m / 8192) e ∙ ap (λ (m : ℕ). m / 8192) c.leads ∙ ap (λ (m : ℕ). relinked (side_of b tl.i) (word w m) (t + 1) / 8192) tl.is ∙ owner-same w b tl.i g (t + 1) small (omega arith) (e ∙ tl.is))
      (λ d. ap (λ (m : ℕ). m / 8192) (c.links (4096 + 3 * g + 2) (omega arith) (omega arith) d))

  key-kept : (g : ℕ) → g < t → key_at w₂ g ≡ key_at w g
  key-kept g h = ap (λ (m : ℕ). m / 4096) (owner-kept g h)

  bucket-kept : (g : ℕ) → g < t → bucket_of w₂ g ≡ bucket_of w g
  bucket-kept g h = ap₂ (λ (k s : ℕ). bucket k s) (key-kept g h) (ap (λ (p : Literal). p.second) (literal-kept g h))

  kept : (k i : ℕ) → i ≤ t → key_literals w₂ k i ≡ key_literals w k i
  kept k i h = key-literals-kept w w₂ k i (λ g l. key-kept g (omega arith)) (λ g l. literal-kept g (omega arith))

  owner-new : owner_of w₂ t ≡ n + 4096 * key
  owner-new = omega (arith, c.owner)

  key-new : key_at w₂ t ≡ key
  key-new = let f = few in let o = owner-new in omega arith

  number-new : number_at w₂ t ≡ n
  number-new = let f = few in let o = owner-new in omega arith

  bucket-new : bucket_of w₂ t ≡ b
  bucket-new = ap₂ (λ (k s : ℕ). bucket k s) key-new (ap (λ (p : Literal). p.second) c.here)

  all_new : all_of w₂ ≡ suc t
  all_new = c.all ∙ add-one t

  mine : key_literals w₂ key (all_of w₂) ≡ key_literals w key t ++ x ∷ []
  mine = ap (λ (i : ℕ). key_literals w₂ key i) all_new ∙ key-literals-more w₂ key t key-new ∙ ap₂ (λ (ps : List Literal) (p : Literal). ps ++ p ∷ []) (kept key t (omega arith)) c.here

  others : (k : ℕ) → (k ≡ key → ⊥) → key_literals w₂ k (all_of w₂) ≡ key_literals w k t
  others k d =
      ap (λ (i : ℕ). key_literals w₂ k i) all_new ∙ key-literals-other w₂ k t (λ e. d (sym e ∙ key-new)) ∙ append-none (key_literals w₂ k t) ∙ kept k t (omega arith)

  leads-there : word w₂ (link_at b tl.i) ≡ relinked (side_of b tl.i) (word w (link_at b tl.i)) (t + 1)
  leads-there = rw (← tl.is) c.leads

  -- the chain of bucket b' from i' on
  module _ (b' i' : ℕ) (h : b' < 4096) (o : On w₂ b' i') where
    first-last : i' ≡ t + 1 → First w₂ b' i' (t + 1) (link_of w₂ b' i')
    first-last e =
        let p : 4095 + 3 * i' ≡ 4096 + 3 * t + 2 = omega arith in
        let q : word w₂ (4096 + 3 * t + 2) % 8192 ≡ 0 = omega (arith, c.owner) in
        let y : link_of w₂ b' i' ≡ 0 = leads-next w₂ b' i' (omega arith) ∙ ap (λ (a : ℕ). word w₂ a % 8192) p ∙ q in
        rw y (first_done w₂ b' i' (t + 1) (omega arith))

    module _ (m : i' ≤ t) where
      was-on : On w b' i'
      was-on = on-was w w₂ bucket-kept m o

      was : First w₂ b' i' t (link_of w b' i')
      was = first-kept w w₂ bucket-kept (good.literals.linked b' i' h m was-on)

      first-same : b' ≡ b → i' ≡ tl.i → First w₂ b' i' (t + 1) (link_of w₂ b' i')
      first-same eb ei =
          let z : link_of w b' i' ≡ 0 = rw (eb, ei) tl.end in
          let q : link_of w₂ b' i' ≡ t + 1 = rw (eb, ei) (link-new w w₂ t b tl.i small room refl c.all bucket-kept bucket-new leads-there) in
          rw q (first-added w₂ b' i' t m (rw z at was) (bucket-new ∙ sym eb))

      -- the one end of the chain
      twice : b' ≡ b → link_of w b' i' ≡ 0 → i' ≡ tl.i
      twice y z =
          let f = good.literals.linked b tl.i small tl.inside tl.on in
          let f' = good.literals.linked b' i' h m was-on in
          sym (one_end w b tl.i i' t (rw tl.end at f) (rw (z, y) at f') tl.inside m tl.on (rw y at was-on))

      first-other : (b' ≡ b → i' ≡ tl.i → ⊥) → First w₂ b' i' (t + 1) (link_of w₂ b' i')
      first-other d =
          let p : link_of w₂ b' i' ≡ link_of w b' i' =
          link-still w w₂ t b tl.i small room refl c.all bucket-kept bucket-new leads-there b' i' h m (λ k l u n. c.links k l u (λ y. n (y ∙ tl.is))) tl.on was-on d (λ y z. d y (twice y z)) in
          rw p (first-passed w₂ b' i' t (link_of w b' i') was (λ z e. let y : b' ≡ b = sym e ∙ bucket-new in d y (twice y z)))

  linked-new : Linked w₂ (t + 1)
  linked-new b' i' h l o = by-eq i' (t + 1) (first-last b' i' h o)
      (λ d. let m : i' ≤ t = omega arith in
      by-eq b' b (λ eb. by-eq i' tl.i (first-same b' i' h o m eb) (λ n. first-other b' i' h o m (λ y y₁. n y₁))) (λ n. first-other b' i' h o m (λ y y₁. n y)))

  number-kept : (g : ℕ) → g < t → number_at w₂ g ≡ length (key_literals w₂ (key_at w₂ g) g)
  number-kept g h =
      ap (λ (m : ℕ). m % 4096) (owner-kept g h) ∙ good.literals.numbered g h ∙ sym (ap (λ (k : ℕ). length (key_literals w₂ k g)) (key-kept g h) ∙ ap length (kept (key_at w g) g (omega arith)))

  number-last : number_at w₂ t ≡ length (key_literals w₂ (key_at w₂ t) t)
  number-last = number-new ∙ good.literals.counted key hk ∙ sym (ap (λ (k : ℕ). length (key_literals w₂ k t)) key-new ∙ ap length (kept key t (omega arith)))

  good-kept : GoodLiterals w₂
  good-kept =
      let counts : (k : ℕ) → k < 32 → (k ≡ key → ⊥) → count_of w₂ k ≡ count_of w k = c.counts in
      let s = sum-at (λ k. count_of w k) (λ k. count_of w₂ k) 32 key 1 hk c.counted counts in
      record {
        total = omega (arith, c.all, good.literals.total);
        most = omega (arith, c.all);
        counted = λ k h. by-eq k key
            (λ e. rw e (c.counted ∙ ap (λ (m : ℕ). m + 1) (good.literals.counted key hk) ∙ sym (ap length mine ∙ length-append (key_literals w key t) (x ∷ []))))
            (λ d. counts k h d ∙ good.literals.counted k h ∙ sym (ap length (others k d)));
        numbered = λ g h. by-eq g t (λ e. rw e number-last) (λ d. number-kept g (omega (arith, c.all)));
        linked = rw c.all linked-new;
      }

  pub all-kept : Changes w w₂ (added key x)
  unfolding store_of
  all-kept =
      let below : (i : ℕ) → i < 1156 → word w₂ i ≡ word w i = c.below in
      let s = slots-below w w₂ good.slots c.size (λ i h. below i (omega arith)) in
      record {
        good = record { slots = s.0; literals = good-kept };
        store = store-eq
            s.1
            (upto-add_at (λ k. key_literals w k t) (λ k. key_literals w₂ k (all_of w₂)) 32 key x hk mine (λ k h d. others k d))
            (ap (λ (n : ℕ). ltb 0 n) (below 1155 (omega arith)));
        size = c.size;
        outside = λ i h. below i (omega arith);
      }

-- ---- as the code has it

side-at : (b i : ℕ) {at side : ℕ} → b < 4096 → at ≡ link_at b i → (at < 4096 → side ≡ b % 2) → (4096 ≤ at → side ≡ 0) → side ≡ side_of b i
unfolding link_at side_of
side-at b zero h e low high = low (omega arith)
side-at b (suc g) h e low high = high (omega arith)

module _ (w : List ℕ) (good : Good w) (key : ℕ) (x : Literal) (hk : key < 32) (room : total (store_of w).literals < 4096) {g n at : ℕ} (eg : g ≡ all_of w) (en : n ≡ count_of w key) (tl : Tail w (bucket key x.second) at) where
  pub few-enough : (all_of w < 4096) × (g < 4096)
  few-enough = omega (arith, total-is w good.literals)

  pub where-at : (2048 ≤ at) × (at < 4096 + 3 * g)
  where-at = let i = tl.is in omega (arith, link-in (bucket key x.second) tl.i g (bucket-small key x.second) (rw eg tl.inside))

  pub keep-in : (g < 4096) × (n < 4096) × (2048 ≤ at) × (at < 4096 + 3 * g)
  keep-in = (few-enough.1, omega (arith, few-enough, count_most w good.literals key hk), where-at.0, where-at.1)

  pub keep-is : {w₂ : List ℕ} {y side link : ℕ} → y ≡ word w at → (at < 4096 → side ≡ bucket key x.second % 2) → (4096 ≤ at → side ≡ 0) → link ≡ relinked side y (g + 1) → Written w w₂ key g n at link x → Changes w w₂ (added key x)
  keep-is {w₂} {y} {side} {link} ey low high el c =
      let q : side ≡ side_of (bucket key x.second) tl.i = side-at (bucket key x.second) tl.i (bucket-small key x.second) tl.is low high in
      all-kept w w₂ key x good hk few-enough.0 tl (rw (el, q, ey, eg, en) at c)
