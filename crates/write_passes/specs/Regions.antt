-- The output while the blocks are written: for each key a label, the bytes written so far, and what stands where the others will stand.
use Rattle.std.specs.Prelude.{◌≡◌, refl, true, false, cond, List, [], ◌∷◌, ◌++◌, ℕ, suc, ◌+◌, ◌≤◌, eqb, pos, length, get_or, set, drop}
use Rattle.std.proofs.Common.{sym, ◌∙◌, ap, append_assoc, add_assoc, add-zero, add-suc, suc-add, zero-add, arith, length-append, length-drop, eqb-true, eq-eqb}
use Rattle.std.proofs.Math.Option.{some}
use Rattle.std.proofs.lemmas.List.Edits.{sets, sets-eq}
use Rattle.std.proofs.lemmas.List.{drop-append-le}
use Rattle.format.specs.Label.{label, label_size}
use Rattle.format.specs.Write.{add_bytes, block_pieces}
use Rattle.label.specs.Laws.{framed}
use Rattle.store.specs.Store.{lookup, change}
use Rattle.laws.specs.Facts.{by_bool}
use Rattle.theory.specs.Blocks.{bytes-new, bytes-here, bytes-behind}
use Rattle.write_passes.specs.Layout.{block_space}
use Rattle.write_passes.specs.Slots.{under, lookup-here, lookup-behind, change-here, change-behind}
use Rattle.write_passes.specs.Before.{Below, below_length, below_parts}

-- Bytes put behind others, and at the front.

set-behind : (a l : List ℕ) (i x : ℕ) → set (a ++ l) (length a + i) x ≡ a ++ set l i x
set-behind [] l i x = rw zero-add
set-behind (b ∷ a) l i x = rw suc-add (ap (λ r. b ∷ r) (set-behind a l i x))

pub sets_behind : (a vs l : List ℕ) (i : ℕ) → sets (a ++ l) (length a + i) vs ≡ a ++ sets l i vs
sets_behind a [] l i = refl
sets_behind a (v ∷ vs) l i = rw (set-behind a l i v, ← (add-suc (length a) i)) (sets_behind a vs (set l i v) (suc i))

sets-front : (vs left rest : List ℕ) → length vs ≤ length left → sets (left ++ rest) 0 vs ≡ vs ++ (drop (length vs) left ++ rest)
sets-front vs left rest h = sets-eq vs (left ++ rest) 0 (omega (arith, length-append left rest)) ∙ rw (zero-add, drop-append-le)

pub sets-seam : (a vs left rest : List ℕ) → length vs ≤ length left → sets (a ++ (left ++ rest)) (length a) vs ≡ a ++ vs ++ (drop (length vs) left ++ rest)
sets-seam a vs left rest h =
    ap (λ i. sets (a ++ (left ++ rest)) i vs) (sym (add-zero (length a))) ∙ (sets_behind a vs (left ++ rest) 0 ∙ (ap (λ r. a ++ r) (sets-front vs left rest h) ∙ sym (append_assoc a vs _)))

pub record Region : Type 0 where
  pub key : ℕ
  pub done : List ℕ
  pub left : List ℕ

abbrev pub size : Region → ℕ
size r = length r.done + length r.left

unfoldable pub shape : List Region → List (ℕ × ℕ)
shape [] = []
shape (r ∷ rs) = (r.key, size r) ∷ shape rs

-- the bytes, with what comes behind
unfoldable pub zone : List Region → List ℕ → List ℕ
zone [] rest = rest
zone (r ∷ rs) rest = label (pos (size r)) ++ (r.done ++ (r.left ++ zone rs rest))

-- where the next byte of each goes, if the first label stands at `at`
unfoldable pub places : ℕ → List Region → List (ℕ × ℕ)
places at [] = []
places at (r ∷ rs) = (r.key, at + label_size (pos (size r)) + length r.done) ∷ places (at + framed (size r)) rs

-- more bytes of a key
abbrev pub grown : List ℕ → Region → Region
grown bs r = record { key = r.key; done = r.done ++ bs; left = drop (length bs) r.left }

unfoldable pub extend : ℕ → List ℕ → List Region → List Region
extend k bs [] = []
extend k bs (r ∷ rs) = cond (eqb r.key k) (grown bs r ∷ rs) (r ∷ extend k bs rs)

module _ (k : ℕ) (bs : List ℕ) (r : Region) (rs : List Region) where
  extend-here : eqb r.key k ≡ true → extend k bs (r ∷ rs) ≡ grown bs r ∷ rs
  unfolding extend
  extend-here e = rw (e, extend)

  extend-behind : eqb r.key k ≡ false → extend k bs (r ∷ rs) ≡ r ∷ extend k bs rs
  unfolding extend
  extend-behind e = rw (e, extend)

pub zone-length : (rs : List Region) (rest : List ℕ) → length (zone rs rest) ≡ block_space (shape rs) + length rest
unfolding zone shape block_space
zone-length [] rest = omega arith
zone-length (r ∷ rs) rest =
    omega (arith, zone-length rs rest, length-append (label (pos (size r))) (r.done ++ (r.left ++ zone rs rest)), length-append r.done (r.left ++ zone rs rest), length-append r.left (zone rs rest))

-- bytes put behind all of them
pub zone-behind : (rs : List Region) (rest vs : List ℕ) (i : ℕ) → sets (zone rs rest) (block_space (shape rs) + i) vs ≡ zone rs (sets rest i vs)
unfolding zone shape block_space
zone-behind [] rest vs i = rw zero-add
zone-behind (r ∷ rs) rest vs i =
    let e : framed (size r) + block_space (shape rs) + i ≡ label_size (pos (size r)) + (length r.done + (length r.left + (block_space (shape rs) + i))) = omega arith in
    rw (e, sets_behind, sets_behind, sets_behind, zone-behind rs rest vs i)

-- n more bytes of a key have room
pub data Room (k n : ℕ) : List Region → Type 0 where
  here : {r : Region} {rs : List Region} → eqb r.key k ≡ true → n ≤ length r.left → Room k n (r ∷ rs)
  behind : {r : Region} {rs : List Region} → eqb r.key k ≡ false → Room k n rs → Room k n (r ∷ rs)

size-grown : (bs : List ℕ) (r : Region) → length bs ≤ length r.left → size (grown bs r) ≡ size r
size-grown bs r h = omega (arith, length-append r.done bs, length-drop (length bs) r.left)

-- where they are put, i bytes behind the first label, and what is there then
pub record Puts (k : ℕ) (bs : List ℕ) (rs : List Region) (i : ℕ) : Type 0 where
  pub same : shape (extend k bs rs) ≡ shape rs
  pub room : i + length bs ≤ block_space (shape rs)
  pub place : (at : ℕ) → lookup k (places at rs) ≡ some (at + i)
  pub moved : (at : ℕ) → change k (λ n. n + length bs) (places at rs) ≡ places at (extend k bs rs)
  pub bytes : (rest : List ℕ) → sets (zone rs rest) i bs ≡ zone (extend k bs rs) rest

puts-here : (k : ℕ) (bs : List ℕ) (r : Region) (rs : List Region) → eqb r.key k ≡ true → length bs ≤ length r.left → Puts k bs (r ∷ rs) (label_size (pos (size r)) + length r.done)
unfolding shape zone places block_space
puts-here k bs r rs e h =
    let key : r.key ≡ k = eqb-true _ _ e in
    let s : size (grown bs r) ≡ size r = size-grown bs r h in
    record {
      same = rw (extend-here k bs r rs e, s);
      room = omega (arith, h);
      place = λ at. lookup-here k _ _ e ∙ ap some (add_assoc at (label_size (pos (size r))) (length r.done));
      moved = λ at.
          let z : at + label_size (pos (size r)) + length r.done + length bs ≡ at + label_size (pos (size r)) + length (r.done ++ bs) = omega (arith, length-append r.done bs) in
          change-here k (r.key, at + label_size (pos (size r)) + length r.done) (places (at + framed (size r)) rs) (λ n. n + length bs) e ∙ rw (extend-here k bs r rs e, s, key, z);
      bytes = λ rest. rw (extend-here k bs r rs e, s) (sets_behind (label (pos (size r))) bs _ (length r.done) ∙ ap (λ l. label (pos (size r)) ++ l) (sets-seam r.done bs r.left (zone rs rest) h));
    }

puts-behind : (k : ℕ) (bs : List ℕ) (r : Region) (rs : List Region) (i : ℕ) → eqb r.key k ≡ false → Puts k bs rs i → Puts k bs (r ∷ rs) (framed (size r) + i)
unfolding shape zone places block_space
puts-behind k bs r rs i e p =
    let z : framed (size r) + i ≡ label_size (pos (size r)) + (length r.done + (length r.left + i)) = omega arith in
    record {
      same = rw (extend-behind k bs r rs e, p.same);
      room = omega (arith, p.room);
      place = λ at. lookup-behind k _ _ e ∙ (p.place (at + framed (size r)) ∙ ap some (add_assoc at (framed (size r)) i));
      moved = λ at. change-behind k (r.key, at + label_size (pos (size r)) + length r.done) (places (at + framed (size r)) rs) (λ n. n + length bs) e ∙ rw (extend-behind k bs r rs e, p.moved (at + framed (size r)));
      bytes = λ rest. rw (extend-behind k bs r rs e, z, sets_behind, sets_behind, sets_behind, p.bytes rest);
    }

pub puts : (k : ℕ) (bs : List ℕ) (rs : List Region) → Room k (length bs) rs → (i : ℕ) × Puts k bs rs i
puts k bs (r ∷ rs) (here e h) = (label_size (pos (size r)) + length r.done, puts-here k bs r rs e h)
puts k bs (r ∷ rs) (behind e h) =
    let (i, p) = puts k bs rs h in
    (framed (size r) + i, puts-behind k bs r rs i e p)
puts k bs [] x = elim x [ ]

-- The blocks so far are what is written; the keys that come later have nothing yet.
pub data Covers : List (ℕ × List ℕ) → List Region → Type 0 where
  no_more : Covers [] []
  waiting : {r : Region} {rs : List Region} → r.done ≡ [] → Covers [] rs → Covers [] (r ∷ rs)
  covered : {y : ℕ × List ℕ} {ys : List (ℕ × List ℕ)} {r : Region} {rs : List Region} → y.0 ≡ r.key → y.1 ≡ r.done → Covers ys rs → Covers (y ∷ ys) (r ∷ rs)

-- more bytes of a key, as many as still fit
more-here : (k : ℕ) (u bs : List ℕ) (ys : List (ℕ × List ℕ)) (r : Region) (rs : List Region) → k ≡ r.key → u ≡ r.done → length (u ++ bs) ≤ size r → Covers ys rs
    → Room k (length bs) (r ∷ rs) × Covers ((k, u ++ bs) ∷ ys) (extend k bs (r ∷ rs))
more-here k u bs ys r rs e f h c =
    let t : eqb r.key k ≡ true = eq-eqb _ _ (sym e) in
    let l : length bs ≤ length r.left = omega (arith, length-append u bs, ap length f) in
    (here t l, rw (extend-here k bs r rs t) (covered e (ap (λ x. x ++ bs) f) c))

pub covers_more : (k : ℕ) (bs : List ℕ) (ys : List (ℕ × List ℕ)) (rs : List Region) → Covers ys rs → Below (under length (add_bytes k bs ys)) (shape rs) → Room k (length bs) rs × Covers (add_bytes k bs ys) (extend k bs rs)
unfolding shape
covers_more k bs [] [] no_more b = absurd (let l = below_length (rw bytes-new at b) in omega arith)
covers_more k bs [] (r ∷ rs) (waiting f c) b =
    let (e, l, _) = below_parts (rw bytes-new at b) in
    rw bytes-new (more-here k [] bs [] r rs e (sym f) l c)
covers_more k bs (y ∷ ys) (r ∷ rs) (covered e f c) b = by_bool (eqb y.0 k)
    (λ t. let (g, l, _) = below_parts (rw (bytes-here k bs y ys t) at b) in
    rw (bytes-here k bs y ys t) (more-here k y.1 bs ys r rs g f l c))
    (λ t. let (g, l, b₁) = below_parts (rw (bytes-behind k bs y ys t) at b) in
    let t₁ : eqb r.key k ≡ false = rw e at t in
    let (h, c₁) = covers_more k bs ys rs c b₁ in
    (behind t₁ h, rw (bytes-behind k bs y ys t, extend-behind k bs r rs t₁) (covered e f c₁)))
covers_more k bs (y ∷ ys) [] x b = elim x [ ]

-- all of them written
pub no-bytes : (l : List ℕ) → length l ≡ 0 → l ≡ []
no-bytes [] e = refl
no-bytes (x ∷ l) e = absurd (omega arith)

pub zone-done : (ys : List (ℕ × List ℕ)) (rs : List Region) → Covers ys rs → shape rs ≡ under length ys → (rest : List ℕ) → zone rs rest ≡ block_pieces ys ++ rest
unfolding shape zone block_pieces
zone-done [] [] no_more e rest = refl
zone-done [] (r ∷ rs) (waiting f c) e rest = absurd (let z : suc (length (shape rs)) ≡ 0 = ap length e in omega arith)
zone-done (y ∷ ys) (r ∷ rs) (covered g f c) e rest =
    let s : size r ≡ length y.1 = ap (λ l. (get_or {A = ℕ × ℕ} l 0 (0, 0)).1) e in
    let n : r.left ≡ [] = no-bytes r.left (omega (arith, ap length f)) in
    let ih : zone rs rest ≡ block_pieces ys ++ rest = zone-done ys rs c (ap (λ l. drop 1 l) e) rest in
    rw (s, n, ih, ← f, append_assoc (label (pos (length y.1)) ++ y.1) (block_pieces ys) rest, append_assoc)
zone-done (y ∷ ys) [] x e rest = elim x [ ]
