-- Reading at a cursor is reading at the place that it stands for. Assumes nothing.
use mathlib.Core.Path.{◌≡◌, sym, ap, ◌∙◌}
use mathlib.Core.Bool.{Bool, true, false}
use mathlib.Core.List.{List, [], ◌∷◌}
use Prim.Native.Nat.{ℕ, zero, suc, ◌+◌, ◌-◌, ◌<◌, ◌≤◌}
use native.Mathlib.Nat.{add-zero, sub-zero, zero-sub, suc-sub-suc}
use native.Mathlib.Omega.{arith}
use lib.IntN.{ℤ}
use lib.Dec.{leb, eqb}
use lib.ListN.{length, get_or, take, drop, length-take, length-drop}
use lib.Seq.{slice, length-slice, take-nil, take-length, length-take-le, drop-cons, drop-drop, get_or-take, get_or-drop}
use borrow.Author.Tests.{le-leb, lt-leb}
use Rattle.format.specs.Answer.{Answer, ok, refuse, need, need_at, or_refuse, ◌>>=◌, ◌>>◌}
use Rattle.format.specs.Label.{read_label}
use Rattle.format.specs.Row.{Place}
use Rattle.format.specs.Read.{Reading, in_message, ending, read_number, read_bytes, read_literal}
use Rattle.laws.specs.Facts.{by_bool, by-lt}
use Rattle.label.specs.declared.cursor.Cursor.{Cursor}
use Rattle.std.specs.Prelude.{Some, None}
use Rattle.label.specs.Cursor.{cursor, answer, label_at}
use Rattle.label.specs.Moved.{label-moved, label-bad}
use Rattle.read_pieces.specs.Pieces.{reading_of, Inside}
use Rattle.read_leaf.specs.Touch.{then-read}
use Rattle.read_leaf.specs.Promises.{is_ending}

pub take-drop : {X : Type 0} (n k : ℕ) (l : List X) → take (k - n) (drop n l) ≡ drop n (take k l)
take-drop zero k l = rw sub-zero
take-drop (suc n) zero l = rw zero-sub
take-drop (suc n) (suc k) [] = take-nil (suc k - suc n)
take-drop (suc n) (suc k) (x ∷ l) = rw suc-sub-suc (take-drop n k l)

module _ (m : List ℕ) (c : Cursor) where
  -- what stands behind the piece makes no difference
  pub label-within : c.end ≤ length m → label_at (take c.end m) (cursor c.at (length (take c.end m))) ≡ label_at m c
  unfolding label_at
  label-within h =
      ap (λ l. answer (length (take c.end m)) (read_label (drop c.at l))) (take-length (take c.end m))
      ∙ ap (λ n. answer n (read_label (slice c.at c.end m))) (length-take-le c.end m h)

  left_is : (in_message m).left (reading_of c) ≡ slice c.at c.end m
  left_is = take-drop c.at c.end m

  module _ (i : Inside m c) where
    left-size : length ((in_message m).left (reading_of c)) ≡ c.end - c.at
    left-size = ap length left_is ∙ length-slice c.at c.end m i.inside

    pub number-got : (l : ℤ) (next : Cursor) → label_at m c ≡ Some (l, next) → read_number (in_message m) (reading_of c) ≡ ok (l, reading_of next)
    unfolding read_number or_refuse ◌>>=◌
    number-got l next e =
        let v = label-moved m c l next i.inside e in
        let size : length (slice next.at c.end m) ≡ c.end - next.at = length-slice next.at c.end m i.inside in
        let at : c.at + (c.end - c.at - (c.end - next.at)) ≡ next.at = omega (arith, v.at, v.inside) in
        let end : c.end ≡ next.end = sym v.end in
        rw (left_is, v.is, length-slice c.at c.end m i.inside, size, at, end)

    pub number-bad : label_at m c ≡ None → read_number (in_message m) (reading_of c) ≡ refuse 23 0
    unfolding read_number or_refuse ◌>>=◌
    number-bad e = rw (left_is, label-bad m c e)

    pub bytes-got : (size : ℕ) → size ≤ c.end - c.at → read_bytes (in_message m) size (reading_of c) ≡ ok (record { start = c.at; size = size }, reading_of (cursor (c.at + size) c.end))
    unfolding read_bytes need_at ◌>>◌
    bytes-got size h = rw (left-size, le-leb size (c.end - c.at) h)

    pub bytes-not : (size : ℕ) → c.end - c.at < size → read_bytes (in_message m) size (reading_of c) ≡ refuse 27 0
    unfolding read_bytes need_at ◌>>◌
    bytes-not size h = rw (left-size, lt-leb size (c.end - c.at) h)

    pub number-later : (l : ℤ) (next : Cursor) → label_at m c ≡ Some (l, next) → c.at ≤ next.at
    number-later l next e = omega (arith, (label-moved m c l next i.inside e).at)

    pub number-inside : (l : ℤ) (next : Cursor) → label_at m c ≡ Some (l, next) → Inside m next × (next.end ≡ c.end)
    number-inside l next e = let v = label-moved m c l next i.inside e in (record { ordered = omega (arith, v.inside, v.end); inside = omega (arith, i.inside, v.end) }, v.end)

-- ---- a literal, and the 00 behind it

-- of the bytes that it takes, those that it is, where the one behind them is right
abbrev pub shown : List ℕ → Bool → ℕ → Place → Answer Place
shown m b n v = need (is_ending m b (v.start + n)) 35 >> ok (record { start = v.start; size = n })

module _ (m : List ℕ) (n : ℕ) (p : Reading) where
  abbrev left : List ℕ
  left = (in_message m).left p

  abbrev behind : List ℕ
  behind = (in_message m).left (record { at = p.at + n; end = p.end })

  -- what is left behind the next n bytes
  behind-is : behind ≡ drop n left
  behind-is =
      let e : p.end - (p.at + n) ≡ p.end - p.at - n = omega arith in
      rw (e, ← drop-drop n p.at m) (take-drop n (p.end - p.at) (drop p.at m))

  behind-size : length behind ≡ length left - n
  behind-size = ap length behind-is ∙ length-drop n left

  behind-first : n < length left → get_or behind 0 1 ≡ get_or m (p.at + n) 0
  behind-first h =
      let b : n < p.end - p.at = omega (arith, length-take (p.end - p.at) (drop p.at m)) in
      rw (behind-is, drop-cons left n 0 h) (get_or-take (p.end - p.at) (drop p.at m) n 0 b ∙ get_or-drop p.at m n 0)

  -- the bytes and the 00 are asked for at once: the one or the other is missing alike
  pub literal-at : (b : Bool) → read_literal (in_message m) b n p ≡ (read_bytes (in_message m) (n + length (ending b)) p >>= then-read (shown m b n))
  unfolding read_literal read_bytes ending is_ending need_at ◌>>◌ ◌>>=◌
  literal-at false = by_bool (leb n (length left)) (λ e. rw (add-zero, e)) (λ e. rw (add-zero, e))
  literal-at true = by-lt n (length left)
      (λ h.
      let e : leb n (length left) ≡ true = le-leb n (length left) (omega arith) in
      let e₁ : leb (n + 1) (length left) ≡ true = le-leb (n + 1) (length left) (omega arith) in
      let e₂ : leb 1 (length behind) ≡ true = le-leb 1 (length behind) (omega (arith, behind-size)) in
      let z : p.at + n + 1 ≡ p.at + (n + 1) = omega arith in
      by_bool (eqb (get_or m (p.at + n) 0) 0) (λ t. rw (e, e₁, e₂, behind-first h, t, z)) (λ t. rw (e, e₁, e₂, behind-first h, t)))
      (λ h.
      let e₁ : leb (n + 1) (length left) ≡ false = lt-leb (n + 1) (length left) (omega arith) in
      let e₂ : leb 1 (length behind) ≡ false = lt-leb 1 (length behind) (omega (arith, behind-size)) in
      by_bool (leb n (length left)) (λ e. rw (e, e₁, e₂)) (λ e. rw (e, e₁)))
