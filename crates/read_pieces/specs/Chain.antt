-- Pieces one after another: where each begins and ends, and what the format's `pieces` answers from the label of one on.
use Rattle.std.specs.Prelude.{◌≡◌, refl, false, cond, List, [], ◌∷◌, ◌++◌, ℕ, suc, ◌+◌, ◌-◌, ◌≤◌, ◌<◌, leb, eqb, ℤ, pos, negsuc, length, drop, get_or}
use Rattle.std.proofs.Common.{sym, ◌∙◌, ap, arith, length-drop, drop_of_length-le, drop-cons, drop-drop}
use Rattle.std.proofs.Math.Option.{Option, none, some}
use borrow.Author.Tests.{le-leb, lt-leb, eq-eqb, ne_eqb}
use Rattle.format.specs.Answer.{Answer, ok, refuse, ◌>>=◌, ◌>>◌, need_at, or_refuse}
use Rattle.format.specs.Label.{read_label}
use Rattle.format.specs.Read.{Reading, pieces, size_of, last_of, blocks_and_core, split}
use Rattle.laws.specs.Pieces.{pieces-skip}
use Rattle.laws.specs.Facts.{by-lt, some_pair}

-- the pieces of m from the label at `at` on
abbrev pub pieces_from : List ℕ → ℕ → Answer (List Reading)
pieces_from m at = pieces at 0 (drop at m)

unfoldable pub list_of : Answer (List Reading) → List Reading
list_of (ok ps) = ps
list_of (refuse r i) = []

-- those at the front that end no later than `end`
unfoldable pub up_to : ℕ → List Reading → List Reading
up_to end [] = []
up_to end (p ∷ ps) = cond (leb p.end end) (p ∷ up_to end ps) []

-- the pieces whose labels stand from `at` on and that end before the label at `end`
unfoldable pub waiting_of : List ℕ → ℕ → ℕ → List Reading
waiting_of m at end = up_to end (list_of (pieces_from m at))

-- the piece whose label stands at `at`
pub record Piece (m : List ℕ) (at : ℕ) (p : Reading) : Type 0 where
  pub size : ℕ
  pub reads : read_label (drop at m) ≡ some (pos size, drop p.at m)
  pub later : at < p.at
  pub ends : p.end ≡ p.at + size
  pub inside : p.end ≤ length m

-- no piece stands there; what is wrong with the label makes no difference
pub data NoPiece (m : List ℕ) (at : ℕ) : Type 0 where
  broken : read_label (drop at m) ≡ none → NoPiece m at
  negative : {n : ℕ} {rest : List ℕ} → read_label (drop at m) ≡ some (negsuc n, rest) → NoPiece m at
  long : {n : ℕ} {rest : List ℕ} → read_label (drop at m) ≡ some (pos n, rest) → length rest < n → NoPiece m at

-- the label at `end` is reached from the one at `at`, piece by piece, and from there on everything reads
pub data Chain (m : List ℕ) : ℕ → ℕ → Type 0 where
  here : {at : ℕ} {ps : List Reading} → pieces_from m at ≡ ok ps → Chain m at at
  past : {at end : ℕ} (p : Reading) → Piece m at p → Chain m p.end end → Chain m at end

-- What `pieces` does: bytes inside a piece are passed over, and a label is read.

module _ (at b : ℕ) (bs : List ℕ) where
  good-label : (rest : List ℕ) (n : ℕ) → read_label (b ∷ bs) ≡ some (pos n, rest) → n ≤ length rest
      → pieces at 0 (b ∷ bs) ≡ (pieces (suc at) (length bs - length rest + n) bs >>= (λ ps. ok (record { at = at + 1 + (length bs - length rest); end = at + 1 + (length bs - length rest) + n } ∷ ps)))
  unfolding pieces or_refuse ◌>>=◌ ◌>>◌ need_at size_of
  good-label rest n e h = rw (e, le-leb n (length rest) h)

  no-label : read_label (b ∷ bs) ≡ none → pieces at 0 (b ∷ bs) ≡ refuse 22 0
  unfolding pieces or_refuse ◌>>=◌
  no-label e = rw e

  below-zero : (rest : List ℕ) (n : ℕ) → read_label (b ∷ bs) ≡ some (negsuc n, rest) → pieces at 0 (b ∷ bs) ≡ refuse 22 0
  unfolding pieces or_refuse ◌>>=◌ size_of
  below-zero rest n e = rw e

  too_long : (rest : List ℕ) (n : ℕ) → read_label (b ∷ bs) ≡ some (pos n, rest) → length rest < n → pieces at 0 (b ∷ bs) ≡ refuse 22 0
  unfolding pieces or_refuse ◌>>=◌ ◌>>◌ need_at size_of
  too_long rest n e h = rw (e, lt-leb n (length rest) h)

-- the pieces from a label on are its own and those behind it
pub piece-step : {m : List ℕ} {at : ℕ} {p : Reading} → Piece m at p → pieces_from m at ≡ (pieces_from m p.end >>= (λ ps. ok (p ∷ ps)))
piece-step {m} {at} {p} x =
    let within : at < length m = omega arith in
    let bs : List ℕ = drop (suc at) m in
    let rest : List ℕ = drop p.at m in
    let all : length bs ≡ length m - suc at = length-drop (suc at) m in
    let left : length rest ≡ length m - p.at = length-drop p.at m in
    let fits : x.size ≤ length rest = omega arith in
    let more : ℕ = length bs - length rest in
    let start : at + 1 + more ≡ p.at = omega arith in
    let skip : more + x.size ≤ length bs = omega arith in
    let stop : suc at + (more + x.size) ≡ p.end = omega arith in
    rw (drop-cons m at 0 within, good-label at (get_or m at 0) bs rest x.size (rw (drop-cons m at 0 within) at x.reads) fits, pieces-skip (suc at) (more + x.size) bs skip, drop-drop, stop, start, ← x.ends)

pub no-piece : {m : List ℕ} {at : ℕ} → at < length m → NoPiece m at → pieces_from m at ≡ refuse 22 0
no-piece {m} {at} h x = rw (drop-cons m at 0 h) (go x)
  where
    go : NoPiece m at → pieces at 0 (get_or m at 0 ∷ drop (suc at) m) ≡ refuse 22 0
    go (broken e) = no-label at _ _ (rw (drop-cons m at 0 h) at e)
    go (negative {n} {rest} e) = below-zero at _ _ rest n (rw (drop-cons m at 0 h) at e)
    go (long {n} {rest} e l) = too_long at _ _ rest n (rw (drop-cons m at 0 h) at e) l

pub nothing_left : (m : List ℕ) {at : ℕ} → length m ≤ at → pieces_from m at ≡ ok []
unfolding pieces
nothing_left m h = rw (drop_of_length-le m h)

-- A label has one piece at most, and none where there is no piece.

reading-is : {a e : ℕ} {p : Reading} → a ≡ p.at → e ≡ p.end → ◌≡◌ {A = Reading} (record { at = a; end = e }) p
reading-is h k = rw (h, k)

pub piece-unique : {m : List ℕ} {at : ℕ} {p q : Reading} → Piece m at p → Piece m at q → p ≡ q
piece-unique {m} {at} {p} {q} x y =
    let (n, rest) = some_pair (sym x.reads ∙ y.reads) in
    let sizes : x.size ≡ y.size = cc in
    let lengths : length m - p.at ≡ length m - q.at = sym (length-drop p.at m) ∙ ap length rest ∙ length-drop q.at m in
    reading-is (omega arith) (omega arith)

pub piece-not : {m : List ℕ} {at : ℕ} {p : Reading} → Piece m at p → NoPiece m at → ⊥
piece-not x (broken e) =
    let z : ◌≡◌ {A = ℕ} 0 1 = cc in
    omega arith
piece-not x (negative e) =
    let (n, rest) = some_pair (sym e ∙ x.reads) in
    let z : ◌≡◌ {A = ℕ} 0 1 = cc in
    omega arith
piece-not {m} {at} {p} x (long {n} {rest} e l) =
    let (k, r) = some_pair (sym e ∙ x.reads) in
    let sizes : n ≡ x.size = cc in
    omega (arith, ap length r, length-drop p.at m)

-- Chains.

-- nothing stands at the end of the message
pub chain-none : (m : List ℕ) → Chain m (length m) (length m)
chain-none m =
    let e : pieces_from m (length m) ≡ ok [] = nothing_left m (omega arith) in
    here e

pub chain-le : {m : List ℕ} {at end : ℕ} → Chain m at end → at ≤ end
chain-le (here e) = omega arith
chain-le (past p x c) = omega (arith, chain-le c)

-- a chain that is not at its end begins with a piece
pub chain_first : {m : List ℕ} {at end : ℕ} → Chain m at end → (at ≡ end → ⊥) → (p : Reading) × Piece m at p × Chain m p.end end
chain_first (here e) apart = absurd (apart refl)
chain_first (past p x c) apart = (p, x, c)

-- all pieces from the front of a chain on read
pub chain-reads : {m : List ℕ} {at end : ℕ} → Chain m at end → (ps : List Reading) × (pieces_from m at ≡ ok ps)
unfolding ◌>>=◌
chain-reads (here {ps = ps} e) = (ps, e)
chain-reads (past p x c) =
    let (ps, e) = chain-reads c in
    (p ∷ ps, rw (piece-step x, e))

-- What waits: the pieces of the chain.

up-to-nil : (end : ℕ) → up_to end [] ≡ []
unfolding up_to
up-to-nil end = refl

up-to-in : (end : ℕ) (p : Reading) (ps : List Reading) → p.end ≤ end → up_to end (p ∷ ps) ≡ p ∷ up_to end ps
unfolding up_to
up-to-in end p ps h = rw (le-leb p.end end h)

up-to-out : (end : ℕ) (p : Reading) (ps : List Reading) → end < p.end → up_to end (p ∷ ps) ≡ []
unfolding up_to
up-to-out end p ps h = rw (lt-leb p.end end h)

pub waiting-step : {m : List ℕ} {at end : ℕ} {p : Reading} → Piece m at p → Chain m p.end end → waiting_of m at end ≡ p ∷ waiting_of m p.end end
unfolding waiting_of list_of ◌>>=◌
waiting-step {end = end} {p} x c =
    let (ps, e) = chain-reads c in
    rw (piece-step x, e) (up-to-in end p ps (chain-le c))

-- no piece ends at its own label
none-ends : (at k n : ℕ) (a : Answer (List Reading)) → up_to at (list_of (a >>= (λ ps. ok (record { at = at + 1 + k; end = at + 1 + k + n } ∷ ps)))) ≡ []
unfolding list_of ◌>>=◌
none-ends at k n (ok ps) = up-to-out at (record { at = at + 1 + k; end = at + 1 + k + n }) ps (omega arith)
none-ends at k n (refuse r i) = up-to-nil at

refused_none : (at : ℕ) {a : Answer (List Reading)} → a ≡ refuse 22 0 → up_to at (list_of a) ≡ []
unfolding list_of
refused_none at e = rw e (up-to-nil at)

label-none : (at b : ℕ) (bs : List ℕ) (o : Option (ℤ × List ℕ)) → read_label (b ∷ bs) ≡ o → up_to at (list_of (pieces at 0 (b ∷ bs))) ≡ []
label-none at b bs none e = refused_none at (no-label at b bs e)
label-none at b bs (some (pos n, rest)) e =
    by-lt (length rest) n (λ l. refused_none at (too_long at b bs rest n e l))
    (λ h. rw (good-label at b bs rest n e h) (none-ends at (length bs - length rest) n _))
label-none at b bs (some (negsuc n, rest)) e = refused_none at (below-zero at b bs rest n e)

nil-pieces : (at : ℕ) → list_of (pieces at 0 []) ≡ []
unfolding list_of pieces
nil-pieces at = refl

pub waiting_none : (m : List ℕ) (at : ℕ) → waiting_of m at at ≡ []
unfolding waiting_of
waiting_none m at = go (drop at m)
  where
    go : (bs : List ℕ) → up_to at (list_of (pieces at 0 bs)) ≡ []
    go [] = rw (nil-pieces at) (up-to-nil at)
    go (b ∷ bs) = label-none at b bs (read_label (b ∷ bs)) refl

-- so the two places tell whether any wait
pub none-waiting : {m : List ℕ} {at end : ℕ} → Chain m at end → eqb (length (waiting_of m at end)) 0 ≡ eqb at end
none-waiting {m} {at} (here e) = rw (waiting_none m at, eq-eqb at at refl)
none-waiting {m} {at} {end} (past p x c) =
    let apart : at ≡ end → ⊥ = λ e. omega (arith, chain-le c) in
    rw (waiting-step x c, ne_eqb at end apart) (ne_eqb (length (p ∷ waiting_of m p.end end)) 0 (λ e. omega arith))

-- The whole message.

-- a chain up to the last piece: what waits in front of it, and that piece
pub chain-all : {m : List ℕ} {at end : ℕ} {core : Reading} → Chain m at end → pieces_from m end ≡ ok (core ∷ []) → pieces_from m at ≡ ok (waiting_of m at end ++ core ∷ [])
unfolding ◌>>=◌
chain-all {m} {at} (here e) q = rw (waiting_none m at) q
chain-all (past p x c) q = rw (piece-step x, chain-all c q, waiting-step x c)

last-of : (p : Reading) (ps : List Reading) (core : Reading) → last_of p (ps ++ core ∷ []) ≡ (p ∷ ps, core)
unfolding last_of
last-of p [] core = refl
last-of p (q ∷ ps) core = rw (last-of q ps core)

blocks-and-core : (ps : List Reading) (core : Reading) → blocks_and_core (ps ++ core ∷ []) ≡ ok (ps, core)
unfolding blocks_and_core last_of
blocks-and-core [] core = refl
blocks-and-core (p ∷ ps) core = rw (last-of p ps core)

pub split-found : {m : List ℕ} {end : ℕ} {core : Reading} → Chain m 1 end → pieces_from m end ≡ ok (core ∷ []) → split false m ≡ ok (waiting_of m 1 end, core)
unfolding split ◌>>=◌
split-found {m} {end} {core} c e = rw (chain-all c e) (blocks-and-core (waiting_of m 1 end) core)

pub split-refused : (m : List ℕ) → pieces_from m 1 ≡ refuse 22 0 → split false m ≡ refuse 22 0
unfolding split ◌>>=◌
split-refused m e = rw e

pub split-empty : (m : List ℕ) → pieces_from m 1 ≡ ok [] → split false m ≡ refuse 22 0
unfolding split ◌>>=◌ blocks_and_core
split-empty m e = rw e
