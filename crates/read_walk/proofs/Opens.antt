-- A value is read by what stands in front of it, and then what is left.
use mathlib.Core.Path.{◌≡◌, refl}
use mathlib.Core.Bool.{Bool, true, false, cond}
use mathlib.Core.List.{List}
use mathlib.Core.Option.{none, some}
use Prim.Native.Nat.{ℕ}
use lib.IntN.{ℤ}
use Rattle.format.specs.Answer.{Answer, ok, refuse, ◌>>=◌}
use Rattle.format.specs.Table.{Node, plain, nullable, Held, top_of, wire_of}
use Rattle.format.specs.Row.{Place, Row, bare, null_row, absent_row}
use Rattle.format.specs.Read.{in_message, State, absent_label, is_label, is_null, take_label, row_or, own_label, value, node, wire}
use Rattle.wire_types.specs.Typed.{is_nullable}
use Rattle.read_walk.specs.Opening.{Opened, gone, here, null_or, absent_or, labelled, opened, rest, value_at}

module _ (m : List ℕ) (modes : ℕ) (held : ℕ → Held) where
  abbrev pub onward : Node → Opened × State (in_message m) → Answer (List (Row Place) × State (in_message m))
  onward v p = rest m modes held v p.0 p.1

  -- the value with its label read already
  after-label : (v : Node) (l : ℤ) (s : State (in_message m)) → node (in_message m) modes held v (some l) s ≡ (null_or modes (is_nullable v) l >>= (λ x. ok (x, s)) >>= onward v)
  unfolding node top_of wire_of null_or rest own_label row_or is_nullable ◌>>=◌
  after-label (plain i w) l s = refl
  after-label (nullable i w) l s = go (is_null modes l)
    where
      go : (a : Answer Bool) → (a >>= (λ null. row_or (in_message m) null i (bare null_row 0) (λ t. wire (in_message m) modes held w i (some l) t) s))
          ≡ (a >>= (λ null. ok (cond null (gone null_row) (here (some l)))) >>= (λ x. ok (x, s)) >>= onward (nullable i w))
      go (ok true) = refl
      go (ok false) = refl
      go (refuse r j) = refl

  or-absent : (v : Node) (l : ℤ) (s : State (in_message m)) → row_or (in_message m) (is_label l absent_label) (top_of v) (bare absent_row 0) (λ t. node (in_message m) modes held v (some l) t) s
      ≡ (absent_or modes true (is_nullable v) l >>= (λ x. ok (x, s)) >>= onward v)
  unfolding absent_or row_or rest ◌>>=◌
  or-absent v l s = go (is_label l absent_label)
    where
      go : (b : Bool) → row_or (in_message m) b (top_of v) (bare absent_row 0) (λ t. node (in_message m) modes held v (some l) t) s
          ≡ (cond b (ok (gone absent_row)) (null_or modes (is_nullable v) l) >>= (λ x. ok (x, s)) >>= onward v)
      go true = refl
      go false = after-label v l s

  -- a label, and then whatever it says
  with-label : (f : ℤ → State (in_message m) → Answer (List (Row Place) × State (in_message m))) (g : ℤ → Answer Opened) (v : Node)
      → ((l : ℤ) (s : State (in_message m)) → f l s ≡ (g l >>= (λ x. ok (x, s)) >>= onward v)) → (a : Answer (ℤ × State (in_message m)))
      → (a >>= (λ r. f r.0 r.1)) ≡ (a >>= (λ r. g r.0 >>= (λ x. ok (x, r.1))) >>= onward v)
  unfolding ◌>>=◌
  with-label f g v h (ok r) = h r.0 r.1
  with-label f g v h (refuse e i) = refl

  node_opens : (v : Node) (s : State (in_message m)) → node (in_message m) modes held v none s ≡ (opened m modes false (is_nullable v) s >>= onward v)
  unfolding node opened labelled absent_or top_of wire_of rest own_label is_nullable ◌>>=◌
  node_opens (plain i w) s = refl
  node_opens (nullable i w) s = with-label (λ l t. node (in_message m) modes held (nullable i w) (some l) t) (null_or modes true) (nullable i w) (after-label (nullable i w)) (take_label (in_message m) s)

  pub value-opens : (o : Bool) (v : Node) (s : State (in_message m)) → value_at m modes held o v s ≡ (opened m modes o (is_nullable v) s >>= onward v)
  unfolding value opened labelled
  value-opens false v s = node_opens v s
  value-opens true v s =
      with-label (λ l t. row_or (in_message m) (is_label l absent_label) (top_of v) (bare absent_row 0) (λ u. node (in_message m) modes held v (some l) u) t) (absent_or modes true (is_nullable v)) v (or-absent v) (take_label (in_message m) s)
