-- The two passes one after the other, and what they come to: the message, or 32, or 43.
use Rattle.std.specs.Prelude.{◌≡◌, refl, Bool, true, not, List, ◌++◌, ℕ, ◌≤◌, min, leb, length, drop}
use Rattle.std.proofs.Common.{◌∙◌, arith}
use Rattle.std.proofs.Math.Bool.{false}
use borrow.Author.Tests.{leb-true, not-true}
use Rattle.format.specs.Answer.{Answer, ok, ◌>>=◌, ◌>>◌, need, need_at}
use Rattle.format.specs.Modes.{inline_everything}
use Rattle.format.specs.Table.{Held}
use Rattle.format.specs.Write.{Event, message_of}
use Rattle.laws.specs.Facts.{ok-bind}
use Rattle.theory.specs.Start.{Keys}
use Rattle.theory.specs.Literals.{different}
use Rattle.write_passes.specs.Plan.{Plan, blank, emit_events}
use Rattle.write_passes.specs.Layout.{message_length, lay_out, placed}
use Rattle.write_passes.specs.Count.{Counts, counts}
use Rattle.write_passes.specs.Laid.{message-length, laid_out, laid-behind, laid-length}
use Rattle.write_passes.specs.Put.{writes}

-- what comes after a need matters only where it is met
needed : {A : Type 0} (t : Bool) (r : ℕ) (m n : Answer A) → (t ≡ true → m ≡ n) → (need t r >> m) ≡ (need t r >> n)
unfolding need_at ◌>>◌
needed true r m n h = h refl
needed false r m n h = refl

module _ (modes : ℕ) (held : ℕ → Held) where
  -- what is left to do after the first pass: «32, 43», and then the second
  unfoldable pub second_pass : List Event → List ℕ → Plan → Answer (List ℕ)
  second_pass es out p = do
    need (not p.over) 32
    need (leb (message_length (inline_everything modes) p.core p.slots) (min (length out) 65536)) 43
    q ← emit_events true modes held es (placed modes p.core p.slots (lay_out modes p.core p.slots out))
    ok q.out

  unfoldable pub passes : List Event → List ℕ → Answer (List ℕ)
  passes es out = do
    p ← emit_events false modes held es (blank out)
    second_pass es out p

  -- the message in an output, and behind it what was there
  unfoldable pub written : List Event → List ℕ → Answer (List ℕ)
  written es out = do
    need (leb (different modes held es) 4096) 32
    need (leb (length (message_of modes held es)) (min (length out) 65536)) 43
    ok (message_of modes held es ++ drop (length (message_of modes held es)) out)

  -- the counted sizes are the message's
  pub counted-length : (lent : List ℕ) (es : List Event) (p : Plan) → Counts modes held lent es p → p.over ≡ false → message_length (inline_everything modes) p.core p.slots ≡ length (message_of modes held es)
  counted-length lent es p c e = let s = c.sizes e in rw (s.core, s.slots) (message-length modes held es)

  put_on : (es : List Event) (out : List ℕ) (p : Plan) → Keys es → Counts modes held out es p → p.over ≡ false → length (message_of modes held es) ≤ length out
      → (emit_events true modes held es (placed modes p.core p.slots (lay_out modes p.core p.slots out)) >>= (λ q. ok q.out)) ≡ ok (message_of modes held es ++ drop (length (message_of modes held es)) out)
  put_on es out p k c e h =
      let same = counted-length out es p c e in
      let laid : List ℕ = lay_out modes p.core p.slots out in
      let fits : message_length (inline_everything modes) p.core p.slots ≤ length out = omega arith in
      let fits₁ : message_length (inline_everything modes) p.core p.slots ≤ length laid = omega (arith, laid-length modes p.core p.slots out) in
      let (q, f, w) = writes modes held out es p k c e laid fits₁ (laid_out modes p.core p.slots out fits) in
      rw (f, ok-bind, w.bytes, laid-behind modes p.core p.slots out (length (message_of modes held es)) (omega arith))

  pub second-writes : (es : List Event) (out : List ℕ) (p : Plan) → Keys es → Counts modes held out es p → second_pass es out p ≡ written es out
  unfolding second_pass written
  second-writes es out p k c = rw c.few (needed _ 32 _ _ (λ t.
      let e : p.over ≡ false = not-true _ (c.few ∙ t) in
      rw (counted-length out es p c e) (needed _ 43 _ _ (λ f. put_on es out p k c e (omega (arith, leb-true (length (message_of modes held es)) (min (length out) 65536) f))))))

  pub passes-write : (es : List Event) (out : List ℕ) → Keys es → passes es out ≡ written es out
  unfolding passes
  passes-write es out k =
      let (p, e, c) = counts modes held out es k in
      rw (e, ok-bind) (second-writes es out p k c)
