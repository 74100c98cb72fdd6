-- The writing pass: on an output that is laid out it never refuses, and leaves the message there.
use Rattle.std.specs.Prelude.{◌≡◌, refl, Bool, not, ℤ, pos, drop}
use Rattle.std.proofs.Math.Path.{sym, ap}
use Rattle.std.proofs.Common.{◌∙◌, add_assoc, add-zero, arith, take-append-drop, drop-drop, leb-true}
use Rattle.std.proofs.Math.Bool.{true, false}
use mathlib.Core.List.{List, [], ◌∷◌, ◌++◌, append_assoc}
use Rattle.std.proofs.Math.Option.{some}
use Prim.Native.Nat.{ℕ, ◌+◌, ◌≤◌}
use Rattle.std.proofs.Math.ListN.{length, length-append, length-drop, take}
use Rattle.std.proofs.lemmas.List.Edits.{sets}
use Rattle.std.proofs.Math.Seq.{length-take-le}
use Rattle.format.specs.Label.{label}
use Rattle.format.specs.Modes.{inline_everything, header}
use Rattle.format.specs.Table.{Held}
use Rattle.format.specs.Read.{total}
use Rattle.format.specs.Write.{Event, Draft, add_bytes, put_label, put_value, block_pieces, message_of}
use Rattle.label.specs.Laws.{framed}
use Rattle.store.specs.Store.{lookup, change}
use Rattle.theory.specs.Start.{no_draft, draft, Keys}
use Rattle.write_passes.specs.Plan.{Plan, core_to, slots_to, emit_core, emit_label, emit_slot, emit_bytes, emit_events}
use Rattle.write_passes.specs.Layout.{block_space, core_label, starts, core_start, message_length, Shows, Labelled, LaidOut, placed}
use Rattle.write_passes.specs.Slots.{under}
use Rattle.write_passes.specs.Laws.{core-puts, slot-puts}
use Rattle.write_passes.specs.Before.{Below, Before, before_same}
use Rattle.write_passes.specs.Follow.{After, Follows, follow-events}
use Rattle.write_passes.specs.Count.{Counts, draft-different}
use Rattle.write_passes.specs.Laid.{message-is, message-length}
use Rattle.write_passes.specs.Regions.{Region, size, shape, zone, zone-length, zone-behind, zone-done, places, extend, puts, Covers, no_more, waiting, covers_more, no-bytes, sets_behind, sets-seam}

-- The draft d stands in the output, on its way to the last one: the header, the blocks, the core behind its label, and what comes behind the message.
module _ (first : ℕ) (front behind : List ℕ) (last : Draft) where
  pub record Stands (p : Plan) (d : Draft) : Type 0 where
    pub regions : List Region
    pub left : List ℕ
    pub out : p.out ≡ first ∷ zone regions (front ++ (d.core ++ (left ++ behind)))
    pub core : p.core ≡ 1 + block_space (shape regions) + length front + length d.core
    pub slots : p.slots ≡ places 1 regions
    pub sizes : shape regions ≡ under length last.blocks
    pub covers : Covers d.blocks regions
    pub size : length d.core + length left ≡ length last.core
    pub literals : p.literals ≡ d.literals
    pub over : p.over ≡ false

  -- how long the output is
  room : (p : Plan) (d : Draft) (s : Stands p d) → length p.out ≡ 1 + block_space (shape s.regions) + length front + (length d.core + length s.left) + length behind
  room p d s =
      ap length s.out ∙ omega (
        arith,
        zone-length s.regions (front ++ (d.core ++ (s.left ++ behind))),
        length-append front (d.core ++ (s.left ++ behind)),
        length-append d.core (s.left ++ behind),
        length-append s.left behind,
      )

  core-bytes : (rs : List Region) (core left bs : List ℕ) → length bs ≤ length left
      → sets (first ∷ zone rs (front ++ (core ++ (left ++ behind)))) (1 + block_space (shape rs) + length front + length core) bs ≡ first ∷ zone rs (front ++ (core ++ bs ++ (drop (length bs) left ++ behind)))
  core-bytes rs core left bs h =
      let e : 1 + block_space (shape rs) + length front + length core ≡ 1 + (block_space (shape rs) + (length front + length core)) = omega arith in
      rw e (sets_behind (first ∷ []) bs _ (block_space (shape rs) + (length front + length core))
      ∙ ap (λ l. first ∷ l) (zone-behind rs _ bs (length front + length core) ∙ ap (λ l. zone rs l) (sets_behind front bs _ (length core) ∙ ap (λ l. front ++ l) (sets-seam core bs left behind h))))

  stands-core : (bs : List ℕ) (p : Plan) (d : Draft) → Stands p d → length d.core + length bs ≤ length last.core
      → After (λ q. Stands q (record { core = d.core ++ bs; blocks = d.blocks; literals = d.literals })) (emit_core true bs p)
  stands-core bs p d s h =
      let fits : p.core + length bs ≤ length p.out = omega (arith, room p d s, s.core, s.size) in
      let l : length bs ≤ length s.left = omega (arith, s.size) in (
        core_to (sets p.out p.core bs) (p.core + length bs) p,
        core-puts bs p fits,
        record {
          regions = s.regions;
          left = drop (length bs) s.left;
          out = rw (s.out, s.core) (core-bytes s.regions d.core s.left bs l);
          core = omega (arith, s.core, length-append d.core bs);
          slots = s.slots;
          sizes = s.sizes;
          covers = s.covers;
          size = omega (arith, s.size, length-append d.core bs, length-drop (length bs) s.left);
          literals = s.literals;
          over = s.over;
        },
      )

  stands-slot : (k : ℕ) (bs : List ℕ) (p : Plan) (d : Draft) → Stands p d → Below (under length (add_bytes k bs d.blocks)) (under length last.blocks)
      → After (λ q. Stands q (record { core = d.core; blocks = add_bytes k bs d.blocks; literals = d.literals })) (emit_slot true k bs (lookup k p.slots) p)
  stands-slot k bs p d s b =
      let (r, c) = covers_more k bs d.blocks s.regions s.covers (rw s.sizes b) in
      let (i, t) = puts k bs s.regions r in
      let found : lookup k p.slots ≡ some (1 + i) = rw s.slots (t.place 1) in
      let fits : 1 + i + length bs ≤ length p.out = omega (arith, room p d s, t.room) in (
        slots_to (sets p.out (1 + i) bs) (change k (λ n. n + length bs) p.slots) p,
        rw found (slot-puts k bs p (1 + i) fits),
        record {
          regions = extend k bs s.regions;
          left = s.left;
          out = rw s.out (sets_behind (first ∷ []) bs _ i ∙ ap (λ l. first ∷ l) (t.bytes _));
          core = rw t.same s.core;
          slots = rw s.slots (t.moved 1);
          sizes = t.same ∙ s.sizes;
          covers = c;
          size = s.size;
          literals = s.literals;
          over = s.over;
        },
      )

  stands-bytes : (inline : Bool) (k : ℕ) (bs : List ℕ) (p : Plan) (d : Draft) → Stands p d → Before (put_value inline k bs d) last → After (λ q. Stands q (put_value inline k bs d)) (emit_bytes true inline k bs p)
  unfolding emit_bytes put_value
  stands-bytes true k bs p d s b = stands-core bs p d s (omega (arith, b.core, length-append d.core bs))
  stands-bytes false k bs p d s b = stands-slot k bs p d s b.blocks

  stands-label : (l : ℤ) (p : Plan) (d : Draft) → Stands p d → Before (put_label l d) last → After (λ q. Stands q (put_label l d)) (emit_label true l p)
  unfolding put_label
  stands-label l p d s b = stands-core (label l) p d s (omega (arith, b.core, length-append d.core (label l)))

  stands-follows : (modes : ℕ) (held : ℕ → Held) → Follows true modes held last Stands
  stands-follows modes held =
      record {
        same = λ p d s. s.literals;
        label = λ l p d s b. stands-label l p d s b;
        value = λ k bs p d s b. stands-bytes (inline_everything modes) k bs p d s b;
        literal = λ ls p d s. record {
          regions = s.regions;
          left = s.left;
          out = s.out;
          core = s.core;
          slots = s.slots;
          sizes = s.sizes;
          covers = s.covers;
          size = s.size;
          literals = refl;
          over = s.over;
        };
      }

-- An output that is laid out holds the first draft, which is empty.

part_cut : (out : List ℕ) (at n : ℕ) → drop at out ≡ take n (drop at out) ++ drop (at + n) out
part_cut out at n = sym (take-append-drop n (drop at out)) ∙ ap (λ r. take n (drop at out) ++ r) (drop-drop n at out)

shows-cut : (out : List ℕ) (at : ℕ) (bs : List ℕ) → Shows at bs out → drop at out ≡ bs ++ drop (at + length bs) out
shows-cut out at bs e = part_cut out at (length bs) ∙ ap (λ r. r ++ drop (at + length bs) out) e

record Opened (at : ℕ) (xs : List (ℕ × ℕ)) (out : List ℕ) : Type 0 where
  regions : List Region
  sizes : shape regions ≡ xs
  slots : places at regions ≡ starts at xs
  covers : Covers [] regions
  bytes : drop at out ≡ zone regions (drop (at + block_space xs) out)

open-one : (x : ℕ × ℕ) (xs : List (ℕ × ℕ)) (at : ℕ) (out : List ℕ) → Shows at (label (pos x.1)) out → at + framed x.1 ≤ length out → Opened (at + framed x.1) xs out → Opened at (x ∷ xs) out
unfolding shape places starts zone block_space
open-one x xs at out e h o =
    let label₁ : List ℕ = label (pos x.1) in
    let left : List ℕ = take x.1 (drop (at + length label₁) out) in
    let r : Region = record { key = x.0; done = []; left = left } in
    let l : x.1 ≤ length (drop (at + length label₁) out) = omega (arith, length-drop (at + length label₁) out) in
    let s : size r ≡ x.1 = omega (arith, length-take-le x.1 (drop (at + length label₁) out) l) in
    record {
      regions = r ∷ o.regions;
      sizes = rw (s, o.sizes);
      slots = rw (s, add-zero, o.slots);
      covers = waiting refl o.covers;
      bytes = rw s (shows-cut out at label₁ e ∙ ap (λ b. label₁ ++ b) (part_cut out (at + length label₁) x.1 ∙ ap (λ b. left ++ b) (ap (λ i. drop i out) (add_assoc at (length label₁) x.1)
          ∙ (o.bytes ∙ ap (λ i. zone o.regions (drop i out)) (add_assoc at (framed x.1) (block_space xs))))));
    }

opened : (xs : List (ℕ × ℕ)) (at : ℕ) (out : List ℕ) → Labelled at xs out → at + block_space xs ≤ length out → Opened at xs out
unfolding shape places starts zone block_space Labelled
opened [] at out t h = record { regions = []; sizes = refl; slots = refl; covers = no_more; bytes = rw add-zero }
opened (x ∷ xs) at out t h = open-one x xs at out t.0 (omega arith) (opened xs (at + framed x.1) out t.1 (omega arith))

module _ (modes : ℕ) (last : Draft) (out : List ℕ) (h : message_length (inline_everything modes) (length last.core) (under length last.blocks) ≤ length out) where
  abbrev core_front : List ℕ
  core_front = core_label (inline_everything modes) (length last.core)

  abbrev space : ℕ
  space = block_space (under length last.blocks)

  abbrev behind_it : List ℕ
  behind_it = drop (message_length (inline_everything modes) (length last.core) (under length last.blocks)) out

  stands-first : LaidOut modes (length last.core) (under length last.blocks) out
      → Stands (header modes) core_front behind_it last (placed modes (length last.core) (under length last.blocks) out) no_draft
  unfolding message_length core_start
  stands-first l =
      let at : ℕ = 1 + space + length core_front in
      let o = opened (under length last.blocks) 1 out l.blocks (omega arith) in
      let left : List ℕ = take (length last.core) (drop at out) in
      let b : length last.core ≤ length (drop at out) = omega (arith, length-drop at out) in
      record {
        regions = o.regions;
        left = left;
        out = shows-cut out 0 (header modes ∷ []) l.first ∙ ap (λ r. header modes ∷ r) (o.bytes ∙ ap (λ r. zone o.regions r) (shows-cut out (1 + space) core_front l.last ∙ ap (λ r. core_front ++ r) (part_cut out at (length last.core))));
        core = omega (arith, ap (λ xs. block_space xs) o.sizes);
        slots = sym o.slots;
        sizes = o.sizes;
        covers = o.covers;
        size = omega (arith, length-take-le (length last.core) (drop at out) b);
        literals = refl;
        over = refl;
      }

-- With every row written, the draft is the last one, and nothing is left.
stands-last : (first : ℕ) (front behind : List ℕ) (d : Draft) (q : Plan) → Stands first front behind d q d → q.out ≡ first ∷ (block_pieces d.blocks ++ (front ++ (d.core ++ behind)))
stands-last first front behind d q s =
    let n : s.left ≡ [] = no-bytes s.left (omega (arith, s.size)) in
    s.out ∙ (ap (λ l. first ∷ zone s.regions (front ++ (d.core ++ (l ++ behind)))) n ∙ ap (λ r. first ∷ r) (zone-done d.blocks s.regions s.covers s.sizes (front ++ (d.core ++ behind))))

module _ (modes : ℕ) (held : ℕ → Held) where
  -- The second pass.
  pub record Written (out : List ℕ) (es : List Event) (q : Plan) : Type 0 where
    pub bytes : q.out ≡ message_of modes held es ++ drop (length (message_of modes held es)) out
    pub literals : q.literals ≡ (draft modes held es).literals
    pub over : q.over ≡ false

  draft-written : (es : List Event) (out : List ℕ) → total (draft modes held es).literals ≤ 4096 → length (message_of modes held es) ≤ length out
      → LaidOut modes (length (draft modes held es).core) (under length (draft modes held es).blocks) out
      → After (λ q. Written out es q) (emit_events true modes held es (placed modes (length (draft modes held es).core) (under length (draft modes held es).blocks) out))
  draft-written es out few h l =
      let d : Draft = draft modes held es in
      let h₁ : message_length (inline_everything modes) (length d.core) (under length d.blocks) ≤ length out = rw message-length h in
      let (q, e, s) = follow-events true modes held d few _ (stands-follows _ _ _ d modes held) es _ no_draft (stands-first modes d out h₁ l) (before_same d) in
      (q, e, record { bytes = stands-last _ _ _ d q s ∙ rw (message-length, message-is, append_assoc, append_assoc); literals = s.literals; over = s.over })

  -- after the first pass: nothing was too much, and the output is laid out by its sizes
  pub writes : (lent : List ℕ) (es : List Event) (p : Plan) → Keys es → Counts modes held lent es p → p.over ≡ false
      → (out : List ℕ) → message_length (inline_everything modes) p.core p.slots ≤ length out → LaidOut modes p.core p.slots out
      → After (λ q. Written out es q) (emit_events true modes held es (placed modes p.core p.slots out))
  writes lent es p k c e out h l =
      let s = c.sizes e in
      let few : total (draft modes held es).literals ≤ 4096 = rw (draft-different modes held es k) (leb-true _ _ (sym c.few ∙ ap not e)) in
      let h₁ : length (message_of modes held es) ≤ length out = rw (s.core, s.slots, message-length) at h in
      rw (s.core, s.slots) (draft-written es out few h₁ (rw (s.core, s.slots) at l))
