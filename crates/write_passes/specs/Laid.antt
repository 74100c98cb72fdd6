-- The layout is the message's: its length, the labels at their places, and how a loop over the slots lays it out.
use Rattle.std.specs.Prelude.{◌≡◌, refl, Bool, true, false, List, [], ◌∷◌, ◌++◌, ℕ, ◌+◌, ◌-◌, ◌≤◌, ◌<◌, pos, length, set, take, drop}
use Rattle.std.proofs.Common.{sym, ◌∙◌, ap, append_assoc, arith, length-append, length-set, length-take-le, drop_at, drop-set-lt}
use Rattle.std.proofs.lemmas.List.Edits.{sets, sets-eq}
use Rattle.std.proofs.Math.Seq.{length-sets, take-append_seam}
use Rattle.std.proofs.lemmas.List.{drop-set-add, take-set-le}
use Rattle.format.specs.Label.{label}
use Rattle.format.specs.Modes.{inline_everything, header}
use Rattle.format.specs.Table.{Held}
use Rattle.format.specs.Write.{Event, Draft, block_pieces, piece_bytes, message_of}
use Rattle.label.specs.Laws.{framed}
use Rattle.theory.specs.Start.{draft}
use Rattle.theory.specs.Lock.{inline-blocks}
use Rattle.write_passes.specs.Layout.{block_space, core_label, starts, core_start, message_length, put_labels, lay_out, Shows, Labelled, LaidOut, placed}
use Rattle.write_passes.specs.Slots.{under, most}
use Rattle.write_passes.specs.Moves.{Within}

-- The message in either mode: in InlineEverything there are no blocks.

pieces_are : (inline : Bool) (d : Draft) → (inline ≡ true → d.blocks ≡ []) → piece_bytes inline d ≡ block_pieces d.blocks ++ (core_label inline (length d.core) ++ d.core)
unfolding piece_bytes block_pieces core_label
pieces_are true d h = ap (λ xs. block_pieces xs ++ d.core) (sym (h refl))
pieces_are false d h = refl

pub message-is : (modes : ℕ) (held : ℕ → Held) (es : List Event)
    → message_of modes held es ≡ header modes ∷ (block_pieces (draft modes held es).blocks ++ (core_label (inline_everything modes) (length (draft modes held es).core) ++ (draft modes held es).core))
unfolding message_of
message-is modes held es = ap (λ bs. header modes ∷ bs) (pieces_are (inline_everything modes) (draft modes held es) (λ i. inline-blocks modes held i es))

blocks-length : (xs : List (ℕ × List ℕ)) → length (block_pieces xs) ≡ block_space (under length xs)
unfolding block_pieces block_space
blocks-length [] = refl
blocks-length (x ∷ xs) =
    omega (
      arith,
      blocks-length xs,
      length-append (label (pos (length x.1)) ++ x.1) (block_pieces xs),
      length-append (label (pos (length x.1))) x.1,
    )

pub message-length : (modes : ℕ) (held : ℕ → Held) (es : List Event)
    → message_length (inline_everything modes) (length (draft modes held es).core) (under length (draft modes held es).blocks) ≡ length (message_of modes held es)
unfolding message_length core_start
message-length modes held es =
    let d : Draft = draft modes held es in
    let front : List ℕ = core_label (inline_everything modes) (length d.core) in
    rw message-is (omega (arith, blocks-length d.blocks, length-append (block_pieces d.blocks) (front ++ d.core), length-append front d.core))

-- Bytes that are put further behind leave a part as it is.

part-set : (out : List ℕ) (at n i x : ℕ) → at + n ≤ i → take n (drop at (set out i x)) ≡ take n (drop at out)
part-set out at n i x h =
    let e : i ≡ at + (i - at) = omega arith in
    let l : n ≤ i - at = omega arith in
    ap (λ j. take n (drop at (set out j x))) e ∙ (ap (λ r. take n r) (drop-set-add at out (i - at) x) ∙ take-set-le n (drop at out) (i - at) x l)

part-sets : (vs out : List ℕ) (at n i : ℕ) → at + n ≤ i → take n (drop at (sets out i vs)) ≡ take n (drop at out)
part-sets [] out at n i h = refl
part-sets (x ∷ vs) out at n i h = part-sets vs (set out i x) at n _ (omega arith) ∙ part-set out at n i x h

part-labels : (xs : List (ℕ × ℕ)) (out : List ℕ) (at n i : ℕ) → at + n ≤ i → take n (drop at (put_labels i xs out)) ≡ take n (drop at out)
unfolding put_labels
part-labels [] out at n i h = refl
part-labels (x ∷ xs) out at n i h = part-labels xs _ at n (i + framed x.1) (omega arith) ∙ part-sets (label (pos x.1)) out at n i h

shows-here : (out : List ℕ) (at : ℕ) (bs : List ℕ) → at + length bs ≤ length out → Shows at bs (sets out at bs)
shows-here out at bs h =
    let l : at ≤ length out = omega arith in
    ap (λ o. take (length bs) (drop at o)) (sets-eq bs out at h ∙ append_assoc (take at out) bs _) ∙ (ap (λ o. take (length bs) o) (drop_at (take at out) _ at (length-take-le at out l)) ∙ take-append_seam bs _)

length-labels : (xs : List (ℕ × ℕ)) (at : ℕ) (out : List ℕ) → length (put_labels at xs out) ≡ length out
unfolding put_labels
length-labels [] at out = refl
length-labels (x ∷ xs) at out = length-labels xs (at + framed x.1) _ ∙ length-sets out at (label (pos x.1))

labelled : (xs : List (ℕ × ℕ)) (at : ℕ) (out : List ℕ) → at + block_space xs ≤ length out → Labelled at xs (put_labels at xs out)
unfolding put_labels Labelled block_space
labelled [] at out h = tt
labelled (x ∷ xs) at out h =
    let l : at + length (label (pos x.1)) ≤ length out = omega arith in
    let l₁ : at + framed x.1 + block_space xs ≤ length (sets out at (label (pos x.1))) = omega (arith, length-sets out at (label (pos x.1))) in
    (part-labels xs _ at (length (label (pos x.1))) (at + framed x.1) (omega arith) ∙ shows-here out at (label (pos x.1)) l, labelled xs (at + framed x.1) _ l₁)

labelled-sets : (xs : List (ℕ × ℕ)) (at : ℕ) (out vs : List ℕ) (i : ℕ) → at + block_space xs ≤ i → Labelled at xs out → Labelled at xs (sets out i vs)
unfolding Labelled block_space
labelled-sets [] at out vs i h t = tt
labelled-sets (x ∷ xs) at out vs i h t = (part-sets vs out at (length (label (pos x.1))) i (omega arith) ∙ t.0, labelled-sets xs (at + framed x.1) out vs i (omega arith) t.1)

pub laid_out : (modes core : ℕ) (slots : List (ℕ × ℕ)) (out : List ℕ) → message_length (inline_everything modes) core slots ≤ length out → LaidOut modes core slots (lay_out modes core slots out)
unfolding message_length core_start lay_out
laid_out modes core slots out h =
    let front : List ℕ = core_label (inline_everything modes) core in
    let out₁ : List ℕ = set out 0 (header modes) in
    let out₂ : List ℕ = put_labels 1 slots out₁ in
    let same : length out₂ ≡ length out = length-labels slots 1 out₁ ∙ length-set out 0 (header modes) in
    let l₁ : 1 + block_space slots ≤ length out₁ = omega (arith, length-set out 0 (header modes)) in
    let l₂ : 1 + block_space slots + length front ≤ length out₂ = omega arith in
    let l₀ : 0 + 1 ≤ length out = omega arith in
    record {
      first = part-sets front out₂ 0 1 (1 + block_space slots) (omega arith) ∙ (part-labels slots out₁ 0 1 1 (omega arith) ∙ shows-here out 0 (header modes ∷ []) l₀);
      blocks = labelled-sets slots 1 out₂ front (1 + block_space slots) (omega arith) (labelled slots 1 out₁ l₁);
      last = shows-here out₂ (1 + block_space slots) front l₂;
    }

-- The layout leaves what comes behind the message, and the length.

drop-sets : (vs out : List ℕ) (i n : ℕ) → i + length vs ≤ n → drop n (sets out i vs) ≡ drop n out
drop-sets [] out i n h = refl
drop-sets (x ∷ vs) out i n h =
    let l : i < n = omega arith in
    drop-sets vs (set out i x) _ n (omega arith) ∙ drop-set-lt n out i x l

drop-labels : (xs : List (ℕ × ℕ)) (out : List ℕ) (at n : ℕ) → at + block_space xs ≤ n → drop n (put_labels at xs out) ≡ drop n out
unfolding put_labels block_space
drop-labels [] out at n h = refl
drop-labels (x ∷ xs) out at n h = drop-labels xs _ (at + framed x.1) n (omega arith) ∙ drop-sets (label (pos x.1)) out at n (omega arith)

pub laid-behind : (modes core : ℕ) (slots : List (ℕ × ℕ)) (out : List ℕ) (n : ℕ) → message_length (inline_everything modes) core slots ≤ n → drop n (lay_out modes core slots out) ≡ drop n out
unfolding message_length core_start lay_out
laid-behind modes core slots out n h =
    let l : 0 < n = omega arith in
    drop-sets (core_label (inline_everything modes) core) _ (1 + block_space slots) n (omega arith) ∙ (drop-labels slots _ 1 n (omega arith) ∙ drop-set-lt n out 0 (header modes) l)

pub laid-length : (modes core : ℕ) (slots : List (ℕ × ℕ)) (out : List ℕ) → length (lay_out modes core slots out) ≡ length out
unfolding lay_out
laid-length modes core slots out = length-sets _ (1 + block_space slots) (core_label (inline_everything modes) core) ∙ (length-labels slots 1 _ ∙ length-set out 0 (header modes))

-- How far the places go at first: what `Within` starts from in the second pass.

starts-most : (xs : List (ℕ × ℕ)) (at : ℕ) → most (starts at xs) ≤ at + block_space xs
unfolding most starts block_space
starts-most [] at = omega arith
starts-most (x ∷ xs) at = omega (arith, starts-most xs (at + framed x.1))

pub within-placed : (modes core : ℕ) (slots : List (ℕ × ℕ)) (out : List ℕ) → Within (message_length (inline_everything modes) core slots) (placed modes core slots out)
unfolding message_length core_start
within-placed modes core slots out = record { core = omega arith; slots = omega (arith, starts-most slots 1) }
