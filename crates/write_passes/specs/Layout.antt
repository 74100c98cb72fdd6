-- Where things stand in a message, from the sizes that the first pass has counted: the header, each block behind its label, and the core, behind its label too unless InlineEverything is set.
use Rattle.std.specs.Prelude.{◌≡◌, Bool, true, false, List, [], ◌∷◌, ℕ, ◌+◌, pos, length, set, take, drop}
use Rattle.std.proofs.lemmas.List.Edits.{sets}
use Rattle.format.specs.Label.{label, label_size}
use Rattle.format.specs.Modes.{inline_everything, header}
use Rattle.format.specs.Read.{no_literals}
use Rattle.label.specs.Laws.{framed}
use Rattle.write_passes.specs.Plan.{Plan}

-- how many bytes the blocks take with their labels
unfoldable pub block_space : List (ℕ × ℕ) → ℕ
block_space [] = 0
block_space (x ∷ xs) = framed x.1 + block_space xs

-- «In InlineEverything the rest of the message is the core»
unfoldable pub core_label : Bool → ℕ → List ℕ
core_label true n = []
core_label false n = label (pos n)

-- where each key's block starts, if the first label stands at `at`
unfoldable pub starts : ℕ → List (ℕ × ℕ) → List (ℕ × ℕ)
starts at [] = []
starts at (x ∷ xs) = (x.0, at + label_size (pos x.1)) ∷ starts (at + framed x.1) xs

unfoldable pub core_start : Bool → ℕ → List (ℕ × ℕ) → ℕ
core_start inline core slots = 1 + block_space slots + length (core_label inline core)

unfoldable pub message_length : Bool → ℕ → List (ℕ × ℕ) → ℕ
message_length inline core slots = core_start inline core slots + core

-- The labels put in front of each block, and the header and the core's label.
unfoldable pub put_labels : ℕ → List (ℕ × ℕ) → List ℕ → List ℕ
put_labels at [] out = out
put_labels at (x ∷ xs) out = put_labels (at + framed x.1) xs (sets out at (label (pos x.1)))

unfoldable pub lay_out : ℕ → ℕ → List (ℕ × ℕ) → List ℕ → List ℕ
lay_out modes core slots out = sets (put_labels 1 slots (set out 0 (header modes))) (1 + block_space slots) (core_label (inline_everything modes) core)

-- An output in which they stand; the other bytes may be anything.
abbrev pub Shows : ℕ → List ℕ → List ℕ → Type 0
Shows at bs out = take (length bs) (drop at out) ≡ bs

unfoldable pub Labelled : ℕ → List (ℕ × ℕ) → List ℕ → Type 0
Labelled at [] out = Unit {0}
Labelled at (x ∷ xs) out = Shows at (label (pos x.1)) out × Labelled (at + framed x.1) xs out

pub record LaidOut (modes core : ℕ) (slots : List (ℕ × ℕ)) (out : List ℕ) : Type 0 where
  pub first : Shows 0 (header modes ∷ []) out
  pub blocks : Labelled 1 slots out
  pub last : Shows (1 + block_space slots) (core_label (inline_everything modes) core) out

-- before the second pass: everything at its place, no literal yet
abbrev pub placed : ℕ → ℕ → List (ℕ × ℕ) → List ℕ → Plan
placed modes core slots out = record { out = out; core = core_start (inline_everything modes) core slots; slots = starts 1 slots; literals = no_literals; over = false }
