-- What the words of the lent work mean where the literals of all keys stand in one list, and are found by chains. Words below 1,024 are the caller's; the slots stand as in `store`.
--
-- 1024 to 1152              the slots (`store`)
-- 1155                      0; or 1, if there was a literal too many
-- 1156, 1184 + key          how many literals there are, and of each key (`store`)
-- 2048 + b / 2              13 bits, the lowest for an even b and those from bit 16 on for an odd one: the head of bucket b, 1 + its first literal
-- 4096 + 3 * g              the first word that literal g is kept by
-- 4096 + 3 * g + 1          the second
-- 4096 + 3 * g + 2          its link: 0, or 1 + the next literal of its bucket; and above these 13 bits its number among those of its key (12 bits), and the key
--
-- A bucket with no literal has any number for its head: a head counts only where it leads to a literal of its own bucket, and nothing needs to be cleared.
use Rattle.std.specs.Prelude.{◌≡◌, cond, ◌&&◌, List, [], ◌∷◌, ◌++◌, ℕ, zero, suc, ◌+◌, ◌-◌, ◌*◌, ◌/◌, ◌%◌, ◌<◌, ◌≤◌, ◌^◌, eqb, ltb, length}
use Rattle.std.proofs.Math.Option.{some}
use Rattle.format.specs.Read.{nth}
use Rattle.store.specs.Lists.{upto, sum_to}
use Rattle.store.specs.Words.{word, all_of, count_of, slots_of}
use Rattle.store.specs.Keeping as keeping
use Rattle.write_literals.specs.Store.{Literal, Store}

abbrev pub literal_at : List ℕ → ℕ → Literal
literal_at w g = record { first = word w (4096 + 3 * g); second = word w (4096 + 3 * g + 1) }

-- the number of a literal, and its key
abbrev pub owner_of : List ℕ → ℕ → ℕ
owner_of w g = word w (4096 + 3 * g + 2) / 8192

abbrev pub key_at : List ℕ → ℕ → ℕ
key_at w g = owner_of w g / 4096

abbrev pub number_at : List ℕ → ℕ → ℕ
number_at w g = owner_of w g % 4096

-- The bucket of a literal with this second word: any number below 4,096 would do.
unfoldable pub bucket : ℕ → ℕ → ℕ
bucket key second = (second / 131072 + 977 * (second % 131072) + 131 * key) % 4096

abbrev pub bucket_of : List ℕ → ℕ → ℕ
bucket_of w g = bucket (key_at w g) (word w (4096 + 3 * g + 1))

-- the key's literals among the first t
unfoldable pub key_literals : List ℕ → ℕ → ℕ → List Literal
key_literals w k zero = []
key_literals w k (suc t) = key_literals w k t ++ cond (eqb (key_at w t) k) (literal_at w t ∷ []) []

unfoldable pub store_of : List ℕ → Store
store_of w = record { slots = slots_of w; literals = upto (λ k. key_literals w k (all_of w)) 32; over = ltb 0 (word w 1155) }

-- Where a chain goes on: at its head, or at literal i - 1 of it.
unfoldable pub link_at : ℕ → ℕ → ℕ
link_at b zero = 2048 + b / 2
link_at b (suc g) = 4096 + 3 * g + 2

-- The 13 bits of a word that lead on: the lowest for side 0, those from bit 16 on for side 1.
abbrev pub lane : ℕ → ℕ → ℕ
lane side x = x / 2 ^ (side * 16) % 8192

-- the word with v there
unfoldable pub relinked : ℕ → ℕ → ℕ → ℕ
relinked side x v = x - lane side x * (1 + 65535 * side) + v * (1 + 65535 * side)

-- the side of the link from i on
unfoldable pub side_of : ℕ → ℕ → ℕ
side_of b zero = b % 2
side_of b (suc g) = 0

-- what leads to a literal of bucket b, or 0 for what does not
unfoldable pub head_of : List ℕ → ℕ → ℕ → ℕ
head_of w b zero = 0
head_of w b (suc g) = cond (ltb g (all_of w) && eqb (bucket_of w g) b) (suc g) 0

-- what stands there: 0, or 1 + the next literal
unfoldable pub link_of : List ℕ → ℕ → ℕ → ℕ
link_of w b zero = head_of w b (lane (b % 2) (word w (2048 + b / 2)))
link_of w b (suc g) = lane 0 (word w (4096 + 3 * g + 2))

-- i is 0, or literal i - 1 is of bucket b
abbrev pub On : List ℕ → ℕ → ℕ → Type 0
On w b i = (g : ℕ) → i ≡ suc g → bucket_of w g ≡ b

-- r is 1 + the first literal of bucket b from i on, of t; or 0, where there is none.
pub record First (w : List ℕ) (b i t r : ℕ) : Type 0 where
  pub most : r ≤ t
  pub least : 0 < r → i < r
  pub here : On w b r
  pub before : (g : ℕ) → i ≤ g → suc g < r → bucket_of w g ≡ b → ⊥
  pub none : r ≡ 0 → (g : ℕ) → i ≤ g → g < t → bucket_of w g ≡ b → ⊥

-- every literal stands in the chain of its bucket, in order
abbrev pub Linked : List ℕ → ℕ → Type 0
Linked w t = (b i : ℕ) → b < 4096 → i ≤ t → On w b i → First w b i t (link_of w b i)

pub record GoodLiterals (w : List ℕ) : Type 0 where
  pub total : all_of w ≡ sum_to (λ k. count_of w k) 32
  pub most : all_of w ≤ 4096
  pub counted : (k : ℕ) → k < 32 → count_of w k ≡ length (key_literals w k (all_of w))
  pub numbered : (g : ℕ) → g < all_of w → number_at w g ≡ length (key_literals w (key_at w g) g)
  pub linked : Linked w (all_of w)

abbrev pub Good : List ℕ → Type 0
Good w = keeping.Good GoodLiterals w

-- What a call leaves: a good store, changed by f, and the caller's own words as they were.
pub record Changes (w w' : List ℕ) (f : Store → Store) : Type 0 where
  pub good : Good w'
  pub store : store_of w' ≡ f (store_of w)
  pub size : length w' ≡ length w
  pub outside : (i : ℕ) → i < 1024 → word w' i ≡ word w i

-- From j up to r no literal has this second word and this upper part of its first, and r has both, if there is one.
pub record Meets (literals : List Literal) (j high second r first : ℕ) : Type 0 where
  pub least : j ≤ r
  pub most : r ≤ length literals
  pub passed : (i : ℕ) (x : Literal) → j ≤ i → i < r → nth literals i ≡ some x → x.second ≡ second → x.first / 131072 ≡ high → ⊥
  pub small : (i : ℕ) (x : Literal) → nth literals i ≡ some x → x.second < 2 ^ 32
  pub here : r < length literals → (nth literals r ≡ some (record { first = first; second = second })) × (first / 131072 ≡ high)

-- what `meet` looks for
pub record Sought (w : List ℕ) (key j high second g : ℕ) : Type 0 where
  pub owned : key_at w g ≡ key
  pub from : j ≤ number_at w g
  pub whole : word w (4096 + 3 * g + 1) ≡ second
  pub upper : word w (4096 + 3 * g) / 131072 ≡ high

-- The word where the chain of bucket b ends.
pub record Tail (w : List ℕ) (b at : ℕ) : Type 0 where
  pub i : ℕ
  pub is : at ≡ link_at b i
  pub inside : i ≤ all_of w
  pub on : On w b i
  pub end : link_of w b i ≡ 0

-- The words after literal g, the n-th of its key, was written, and `link` at `at`.
pub record Written (w w' : List ℕ) (key g n at link : ℕ) (x : Literal) : Type 0 where
  pub size : length w' ≡ length w
  pub below : (i : ℕ) → i < 1156 → word w' i ≡ word w i
  pub all : all_of w' ≡ g + 1
  pub counted : count_of w' key ≡ n + 1
  pub counts : (k : ℕ) → k < 32 → (k ≡ key → ⊥) → count_of w' k ≡ count_of w k
  pub links : (i : ℕ) → 2048 ≤ i → i < 4096 + 3 * g → (i ≡ at → ⊥) → word w' i ≡ word w i
  pub leads : word w' at ≡ link
  pub here : literal_at w' g ≡ x
  pub owner : word w' (4096 + 3 * g + 2) ≡ 8192 * (n + 4096 * key)
