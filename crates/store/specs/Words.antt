-- What the words of the lent work mean but for the literals themselves, and what is so of them at all times. Words below 1,024 are the caller's.
--
-- 1024 + i                  the key of slot i
-- 1056 + key, 1088 + key    the key's reading place, where it has a slot
-- 1120 + key                0, or 1 + the number of the key's slot
-- 1152                      how many slots there are
-- 1153, 1154                the blocks that no key has been given yet: the reader's alone
-- 1156                      how many literals there are, all keys together
-- 1184 + key                how many literals the key has
-- 1216 + key                where the key's piece begins, which only the reader keeps
--
-- The literals take word 1,155 and those from 2,048 on: `read_literals` has them for the reader, which asks for a number, and `write_literals` for the writer, which asks for a text.
use Rattle.std.specs.Prelude.{◌≡◌, List, ℕ, suc, ◌+◌, ◌<◌, ◌≤◌, min, length, get_or}
use Rattle.format.specs.Row.{Place}
use Rattle.format.specs.Read.{Reading}
use Rattle.store.specs.Lists.{upto, sum_to}
use Rattle.store.specs.Store.{Store}

abbrev pub word : List ℕ → ℕ → ℕ
word w i = get_or w i 0

abbrev pub key_of : List ℕ → ℕ → ℕ
key_of w i = word w (1024 + i)

abbrev pub reading_of : List ℕ → ℕ → Reading
reading_of w k = record { at = word w (1056 + k); end = word w (1088 + k) }

abbrev pub index_of : List ℕ → ℕ → ℕ
index_of w k = word w (1120 + k)

abbrev pub slot_count : List ℕ → ℕ
slot_count w = word w 1152

abbrev pub slot_of : List ℕ → ℕ → ℕ × Reading
slot_of w i = (key_of w i, reading_of w (key_of w i))

unfoldable pub slots_of : List ℕ → List (ℕ × Reading)
slots_of w = upto (λ i. slot_of w i) (slot_count w)

abbrev pub rest_of : List ℕ → Reading
rest_of w = record { at = word w 1153; end = word w 1154 }

abbrev pub all_of : List ℕ → ℕ
all_of w = word w 1156

abbrev pub count_of : List ℕ → ℕ → ℕ
count_of w k = word w (1184 + k)

abbrev pub start_of : List ℕ → ℕ → ℕ
start_of w k = word w (1216 + k)

-- The table from keys to slots and the list of slots name each other. A slot takes one of the 32 keys, so the sum says that there is room.
pub record GoodSlots (w : List ℕ) : Type 0 where
  pub whole : 16384 ≤ length w
  pub named : (i : ℕ) → i < slot_count w → key_of w i < 32
  pub indexed : (i : ℕ) → i < slot_count w → index_of w (key_of w i) ≡ suc i
  pub listed : (k i : ℕ) → k < 32 → index_of w k ≡ suc i → (i < slot_count w) × (key_of w i ≡ k)
  pub room : slot_count w ≡ sum_to (λ k. min 1 (index_of w k)) 32

-- the store with the slots of w and these literals
abbrev pub held : List ℕ → List (List Place) → Store
held w literals = record { slots = slots_of w; rest = rest_of w; literals = literals }

-- What a call on the slots leaves: good slots, the store changed by f, whatever its literals are, and all other words as they were.
pub record Moved (w w' : List ℕ) (f : Store → Store) : Type 0 where
  pub good : GoodSlots w'
  pub store : (literals : List (List Place)) → held w' literals ≡ f (held w literals)
  pub size : length w' ≡ length w
  pub outside : (i : ℕ) → i < 1024 → word w' i ≡ word w i
  pub behind : (i : ℕ) → 1155 ≤ i → word w' i ≡ word w i

-- What setting where a key's piece begins leaves: that word, and all others as they were.
pub record Begun (w w' : List ℕ) (key start : ℕ) : Type 0 where
  pub is : start_of w' key ≡ start
  pub size : length w' ≡ length w
  pub others : (i : ℕ) → (i ≡ 1216 + key → ⊥) → word w' i ≡ word w i

-- Zeros from word `from` up to the last count, and the words below as they were.
pub record Cleared (from : ℕ) (w w' : List ℕ) : Type 0 where
  pub size : length w' ≡ length w
  pub below : (i : ℕ) → i < from → word w' i ≡ word w i
  pub zeros : (i : ℕ) → from ≤ i → i < 1216 → word w' i ≡ 0
