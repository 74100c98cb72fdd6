-- What the words of the lent work mean where the literals of each key stand on pages. Words below 1,024 are the caller's; the slots and the counts stand as in `store`.
--
-- 1155                      how many pages are taken
-- 2048 + 64 * key + i       the page of the key's literals 64 * i to 64 * i + 63
-- 4096 + 128 * page + i     the start of literal i of the page
-- 4160 + 128 * page + i     its size
--
-- 96 pages are enough: only the last page of a key can have room left, so 64 * pages is at most 4,096 + 63 * 32.
use Rattle.std.specs.Prelude.{◌≡◌, cond, List, ℕ, ◌+◌, ◌*◌, ◌/◌, ◌%◌, ◌<◌, ◌≤◌, eqb, length}
use Rattle.format.specs.Row.{Place}
use Rattle.store.specs.Lists.{upto, sum_to}
use Rattle.store.specs.Store.{Store}
use Rattle.store.specs.Words.{word, all_of, count_of, held}
use Rattle.store.specs.Keeping as keeping

abbrev pub taken : List ℕ → ℕ
taken w = word w 1155

abbrev pub pages : ℕ → ℕ
pages n = (n + 63) / 64

abbrev pub page_of : List ℕ → ℕ → ℕ → ℕ
page_of w k i = word w (2048 + 64 * k + i)

abbrev pub cell_at : ℕ → ℕ → ℕ
cell_at p j = 4096 + 128 * p + j % 64

abbrev pub place_at : List ℕ → ℕ → Place
place_at w i = record { start = word w i; size = word w (i + 64) }

abbrev pub cell_of : List ℕ → ℕ → ℕ → ℕ
cell_of w k j = cell_at (page_of w k (j / 64)) j

abbrev pub literal_of : List ℕ → ℕ → ℕ → Place
literal_of w k j = place_at w (cell_of w k j)

unfoldable pub literals_of : List ℕ → ℕ → List Place
literals_of w k = upto (λ j. literal_of w k j) (count_of w k)

unfoldable pub store_of : List ℕ → Store
store_of w = held w (upto (λ k. literals_of w k) 32)

-- No page is used twice, and none that is not taken.
pub record GoodLiterals (w : List ℕ) : Type 0 where
  pub total : all_of w ≡ sum_to (λ k. count_of w k) 32
  pub most : all_of w ≤ 4096
  pub room : taken w ≡ sum_to (λ k. pages (count_of w k)) 32
  pub inside : (k i : ℕ) → k < 32 → i < pages (count_of w k) → page_of w k i < taken w
  pub apart : (k i k' i' : ℕ) → k < 32 → k' < 32 → i < pages (count_of w k) → i' < pages (count_of w k') → page_of w k i ≡ page_of w k' i' → (k ≡ k') × (i ≡ i')

abbrev pub Good : List ℕ → Type 0
Good w = keeping.Good GoodLiterals w

abbrev pub Changes : List ℕ → List ℕ → (Store → Store) → Type 0
Changes w w' f = keeping.Changes GoodLiterals store_of w w' f

-- The page of a key's next literal: a new one where that literal begins a page.
unfoldable pub next_page : List ℕ → ℕ → ℕ
next_page w k = cond (eqb (count_of w k % 64) 0) (taken w) (page_of w k (count_of w k / 64))

-- The words between the last count and the pages, where the reader keeps where each key's piece begins, stay as they were.
pub record Between (w w' : List ℕ) : Type 0 where
  pub at : (i : ℕ) → 1216 ≤ i → i < 2048 → word w' i ≡ word w i

-- The words after a literal n of a key was written on page p, with q pages taken then.
pub record Written (w w' : List ℕ) (key n p q : ℕ) (x : Place) : Type 0 where
  pub size : length w' ≡ length w
  pub below : (i : ℕ) → i < 1155 → word w' i ≡ word w i
  pub between : (i : ℕ) → 1216 ≤ i → i < 2048 → word w' i ≡ word w i
  pub next : taken w' ≡ q
  pub all : all_of w' ≡ all_of w + 1
  pub counted : count_of w' key ≡ n + 1
  pub counts : (k : ℕ) → k < 32 → (k ≡ key → ⊥) → count_of w' k ≡ count_of w k
  pub page : page_of w' key (n / 64) ≡ p
  pub pages : (k i : ℕ) → k < 32 → i < 64 → (k ≡ key → i ≡ n / 64 → ⊥) → page_of w' k i ≡ page_of w k i
  pub here : place_at w' (cell_at p n) ≡ x
  pub cells : (p' j : ℕ) → p' < 96 → (p' ≡ p → j % 64 ≡ n % 64 → ⊥) → place_at w' (cell_at p' j) ≡ place_at w (cell_at p' j)
