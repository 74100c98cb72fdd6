-- Zeros from word a up to the last count, by a `fill`, and the words below as they were.
use Rattle.std.proofs.Common.{◌≡◌, List, ℕ, ◌+◌, ◌≤◌, length, take, drop, rules}
use Rattle.std.specs.Prelude.{replicate}
use Rattle.std.proofs.lemmas.List.{places}
use borrow.Rule.Slice.PartMut.{put_mid}
use Rattle.store.specs.Words.{Cleared}

pub filled-is : (a k : ℕ) (w z : List ℕ) → a + k ≡ 1216 → 16384 ≤ length w → z ≡ replicate (length (take k (drop a w))) 0 → Cleared a w (put_mid a k w z)
filled-is a k w z e h s = record {
  size = rw s (search (rules, places));
  below = λ i l. rw s (search (rules, places));
  zeros = λ i l u. rw s (search (rules, places));
}
