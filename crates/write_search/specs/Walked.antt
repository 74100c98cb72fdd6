-- How many links a search follows: at most two for each literal there is, whatever the texts are. After each text that differs, the search goes on in the bucket of another front, and the fronts behind different texts have different buckets. Only that of the hash, where the search starts, may be one of them too.
use Rattle.std.specs.Prelude.{◌≡◌, Bool, true, false, cond, length}
use Rattle.std.proofs.Math.Path.{refl}
use mathlib.Core.List.{List, []}
use Prim.Native.Nat.{ℕ, zero, suc, ◌+◌, ◌*◌, ◌/◌, ◌%◌, ◌<◌, ◌≤◌}
use Rattle.std.proofs.Common.{arith}
use Rattle.std.proofs.Math.ListN.{get_or}
use Rattle.format.specs.Row.{Text}
use Rattle.store.specs.Lists.{sum_to, sum-snoc, sum-ge}
use Rattle.store.specs.Words.{all_of}
use Rattle.write_literals.specs.Words.{bucket, GoodLiterals}
use Rattle.write_literals.specs.Steps.{chain, members, members-shared, chain-short}
use Rattle.write_search.specs.Hash.{hash}
use Rattle.write_search.specs.Front.{Front, common, alike, front, front-met}
use Rattle.write_search.specs.Compared.{NoneBefore, still_open}
use Rattle.write_search.specs.Search.{second_word}

-- the bucket of the key's texts that have this size and this front
abbrev pub bucket_at : ℕ → ℕ → Front → ℕ
bucket_at key size f = bucket key (second_word size f.near f.pairs)

-- All links in the search for a text among the first j texts of a key, each chain to its end; only behind a text that may be equal is there another chain.
unfoldable pub walked : Text → List Text → List ℕ → ℕ → ℕ → ℕ
walked v ts w key zero = chain w (bucket_at key (length v) (front v ts 0))
walked v ts w key (suc j) = walked v ts w key j + cond (alike (length v) (front v ts j) (length (get_or ts j [])) (front (get_or ts j []) ts j)) (chain w (bucket_at key (length v) (front v ts (suc j)))) 0

-- The bucket depends on the text that was compared last, and not on how many bytes were equal: in it, `pairs` stands for a multiple of 4,096.
bucket-near : (key size : ℕ) (f : Front) → size < 131072 → bucket_at key size f ≡ (f.near + (977 * size + 131 * key)) % 4096
unfolding bucket
bucket-near key size f h =
    let m : ℕ = f.near + 4096 * (f.pairs % 8) in
    let a : (size + 131072 * m) / 131072 ≡ m = omega arith in
    let b : (size + 131072 * m) % 131072 ≡ size = omega arith in
    rw (a, b) (omega arith)

module _ (v : Text) (ts : List Text) (short : length v < 131072) (w : List ℕ) (good : GoodLiterals w) (key : ℕ) where
  -- what the buckets of all fronts of this text have in common
  abbrev constant : ℕ
  constant = 977 * length v + 131 * key

  -- the literals of the bucket of a front behind text i
  abbrev behind : ℕ → ℕ
  behind i = members w ((i + constant) % 4096) (all_of w)

  chain-few : (f : Front) → chain w (bucket_at key (length v) f) ≤ behind f.near
  chain-few f = rw (bucket-near key (length v) f short) (chain-short w good.linked _ (omega arith) (all_of w))

  few : (j : ℕ) → NoneBefore v ts short j → walked v ts w key j ≤ all_of w + sum_to behind j
  unfolding walked front
  few zero n = omega (arith, chain-few (front v ts 0), sum-ge behind 4096 (hash v % 4096) (omega arith), members-shared w constant 4096 (all_of w) (omega arith))
  few (suc j) n = go (alike (length v) (front v ts j) (length u) (front u ts j)) refl (few j before)
    where
      u : Text
      u = get_or ts j []

      before : NoneBefore v ts short j
      before i l = n i (omega arith)

      go : (t : Bool) → alike (length v) (front v ts j) (length u) (front u ts j) ≡ t → walked v ts w key j ≤ all_of w + sum_to behind j
          → walked v ts w key j + cond t (chain w (bucket_at key (length v) (front v ts (suc j)))) 0 ≤ all_of w + sum_to behind (suc j)
      go true e h = rw (front-met ts v u j refl (n j (omega arith)) (still_open v ts short j before) e) (omega (arith, chain-few (record { near = j; pairs = common v u / 2 }), sum-snoc behind j))
      go false e h = omega (arith, sum-snoc behind j)

  -- up to the first that is equal
  pub walked-few : (j : ℕ) → j ≤ 4096 → NoneBefore v ts short j → walked v ts w key j ≤ 2 * all_of w
  walked-few j h n = omega (arith, few j n, members-shared w constant j (all_of w) h)
