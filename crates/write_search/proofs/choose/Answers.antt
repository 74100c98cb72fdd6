-- `write_search::choose` meets its contract.
use mathlib.Core.Path.{◌≡◌, refl, sym, ◌∙◌}
use mathlib.Core.Bool.{true}
use mathlib.Core.List.{List}
use Prim.Native.Nat.{ℕ, ◌+◌, ◌/◌, ◌%◌, ◌<◌, ◌≤◌}
use native.Mathlib.Omega.{arith}
use lib.ListN.{length, get_or, length-map}
use Rattle.format.specs.Row.{Place, bytes_at}
use Rattle.format.specs.Write.{first_equal}
use Rattle.laws.specs.Facts.{by-lt}
use Rattle.std.specs.Prelude as code
use Rattle.write_literals.specs.Store.{Literal}
use Rattle.write_literals.specs.Words.{store_of}
use Rattle.write_literals.specs.declared.Met.{Met}
use Rattle.write_search.specs.Front.{known_is, known-none, known as known_of}
use Rattle.write_search.specs.Search.{number, second_word, AreLiterals, text_of, texts_of}
use Rattle.write_search.specs.declared.Found.TheVariants.{Number}
use Rattle.write_search.proofs.Laws.{from_end, words_same, Reached, reached-none, Asked, stands_at, met_on, Turn, asked, same_size, known_same, turn-hit, turn-met, keeps}
use Rattle.write_search.proofs.choose.Invariants.{literals}
use Rattle.write_search.proofs.choose.Goals as goal

-- what is known of the arguments
module _ (pool work : List ℕ) (key start size : ℕ) (are : AreLiterals pool (store_of work).literals) (inside : start + size ≤ length pool) (whole : length pool ≤ 65536) where
  abbrev xs : List Literal
  xs = literals work key

  abbrev p : Place
  p = record { start = start; size = size }

  -- and of a literal that was met
  module _ {near pairs : ℕ} {met : code.Option Met} {m : Met} (near_small : near < 4096) (unmet : pairs < 98304) (there : Asked xs (second_word size near pairs) (pairs / 8) met)
      (reached : Reached pool p xs (stands_at xs met) near pairs) (is : met ≡ code.Some m) where
    abbrev x : Literal
    x = record { first = m.first; second = second_word size near pairs }

    found : Asked xs (second_word size near pairs) (pairs / 8) (code.Some m)
    found = rw is at there

    now-turn : Turn pool p xs m.number near pairs x
    now-turn = record { inside = inside; reached = rw is at reached; there = found.1; stands = are.inside key m.number x found.1; unmet = unmet }

    yes : asked now-turn ≡ true
    yes = words_same p x _ _ (omega arith) near_small refl found.2

    -- it lies within the pool
    lies : m.first % 131072 + size ≤ length pool
    lies = let a = now-turn.stands.inside in let b = same_size now-turn yes in omega (arith, a, b)

    -- what was known, and what was compared
    equal_to : (known k : ℕ) → known ≡ known_of pairs → ((i : ℕ) → known ≤ i → i < k → get_or pool (m.first % 131072 + i) 0 ≡ get_or pool (start + i) 0)
        → (i : ℕ) → i < k → get_or pool (m.first % 131072 + i) 0 ≡ get_or pool (start + i) 0
    equal_to known k e q i h = by-lt i known (λ l. known_same now-turn yes i (rw e at l)) (λ l. q i l h)

    hit : (k : ℕ) → ((i : ℕ) → i < k → get_or pool (m.first % 131072 + i) 0 ≡ get_or pool (start + i) 0) → k ≡ size → number (Number m.number) ≡ first_equal (bytes_at pool p) (texts_of pool xs)
    hit k e q = sym (turn-hit now-turn yes k e q)

    -- it is not equal
    missed : (k : ℕ) → ((i : ℕ) → i < k → get_or pool (m.first % 131072 + i) 0 ≡ get_or pool (start + i) 0) → k < size → (get_or pool (m.first % 131072 + k) 0 ≡ get_or pool (start + k) 0 → ⊥) → Reached pool p xs (m.number + 1) m.number (k / 2)
    missed k e short differ = turn-met now-turn yes k e short differ

pub loop-met-init : goal.loop-met-init
loop-met-init c =
    let n : 65536 + c.hash-h.result / 4096 < 98304 = omega (arith, c.hash-h.ensures.1) in
    let o = met_on c.requires.3 (c.requires.1.inside c.args.key) n c.second_word.ensures.0 c.meet-met.result c.meet-met.ensures.meets c.meet-met.ensures.number_bound (reached-none _ _ _ c.hash-h.ensures.0) in
    (omega arith, n, sym (known-none _ (omega arith)), omega arith, o.0, o.1)

pub alike-equal-requires : goal.alike-equal-requires
alike-equal-requires c =
    let v = c.loop-met.invariant in
    (lies c.args.pool.now c.args.work.now c.args.key c.args.start c.args.size c.requires.1 c.requires.3 c.requires.4 v.0 v.1 v.4 v.5 c.in-Some.is, c.requires.3, c.requires.4, v.3)

pub returns-then-equal-size : goal.returns-then-equal-size
returns-then-equal-size c =
    let v = c.loop-met.invariant in
    record {
      result_value = hit c.args.pool.now c.args.work.now c.args.key c.args.start c.args.size c.requires.1 c.requires.3 c.requires.4 v.0 v.1 v.4 v.5 c.in-Some.is c.alike-equal.result
          (equal_to c.args.pool.now c.args.work.now c.args.key c.args.start c.args.size c.requires.1 c.requires.3 c.requires.4 v.0 v.1 v.4 v.5 c.in-Some.is c.loop-met.known c.alike-equal.result v.2 c.alike-equal.ensures.equal) c.if-equal-size.true;
      in_words = (found c.args.pool.now c.args.work.now c.args.key c.args.start c.args.size c.requires.1 c.requires.3 c.requires.4 v.0 v.1 v.4 v.5 c.in-Some.is).3;
      keep_as = tt;
    }

pub loop-met-preserved : goal.loop-met-preserved
loop-met-preserved c =
    let v = c.loop-met.invariant in
    let a = found c.args.pool.now c.args.work.now c.args.key c.args.start c.args.size c.requires.1 c.requires.3 c.requires.4 v.0 v.1 v.4 v.5 c.in-Some.is in
    let short : c.alike-equal.result < c.args.size = omega (arith, c.alike-equal.ensures.bounds, c.if-equal-size.false) in
    let m = missed c.args.pool.now c.args.work.now c.args.key c.args.start c.args.size c.requires.1 c.requires.3 c.requires.4 v.0 v.1 v.4 v.5 c.in-Some.is c.alike-equal.result
    (equal_to c.args.pool.now c.args.work.now c.args.key c.args.start c.args.size c.requires.1 c.requires.3 c.requires.4 v.0 v.1 v.4 v.5 c.in-Some.is c.loop-met.known c.alike-equal.result v.2 c.alike-equal.ensures.equal) short (c.alike-equal.ensures.differ short) in
    let n : c.alike-equal.result / 2 < 98304 = omega arith in
    let o = met_on c.requires.3 (c.requires.1.inside c.args.key) n c.second_word-in-Some.ensures.0 c.meet-met-in-Some.result c.meet-met-in-Some.ensures.meets c.meet-met-in-Some.ensures.number_bound m in
    (a.3, n, sym (known_is _ (omega arith)), omega arith, o.0, o.1)

pub returns : goal.returns
returns c =
    let pool : List ℕ = c.args.pool.now in
    let xs : List Literal = literals c.args.work.now c.args.key in
    let v = c.loop-met.invariant in
    let r = rw c.in_default.is at v.5 in
    let f = rw (← length-map xs (text_of pool)) at r.learnt in
    record {
      result_value = sym (r.equal ∙ from_end pool _ xs (length xs) (omega arith));
      in_words = (omega arith, c.second_word-2.ensures.1);
      keep_as = keeps pool _ _ (omega arith) (omega arith) v.0 c.second_word-2.ensures.0 f;
    }
