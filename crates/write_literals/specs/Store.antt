-- What the writer keeps, without its words: where each key that it has touched goes on, and the literals that it has numbered.
use Rattle.std.specs.Prelude.{◌≡◌, Bool, true, false, List, [], ◌∷◌, ◌++◌, ℕ}
use Rattle.format.specs.Read.{Reading, add_at, no_literals}
use Rattle.store.specs.Store.{move_to}

-- A literal as it is kept, by two words. Which literals are met together depends on these words alone; `write_search` says what stands in them.
pub record Literal : Type 0 where
  pub first : ℕ
  pub second : ℕ

-- Of a key's slot, `at` is where the next byte of the key goes: counted from the start of its block while bytes are counted, and from the start of the output while they are put. Its `end` is not used.
pub record Store : Type 0 where
  pub slots : List (ℕ × Reading)  -- the keys touched so far, in the order of first touch
  pub literals : List (List Literal)  -- the numbered literals of each key
  pub over : Bool  -- whether there was a literal too many to be kept

abbrev pub empty : Store
empty = record { slots = []; literals = no_literals; over = false }

-- one step each: a slot more, a slot moved on, a literal more, a literal too many
abbrev pub opened : ℕ → Reading → Store → Store
opened k p s = record { slots = s.slots ++ (k, p) ∷ []; literals = s.literals; over = s.over }

abbrev pub advanced : ℕ → ℕ → Store → Store
advanced k n s = record { slots = move_to k n s.slots; literals = s.literals; over = s.over }

abbrev pub added : ℕ → Literal → Store → Store
added k x s = record { slots = s.slots; literals = add_at k x s.literals; over = s.over }

abbrev pub overfull : Store → Store
overfull s = record { slots = s.slots; literals = s.literals; over = true }

-- and no literals any more
abbrev pub unnumbered : Store → Store
unnumbered s = record { slots = s.slots; literals = no_literals; over = false }

pub literal-eq : {a b c d : ℕ} → a ≡ c → b ≡ d → ◌≡◌ {A = Literal} (record { first = a; second = b }) (record { first = c; second = d })
literal-eq e f = rw (e, f)

pub store-eq : {a a' : List (ℕ × Reading)} {b b' : List (List Literal)} {c c' : Bool} → a ≡ a' → b ≡ b' → c ≡ c'
    → ◌≡◌ {A = Store} (record { slots = a; literals = b; over = c }) (record { slots = a'; literals = b'; over = c' })
store-eq e f g = rw (e, f, g)
