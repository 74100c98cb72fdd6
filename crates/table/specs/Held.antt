-- What a key holds, as the code says it.
use Rattle.std.specs.Prelude.{◌≡◌, ℕ, ◌+◌}
use Rattle.std.proofs.Common.{sym, ap}
use Rattle.format.specs.Table.{TableNode, deduplicate, Leaf, string, varint, float64, bytes, fixed, Held, leaf_of}
use Rattle.laws.specs.Tree.{HasBlock}
use Rattle.table.specs.declared.nodes.Leaf as code

unfoldable pub leaf_in : Leaf → code.Leaf
leaf_in string = code.TheVariants.String
leaf_in varint = code.TheVariants.Varint
leaf_in float64 = code.TheVariants.Float64
leaf_in bytes = code.TheVariants.Bytes
leaf_in (fixed n) = code.TheVariants.Fixed n

-- The child of a BLOCK and the BLOCK's own flag say what its key holds.
module _ {n : ℕ} {at : ℕ → TableNode} {end : ℕ → ℕ} {held : ℕ → Held} {i key : ℕ} (h : HasBlock n at end held i key) where
  pub leaf-held : leaf_in (leaf_of (at (i + 1))) ≡ leaf_in (held key).leaf
  leaf-held = ap (λ (x : Held). leaf_in x.leaf) (sym h.holds)

  pub dedup-held : deduplicate (at i) ≡ (held key).dedup
  dedup-held = ap (λ (x : Held). x.dedup) (sym h.holds)
