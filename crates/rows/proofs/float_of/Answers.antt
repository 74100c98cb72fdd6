-- `rows::float_of` meets its contract: a pattern above infinity's, sign aside, is a NaN, and any other is a float's own.
use Prim.Native.Nat.{ℕ, ◌%◌, ◌<◌}
use mathlib.Core.Path.{◌≡◌, refl, sym, subst⁻¹, ◌∙◌}
use mathlib.Core.Bool.{Bool, true, not, false≢true}
use lib.Dec.{T}
use lib.Ieee.{Float, nan, inf, fin, binary64, div, of_bits, is_nan}
use lib.Ieee.Bits.{nan_bits_above, nan_bits_is}
use borrow.Author.Tests.{lt-ltb, le-ltb}
use Rattle.format.specs.Row.{float_of}
use Rattle.rows.proofs.float_of.Goals as goal

is-nan : (x : Float) → is_nan x ≡ true → x ≡ nan
unfolding is_nan
is-nan nan h = refl
is-nan (inf s) h = absurd (false≢true h)
is-nan (fin s m e) h = absurd (false≢true h)

nan-of : (bits : ℕ) → 9218868437227405312 < bits % 9223372036854775808 → float_of bits ≡ nan
nan-of bits h =
    is-nan (float_of bits) (sym (nan_bits_is binary64 bits) ∙ nan_bits_above binary64 bits ∙ lt-ltb _ _ h)

pub float_from_bits-result : goal.float_from_bits-result
float_from_bits-result c = subst⁻¹ (λ (t : Bool). T (not t)) (nan_bits_above binary64 c.args.bits ∙ le-ltb _ _ c.if-bits-le-INFINITY.true) tt

pub returns-else-bits-le-INFINITY : goal.returns-else-bits-le-INFINITY
unfolding div of_bits
returns-else-bits-le-INFINITY c = sym (nan-of c.args.bits c.if-bits-le-INFINITY.false)
