-- The NaN: what `is_nan` and the test `x != x` say of x, how code writes one, which patterns are one's, and what comes of one: every sum,
-- difference and product with it is a NaN, and no comparison with it holds.
use mathlib.Core.Path.{◌≡◌, refl, sym, ◌∙◌, subst}
use mathlib.Core.Bool.{Bool, true, false, not}
use Prim.Native.Nat.{ℕ, ◌%◌, ◌^◌, ◌<◌, ◌≤◌}
use lib.Dec.{T}
use borrow.Author.Tests.{lt-ltb, le-ltb}
use lib.Ieee.{Float, nan, inf, fin, Format, binary64, neg, add, sub, mul, div, lt, eq, le, ne, is_nan, of_bits, to_bits, nan_bits}
use lib.Ieee.Bits.{nan_bits_is, nan_bits_above}
use lib.Ieee.Compare.{differs_from_itself, nan_differs}

-- ---- a flag as a fact
pub holds : {b : Bool} → b ≡ true → T b
holds e = subst T (sym e) tt

pub fails : {b : Bool} → b ≡ false → T (not b)
fails e = subst (λ (b : Bool). T (not b)) (sym e) tt

-- ---- the NaN is the one float that is none, and code writes it by its pattern
pub is_nan_lem : (x : Float) → is_nan x ≡ true → x ≡ nan
unfolding is_nan
is_nan_lem nan h = refl
is_nan_lem (inf s) h = absurd (holds h)
is_nan_lem (fin s m e) h = absurd (holds h)

pub no_nan : (x : Float) → is_nan x ≡ false → T (not (is_nan x))
no_nan x h = fails h

pub written : of_bits binary64 0x7ff8_0000_0000_0000 ≡ nan
unfolding of_bits
written = refl

-- ---- the test `x != x`, and the quotient of two zeros
pub differs_nan : (x : Float) → ne x x ≡ true → x ≡ nan
differs_nan x h = differs_from_itself x (holds h)

pub no_number : (x : Float) → ne x x ≡ true → is_nan x ≡ true
unfolding is_nan
no_number x h = rw (differs_nan x h)

pub is_number : (x : Float) → ne x x ≡ false → is_nan x ≡ false
unfolding is_nan
is_number nan h = absurd (subst T (sym nan_differs ∙ h) tt)
is_number (inf s) h = refl
is_number (fin s m e) h = refl

pub quotient : div binary64 (of_bits binary64 0) (of_bits binary64 0) ≡ nan
unfolding div of_bits
quotient = refl

-- ---- patterns
pub nan_pattern : (x : Float) → is_nan x ≡ true → 0x7ff8_0000_0000_0000 ≡ to_bits binary64 x
unfolding to_bits
nan_pattern x h = rw (is_nan_lem x h)

pub above_infinity : (b : ℕ) → 0x7ff0_0000_0000_0000 < b % 2 ^ 63
    → of_bits binary64 0x7ff8_0000_0000_0000 ≡ of_bits binary64 b
above_infinity b h =
    written ∙ sym (is_nan_lem (of_bits binary64 b) (sym (nan_bits_is binary64 b) ∙ nan_bits_above binary64 b
    ∙ lt-ltb 0x7ff0_0000_0000_0000 (b % 2 ^ 63) h))

pub up_to_infinity : (b : ℕ) → b % 2 ^ 63 ≤ 0x7ff0_0000_0000_0000 → T (not (nan_bits binary64 b))
up_to_infinity b h = fails (nan_bits_above binary64 b ∙ le-ltb 0x7ff0_0000_0000_0000 (b % 2 ^ 63) h)

-- ---- what comes of one as the second operand; of one as the first it is a matter of definition
pub plus_nan : (f : Format) (x : Float) → add f x nan ≡ nan
unfolding add
plus_nan f nan = refl
plus_nan f (inf s) = refl
plus_nan f (fin s m e) = refl

pub minus_nan : (f : Format) (x : Float) → sub f x nan ≡ nan
unfolding sub neg
minus_nan f x = plus_nan f x

pub times_nan : (f : Format) (x : Float) → mul f x nan ≡ nan
unfolding mul
times_nan f nan = refl
times_nan f (inf s) = refl
times_nan f (fin s m e) = refl

pub not_below_nan : (x : Float) → lt x nan ≡ false
unfolding lt
not_below_nan nan = refl
not_below_nan (inf s) = refl
not_below_nan (fin s m e) = refl

pub not_at_most_nan : (x : Float) → le x nan ≡ false
unfolding le lt eq
not_at_most_nan nan = refl
not_at_most_nan (inf s) = refl
not_at_most_nan (fin s m e) = refl
