-- The roots of the values that `root` answers without computing: a NaN, the zeros, the infinities and what is below zero.
use mathlib.Core.Path.{◌≡◌, refl, sym, ap, ◌∙◌, subst}
use Prim.Native.Nat.{ℕ, zero, suc, ◌+◌, ◌-◌, ◌*◌, ◌/◌, ◌%◌, ◌^◌, ◌≤◌, ◌<◌}
use native.Mathlib.Nat.{mul-pos, lt_of_lt_of_le, le-add_right, mod-eq_of_lt}
use native.Mathlib.Omega.{arith}
use mathlib.Core.Bool.{Bool, true, false, not, cond, false≢true}
use lib.Dec.{T, eqb}
use borrow.Author.Tests.{le-leb, ne_eqb, ltb-false}
use lib.Pow.{pow_pos}
use lib.Ieee.{Float, nan, inf, fin, Format, binary64, prec, low, hid, ones, odd, fits, is_nan, of_fields, of_bits, to_bits}
use lib.Ieee.Exact.{HasValue, odd_sign}
use lib.Ieee.Bits.{of_bits-to_bits, nan_bits_is, nan_bits_above, is_false}
use Rattle.floats.specs.Root.{root_of}
use Rattle.floats.proofs.Nans.{is_nan_lem, written}
use Rattle.floats.proofs.Rounded.{not_zero}

pub root_of_nan : (x : Float) → is_nan x ≡ true → x ≡ root_of binary64 x
unfolding root_of
root_of_nan x h = rw (is_nan_lem x h)

-- ---- a zero and the positive infinity, by their patterns, are their own roots
abbrev pub OwnRoot : Float → Type 0
OwnRoot x = x ≡ root_of binary64 x

pub plus_zero : OwnRoot (of_bits binary64 0)
unfolding root_of of_bits
plus_zero = refl

pub minus_zero_lem : OwnRoot (of_bits binary64 0x8000_0000_0000_0000)
unfolding root_of of_bits
minus_zero_lem = refl

pub plus_infinity : OwnRoot (of_bits binary64 0x7ff0_0000_0000_0000)
unfolding root_of of_bits
plus_infinity = refl

-- what holds of the value of a pattern holds of x, where x has that pattern
pub own_root : (x : Float) (b : ℕ) → T (fits binary64 x) → to_bits binary64 x ≡ b → OwnRoot (of_bits binary64 b) → OwnRoot x
own_root x b h e = subst OwnRoot (ap (of_bits binary64) (sym e) ∙ of_bits-to_bits binary64 x h)

-- ---- below zero
below : (f : Format) (x : Float) (n c : ℕ) → 0 < n → HasValue x true n c → root_of f x ≡ nan
unfolding root_of
below f nan n c N v = absurd v
below f (inf s) n c N v = absurd v
below f (fin false m e) n c N v = absurd (false≢true v.0)
below f (fin true m e) n c N v = ap (λ (b : Bool). cond b (fin true m e) nan) (ne_eqb m 0 (not_zero m e c n N v.1))

at_top : (f : Format) (b : Bool) → root_of f (cond b (inf true) nan) ≡ nan
unfolding root_of
at_top f true = refl
at_top f false = refl

either : (f : Format) (b : Bool) (v w : Float) → root_of f v ≡ nan → root_of f w ≡ nan → root_of f (cond b v w) ≡ nan
either f true v w p q = p
either f false v w p q = q

below_fields : (f : Format) (x t : ℕ) → 0 < x + t → root_of f (of_fields f true x t) ≡ nan
unfolding of_fields
below_fields f zero t h = below f (odd (prec f) true t 0 (low f)) (t * 2 ^ 0) (2 ^ low f) (omega arith) (odd_sign (prec f) true t 0 (low f))
below_fields f (suc x) t h =
    either f (eqb (suc x) (ones f)) (cond (eqb t 0) (inf true) nan) (odd (prec f) true (hid f + t) x (low f)) (at_top f (eqb t 0))
    (below f (odd (prec f) true (hid f + t) x (low f)) ((hid f + t) * 2 ^ x) (2 ^ low f)
    (mul-pos (lt_of_lt_of_le (pow_pos (prec f - 1)) (le-add_right (hid f) t)) (pow_pos x)) (odd_sign (prec f) true (hid f + t) x (low f)))

below_bits : (b : ℕ) → 2 ^ 63 < b → b < 2 ^ 64 → root_of binary64 (of_bits binary64 b) ≡ nan
unfolding of_bits
below_bits b lo hi =
    ap (λ (s : Bool). root_of binary64 (of_fields binary64 s (b % 2 ^ 63 / 2 ^ 52) (b % 2 ^ 52))) (le-leb (2 ^ 63) b (omega arith))
    ∙ below_fields binary64 (b % 2 ^ 63 / 2 ^ 52) (b % 2 ^ 52) (omega arith)

pub root_below : (x : Float) → T (fits binary64 x) → 2 ^ 63 < to_bits binary64 x → to_bits binary64 x < 2 ^ 64
    → of_bits binary64 0x7ff8_0000_0000_0000 ≡ root_of binary64 x
root_below x h lo hi = written ∙ sym (ap (root_of binary64) (sym (of_bits-to_bits binary64 x h)) ∙ below_bits (to_bits binary64 x) lo hi)

-- ---- a pattern that is no NaN's is at most the infinity's, without the sign's bit, and below that bit as it is
pub bare_at_most_infinity : (x : Float) → T (fits binary64 x) → T (not (is_nan x)) → to_bits binary64 x % 2 ^ 63 ≤ 0x7ff0_0000_0000_0000
bare_at_most_infinity x h n =
    let b = to_bits binary64 x in
    ltb-false 0x7ff0_0000_0000_0000 (b % 2 ^ 63)
    (sym (nan_bits_above binary64 b) ∙ nan_bits_is binary64 b ∙ ap is_nan (of_bits-to_bits binary64 x h) ∙ is_false (is_nan x) n)

pub at_most_infinity : (x : Float) → T (fits binary64 x) → T (not (is_nan x)) → to_bits binary64 x < 2 ^ 63
    → to_bits binary64 x ≤ 0x7ff0_0000_0000_0000
at_most_infinity x h n l = subst (λ (y : ℕ). y ≤ 0x7ff0_0000_0000_0000) (mod-eq_of_lt l) (bare_at_most_infinity x h n)
