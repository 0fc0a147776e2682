-- The patterns of binary64 as `pattern_of` writes them: k * 2 ^ 52 + q is the pattern of q * 2 ^ k units exactly where it is below that of
-- the infinity, and from there on the value is out of range.
use mathlib.Core.Path.{◌≡◌, refl, sym, ◌∙◌}
use Prim.Native.Nat.{ℕ, ◌+◌, ◌*◌, ◌^◌, ◌≤◌, ◌<◌}
use native.Mathlib.Nat.{le_trans, le_of_eq, lt_of_lt_of_le, lt_of_le_of_lt, lt_of_not-le, mul-le-mul, mul-lt-mul_of_pos_right}
use native.Mathlib.Decide.{dec_le}
use native.Mathlib.Omega.{arith}
use mathlib.Core.Bool.{false}
use lib.Dec.{lit<}
use lib.Pow.{pow-add, pow_pos, pow_mono}
use lib.Ieee.{inf, binary64, units, of_bits, nan_bits}
use Rattle.floats.proofs.Writing.{pack, pack_no_nan}
use Rattle.floats.proofs.Taken.{too_large}

abbrev infinity : ℕ
infinity = 0x7ff0_0000_0000_0000

pub infinity_is : of_bits binary64 infinity ≡ inf false
unfolding of_bits
infinity_is = refl

infinity_no_nan : nan_bits binary64 infinity ≡ false
unfolding nan_bits
infinity_no_nan = refl

-- b is the pattern of q * 2 ^ k units, or of the infinity where that is out of range, and no NaN's
abbrev pub PatternOf : (b q k : ℕ) → Type 0
PatternOf b q k = (of_bits binary64 b ≡ units binary64 false q k) × (nan_bits binary64 b ≡ false)

module _ (q k : ℕ) (Q : q ≤ 2 ^ 53) (lo : 0 < k → 2 ^ 52 ≤ q) where
  bounded : k * 2 ^ 52 + q < infinity → q * 2 ^ k < 2 ^ 2098
  bounded h = either (dec_le k 2044)
    where
      either : Dec (k ≤ 2044) → q * 2 ^ k < 2 ^ 2098
      either (yes l) = lt_of_le_of_lt (mul-le-mul Q (pow_mono l)) (lit< tt)
      either (no n) =
          let big : 2044 < k = lt_of_not-le n in
          let ge : 2 ^ 52 ≤ q = lo (omega arith) in
          let top : 53 + k ≤ 2098 = omega arith in
          let below : q < 2 ^ 53 = omega arith in
          lt_of_lt_of_le (mul-lt-mul_of_pos_right below (pow_pos k)) (le_trans (le_of_eq (sym (pow-add 2 53 k))) (pow_mono top))

  out_of_range : infinity ≤ k * 2 ^ 52 + q → 2 ^ 2098 ≤ q * 2 ^ k
  out_of_range h = either (dec_le k 2045)
    where
      either : Dec (k ≤ 2045) → 2 ^ 2098 ≤ q * 2 ^ k
      either (yes l) =
          let k-is : 2045 ≤ k = omega arith in
          let q-is : 2 ^ 53 ≤ q = omega arith in
          le_trans (le_of_eq (pow-add 2 53 2045)) (mul-le-mul q-is (pow_mono k-is))
      either (no n) =
          let k-is : 2046 ≤ k = lt_of_not-le n in
          let q-is : 2 ^ 52 ≤ q = lo (omega arith) in
          le_trans (le_of_eq (pow-add 2 52 2046)) (mul-le-mul q-is (pow_mono k-is))

  pub pattern_in : k * 2 ^ 52 + q < infinity → PatternOf (k * 2 ^ 52 + q) q k
  pattern_in h = (pack binary64 q k lo Q (bounded h), pack_no_nan binary64 q k lo Q (bounded h))

  pub pattern_out : infinity ≤ k * 2 ^ 52 + q → PatternOf infinity q k
  pattern_out h = (infinity_is ∙ sym (too_large binary64 q k (out_of_range h)), infinity_no_nan)
