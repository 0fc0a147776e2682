-- What the steps of `hypot` promise each other; no contract of a public entry speaks of these.
use Rattle.std.specs.Prelude.{◌≡◌, false, ◌&&◌, cond, ℕ, ◌+◌, ◌*◌, ◌^◌, ◌≤◌, ◌<◌, eqb, ltb}
use Rattle.std.specs.Float.{binary64}
use Rattle.std.specs.Float.Ieee.{of_bits, nan_bits}
use Rattle.std.specs.Float.Ieee.Exact.{HasValue}
use Rattle.hypot.specs.Hypot.{hypot_of}

-- the pattern b stands for m * 2 ^ e units; m has 53 digits, or e is 0
pub record InUnits (b m e : ℕ) : Type 0 where
  pub value : HasValue (of_bits binary64 b) false (m * 2 ^ e) (2 ^ 1074)
  pub pattern : e * 2 ^ 52 + m ≡ b
  pub below : m < 2 ^ 53
  pub full : 0 < e → 2 ^ 52 ≤ m
  pub up_to : e ≤ 2045

-- high * 2 ^ 54 + low is the whole part of 4 * (a * a + b * b / 4 ^ s), and low has 54 digits; lost is the rest, in parts of 4 ^ s
pub record SumOfSquares (a b s high low lost : ℕ) : Type 0 where
  pub parts : (high * 2 ^ 54 + low) * (2 ^ s * 2 ^ s) + lost ≡ 4 * (a * a * (2 ^ s * 2 ^ s) + b * b)
  pub lost_below : lost < 2 ^ s * 2 ^ s
  pub low_below : low < 2 ^ 54
  pub high_below : high < 2 ^ 56

-- root and rest are the root and the remainder of 4 * (a * a * 4 ^ s + b * b) without what is lost, in steps of 4 ^ (s + moved);
-- the root has 54 digits, or the numbers are subnormal
pub record Leading (a b s root rest lost moved : ℕ) : Type 0 where
  pub parts : (root * root + rest) * (2 ^ (s + moved) * 2 ^ (s + moved)) + lost ≡ 4 * (a * a * (2 ^ s * 2 ^ s) + b * b)
  pub small : rest ≤ 2 * root
  pub lost_below : lost < 2 ^ (s + moved) * 2 ^ (s + moved)
  pub below : root < 2 ^ 54
  pub at_most_one : moved ≤ 1
  pub full_moved : 0 < moved → 2 ^ 53 ≤ root
  pub full : 2 ^ 52 ≤ a → 2 ^ 53 ≤ root

-- the remainder, or 1 in the place of a remainder 0 below which something is lost
abbrev pub marked : ℕ → ℕ → ℕ
marked rest lost = cond (eqb rest 0 && ltb 0 lost) 1 rest

-- r is the pattern of the length of the numbers whose patterns are p and q, and no NaN's
pub record LengthPattern (p q r : ℕ) : Type 0 where
  pub hypot : of_bits binary64 r ≡ hypot_of binary64 (of_bits binary64 p) (of_bits binary64 q)
  pub no_nan : nan_bits binary64 r ≡ false
