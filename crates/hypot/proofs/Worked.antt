-- Lengths worked out from the definition, by their patterns: usual ones, the least and the largest value twice, zeros, a tie up and a tie
-- down, a square that underflows, and a NaN beside an infinity.
use mathlib.Core.Path.{◌≡◌, refl}
use Prim.Native.Nat.{ℕ}
use lib.Ieee.{binary64, of_bits, to_bits}
use Rattle.hypot.specs.Hypot.{hypot_of}

-- the pattern of the length of the two values whose patterns are a and b
abbrev hypot_bits : ℕ → ℕ → ℕ
hypot_bits a b = to_bits binary64 (hypot_of binary64 (of_bits binary64 a) (of_bits binary64 b))

-- 3 and 4 give 5
three_four : hypot_bits 0x4008_0000_0000_0000 0x4010_0000_0000_0000 ≡ 0x4014_0000_0000_0000
unfolding of_bits hypot_of to_bits
three_four = refl

-- 1 and -1 give the f64 nearest to the root of 2
diagonal : hypot_bits 0x3ff0_0000_0000_0000 0xbff0_0000_0000_0000 ≡ 0x3ff6_a09e_667f_3bcd
unfolding of_bits hypot_of to_bits
diagonal = refl

-- the least positive value twice gives itself: the root of 2 is nearer to 1 than to 2
least : hypot_bits 1 1 ≡ 1
unfolding of_bits hypot_of to_bits
least = refl

-- the largest value twice gives infinity
largest : hypot_bits 0x7fef_ffff_ffff_ffff 0x7fef_ffff_ffff_ffff ≡ 0x7ff0_0000_0000_0000
unfolding of_bits hypot_of to_bits
largest = refl

-- -0 and -0 give +0
zeros : hypot_bits 0x8000_0000_0000_0000 0x8000_0000_0000_0000 ≡ 0
unfolding of_bits hypot_of to_bits
zeros = refl

-- The exact length is 9464118944189031, half way between two values, and the even one is above it.
tie_up : hypot_bits 0x433f_a26a_fddb_0384 0x4326_c8f2_a305_5062 ≡ 0x4340_cfc8_73e3_e534
unfolding of_bits hypot_of to_bits
tie_up = refl

-- The exact length is 11105694743877829, half way between two values, and the even one is below it.
tie_down : hypot_bits 0x4342_9899_d5ab_d726 0x432a_575d_458a_cb06 ≡ 0x4343_ba49_0718_ac62
unfolding of_bits hypot_of to_bits
tie_down = refl

-- 2 ^ -540 and 0 give 2 ^ -540, though its square is below the least positive value
tiny : hypot_bits 0x1e30_0000_0000_0000 0 ≡ 0x1e30_0000_0000_0000
unfolding of_bits hypot_of to_bits
tiny = refl

-- a NaN beside -infinity gives +infinity, in either order
nan_first : hypot_bits 0x7ff8_0000_0000_0000 0xfff0_0000_0000_0000 ≡ 0x7ff0_0000_0000_0000
unfolding of_bits hypot_of to_bits
nan_first = refl

nan_last : hypot_bits 0xfff0_0000_0000_0000 0x7ff8_0000_0000_0000 ≡ 0x7ff0_0000_0000_0000
unfolding of_bits hypot_of to_bits
nan_last = refl
