-- Roots worked out from the definition: the row of SCOPE 16, the root of the least positive f64, and the rules of SCOPE 5 for -0,
-- a negative number and +infinity; and the root of 2 by the schoolbook.
use mathlib.Core.Path.{◌≡◌, refl}
use lib.IntN.{negsuc}
use mathlib.Core.Bool.{false}
use lib.Dec.{lit≤}
use lib.Ieee.{nan, fin, binary64, of_bits, to_bits}
use Rattle.floats.specs.Root.{root_of}
use Rattle.floats.specs.Schoolbook.{Extracted, rounded_off}

-- the least positive f64 is 2 ^ -1074; `negsuc 536` is -537
least_positive : root_of binary64 (of_bits binary64 1) ≡ fin false 1 (negsuc 536)
unfolding of_bits root_of
least_positive = refl

minus_zero_lem : root_of binary64 (of_bits binary64 0x8000_0000_0000_0000) ≡ of_bits binary64 0x8000_0000_0000_0000
unfolding of_bits root_of
minus_zero_lem = refl

-- of -1
negative : root_of binary64 (of_bits binary64 0xbff0_0000_0000_0000) ≡ nan
unfolding of_bits root_of
negative = refl

infinity : root_of binary64 (of_bits binary64 0x7ff0_0000_0000_0000) ≡ of_bits binary64 0x7ff0_0000_0000_0000
unfolding of_bits root_of
infinity = refl

-- of 2: the exact root is no f64, and the nearest one is above it
two : to_bits binary64 (root_of binary64 (of_bits binary64 0x4000_0000_0000_0000)) ≡ 0x3ff6_a09e_667f_3bcd
unfolding of_bits root_of to_bits
two = refl

-- the largest f64 below 1 is its own root
below_one : to_bits binary64 (root_of binary64 (of_bits binary64 0x3fef_ffff_ffff_ffff)) ≡ 0x3fef_ffff_ffff_ffff
unfolding of_bits root_of to_bits
below_one = refl

-- ---- the root of 2 digit by digit: the lines of src/schoolbook.rt, each with all that was brought down, root and remainder
by_digits : Extracted 2 1 1 × Extracted 8 2 4 × Extracted 32 5 7 × Extracted 128 11 7
    × Extracted 512 22 28 × Extracted 2048 45 23 × Extracted 8192 90 92 × Extracted 32768 181 7
by_digits = (
  record { parts = refl; small = lit≤ tt },
  record { parts = refl; small = lit≤ tt },
  record { parts = refl; small = lit≤ tt },
  record { parts = refl; small = lit≤ tt },
  record { parts = refl; small = lit≤ tt },
  record { parts = refl; small = lit≤ tt },
  record { parts = refl; small = lit≤ tt },
  record { parts = refl; small = lit≤ tt },
)

-- with the last of the eight digits rounded off
rounded_off_lem : rounded_off 32768 ≡ 91
unfolding rounded_off
rounded_off_lem = refl
