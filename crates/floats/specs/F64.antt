-- Short names for f64: each operation is that of IEEE 754, rounded once to binary64.
use Rattle.std.specs.Prelude.{Float}
use Rattle.std.specs.Float.{binary64}
use Rattle.std.specs.Float.Ieee.{of_bits, add, sub, mul, div}

abbrev pub ◌+f◌ : Float → Float → Float
◌+f◌ x y = add binary64 x y

abbrev pub ◌-f◌ : Float → Float → Float
◌-f◌ x y = sub binary64 x y

abbrev pub ◌*f◌ : Float → Float → Float
◌*f◌ x y = mul binary64 x y

abbrev pub ◌/f◌ : Float → Float → Float
◌/f◌ x y = div binary64 x y

infixl 60 ◌+f◌
infixl 60 ◌-f◌
infixl 70 ◌*f◌
infixl 70 ◌/f◌
-- 0
abbrev pub zero64 : Float
zero64 = of_bits binary64 0

-- 1
abbrev pub one64 : Float
one64 = of_bits binary64 0x3ff0_0000_0000_0000

-- 2
abbrev pub two64 : Float
two64 = of_bits binary64 0x4000_0000_0000_0000

-- 4
abbrev pub four64 : Float
four64 = of_bits binary64 0x4010_0000_0000_0000

-- 6
abbrev pub six64 : Float
six64 = of_bits binary64 0x4018_0000_0000_0000

-- 2 ^ −46: 64 times EPSILON, the distance from 1 to the next f64
abbrev pub epsilon64 : Float
epsilon64 = of_bits binary64 0x3d10_0000_0000_0000
