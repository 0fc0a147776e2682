-- `hypot_of` (specs/Hypot.antt) is correctly rounded. IEEE 754: the value nearest to the infinitely precise result is delivered, and of two
-- that are equally near the one whose last digit is even; from the mid-point of the largest value and the next power of two on, infinity.
-- A unit is the format's smallest positive value, 2 ^ -low; for binary64, that of f64, 2 ^ -1074. Where x is `a` units and y is `b` units,
-- their exact length is the root of a * a + b * b, in units; distances to it are compared by squares, in whole numbers.
use Rattle.std.specs.Prelude.{◌≡◌, ◌≢◌, ◌⊎◌, Bool, false, ℕ, suc, ◌+◌, ◌-◌, ◌*◌, ◌%◌, ◌^◌, ◌≤◌, ◌<◌, T, Float}
use Rattle.std.specs.Float.{nan, inf, Format}
use Rattle.std.specs.Float.Ieee.{prec, emax, low, fits, to_bits}
use Rattle.std.specs.Float.Ieee.Exact.{HasValue}
use Rattle.std.specs.Float.Ieee.Scale.{finite, overflow}
use Rattle.floats.specs.Pick.{magnitude_of}
use Rattle.floats.specs.Nearest.{NoNearer, EquallyNear}
use Rattle.hypot.specs.Hypot.{hypot_of}

-- x is `a` units, its sign aside
abbrev pub IsUnits : Format → Float → ℕ → Type 0
IsUnits f x a = HasValue (magnitude_of x) false a (2 ^ low f)

-- the largest value of the format, in units, has `prec` digits 1; `overflow f`, the power of two after it, is beyond the format
abbrev pub largest_units : Format → ℕ
largest_units f = overflow f - 2 ^ (low f + suc (emax f) - prec f)

-- twice the mid-point of the largest value and `overflow f`, in units; from that mid-point on a root is rounded to infinity
abbrev pub last_middle : Format → ℕ
last_middle f = largest_units f + overflow f

-- v is a value of the format, r units, and no value z of the format is nearer to the exact root of n; where one is as near, the last digit
-- of v is 0, which is the last digit of its pattern. A z with its sign set is no nearer than its magnitude.
pub record NearestValue (f : Format) (n : ℕ) (v : Float) (r : ℕ) : Type 0 where
  pub in_format : T (fits f v)
  pub value : HasValue v false r (2 ^ low f)
  pub no_nearer : (z : Float) (c : ℕ) → T (fits f z) → IsUnits f z c → NoNearer n r c
  pub tie_to_even : (z : Float) (c : ℕ) → T (fits f z) → IsUnits f z c → c ≢ r → EquallyNear n r c → to_bits f v % 2 ≡ 0

-- v is what rounding makes of the exact root of n: below the mid-point of the largest value and the next power of two the nearest value,
-- and from it on +infinity
abbrev pub RoundedRoot : Format → ℕ → Float → Type 0
RoundedRoot f n v =
    (4 * n < last_middle f * last_middle f × ((r : ℕ) × NearestValue f n v r))
    ⊎ (last_middle f * last_middle f ≤ 4 * n × v ≡ inf false)

-- the length of two finite values, `a` and `b` units, is the exact root of a * a + b * b, rounded
abbrev pub CorrectlyRounded : Type 0
CorrectlyRounded =
    (f : Format) (x y : Float) → T (fits f x) → T (fits f y) → T (finite x) → T (finite y)
    → (a : ℕ) × (b : ℕ) × IsUnits f x a × IsUnits f y b × RoundedRoot f (a * a + b * b) (hypot_of f x y)

-- the order of the operands does not matter
abbrev pub EitherOrder : Type 0
EitherOrder = (f : Format) (x y : Float) → hypot_of f x y ≡ hypot_of f y x

-- nor do their signs
abbrev pub NoSigns : Type 0
NoSigns = (f : Format) (x y : Float) → hypot_of f (magnitude_of x) (magnitude_of y) ≡ hypot_of f x y

-- an infinity on either side gives +infinity, beside a NaN too
abbrev pub BesideInfinity : Type 0
BesideInfinity = (f : Format) (s : Bool) (x : Float) → (hypot_of f (inf s) x ≡ inf false) × (hypot_of f x (inf s) ≡ inf false)

-- else, beside anything but an infinity, a NaN on either side gives a NaN
abbrev pub BesideNan : Type 0
BesideNan = (f : Format) (x : Float) → ((s : Bool) → x ≢ inf s) → (hypot_of f nan x ≡ nan) × (hypot_of f x nan ≡ nan)
