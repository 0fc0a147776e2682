-- The square root is correctly rounded. IEEE 754: the value nearest to the infinitely precise result is delivered, and of two that
-- are equally near the even one. `root_of` (specs/Root.antt) delivers the nearest, and no two are ever equally near.
-- A unit is the format's smallest positive value, 2 ^ -low; for binary64, that of f64, 2 ^ -1074. Every finite value is a whole number of
-- units. The exact root need not be one, so distances to it are compared by squares, in whole numbers.
use Rattle.std.specs.Prelude.{◌≡◌, ◌≢◌, false, ℕ, ◌+◌, ◌*◌, ◌^◌, ◌≤◌, ◌<◌, T, Float}
use Rattle.std.specs.Float.{Format}
use Rattle.std.specs.Float.Ieee.{low, fits}
use Rattle.std.specs.Float.Ieee.Exact.{HasValue}
use Rattle.std.specs.Float.Ieee.Positive.{positive}
use Rattle.floats.specs.Root.{root_of}

-- y units are no nearer to the exact root of n than r units: the mid-point of the two is at most the root where y is less, else at least
abbrev pub NoNearer : (n r y : ℕ) → Type 0
NoNearer n r y = (y < r → (r + y) * (r + y) ≤ 4 * n) × (r < y → 4 * n ≤ (r + y) * (r + y))

-- r and y units are equally near to the exact root of n: it is their mid-point
abbrev pub EquallyNear : (n r y : ℕ) → Type 0
EquallyNear n r y = (r + y) * (r + y) ≡ 4 * n

-- x is n times the square of a unit; `root_of f x` is a value of the format, r units, and no value z of the format is nearer to the exact
-- root. The sign of z is clear, as a value with its sign set is further off than +0.
pub record NearestRoot (f : Format) (x : Float) (n r : ℕ) : Type 0 where
  pub number : HasValue x false n (2 ^ low f * 2 ^ low f)
  pub in_format : T (fits f (root_of f x))
  pub root : HasValue (root_of f x) false r (2 ^ low f)
  pub no_nearer : (z : Float) (y : ℕ) → T (fits f z) → HasValue z false y (2 ^ low f) → NoNearer n r y

-- for every finite value above zero: its root is finite, and no value of the format is nearer to the exact root
abbrev pub CorrectlyRounded : Type 0
CorrectlyRounded = (f : Format) (x : Float) → T (fits f x) → T (positive x) → (n : ℕ) × (r : ℕ) × NearestRoot f x n r

-- no tie arises: no other whole number of units, and so no other value of the format, is as near to the exact root as the root delivered
abbrev pub NoTie : Type 0
NoTie = (f : Format) (x : Float) (n r y : ℕ) → T (fits f x) → T (positive x) → NearestRoot f x n r → y ≢ r → EquallyNear n r y → ⊥
