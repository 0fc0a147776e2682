-- What the steps of `root` promise beside those of the schoolbook: the number as a whole number, and the root's pattern.
use Rattle.std.specs.Prelude.{◌≡◌, false, ℕ, ◌*◌, ◌^◌, ◌≤◌, ◌<◌}
use Rattle.std.specs.Float.{binary64}
use Rattle.std.specs.Float.Ieee.{of_bits, nan_bits}
use Rattle.std.specs.Float.Ieee.Exact.{HasValue}
use Rattle.floats.specs.Root.{root_of}

-- the pattern b stands for a * 4 ^ h / 4 ^ 1074, where a has 53 or 54 binary digits
pub record Scaling (b a h : ℕ) : Type 0 where
  pub value : HasValue (of_bits binary64 b) false (a * (2 ^ h * 2 ^ h)) (2 ^ 1074 * 2 ^ 1074)
  pub at_least : 2 ^ 52 ≤ a
  pub below : a < 2 ^ 54
  pub from : 26 ≤ h
  pub up_to : h ≤ 1560

-- r is the pattern of the root of the number whose pattern is b, and no NaN's
pub record RootPattern (b r : ℕ) : Type 0 where
  pub root : of_bits binary64 r ≡ root_of binary64 (of_bits binary64 b)
  pub no_nan : nan_bits binary64 r ≡ false
