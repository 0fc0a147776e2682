-- A list of vertices moved to a local origin: every vertex less one vector of whole numbers, and which vertices cannot be moved exactly.
use Rattle.std.specs.Prelude.{ℕ, Bool, not, ◌||◌, List, map, ◌-ℤ◌, ◌==◌, unsigned_abs, Float}
use Rattle.std.specs.Float.{binary64}
use Rattle.std.specs.Float.Ieee.{of_int, to_signed}
use Rattle.places.specs.Loops.{any_of}
use Rattle.floats.specs.F64.{◌-f◌}
use Rattle.exact.specs.Scaled.{exact_of}
use Rattle.flat.specs.Points.{Point, at, point_by, vertex_of, minus_of}

-- x brought to a whole number towards zero; where that is 0 it is +0
unfoldable pub whole_of : Float → Float
whole_of x = of_int binary64 (to_signed 63 x)

-- the local origin: the first vertex's coordinates, each brought to a whole number
unfoldable pub origin_of : List Point → Point
origin_of vs = point_by 3 (λ k. whole_of (at (vertex_of vs 0) k))

-- the vertices moved: the local origin taken off each
unfoldable pub moved_by : Point → List Point → List Point
moved_by origin vs = map (λ p. minus_of 3 p origin) vs

-- what rounding takes from the exact difference of two numbers, in units of 2 ^ −1074
unfoldable pub lost_of : Float → Float → ℕ
lost_of x o = unsigned_abs ((exact_of x -ℤ exact_of o) -ℤ exact_of (x -f o))

-- the difference is no f64: rounding changes it
unfoldable pub inexact : Float → Float → Bool
inexact x o = not (lost_of x o == 0)

-- a coordinate of the vertex cannot be moved exactly
unfoldable pub stays_behind : Point → Point → Bool
stays_behind origin p = inexact (at p 0) (at origin 0) || (inexact (at p 1) (at origin 1) || inexact (at p 2) (at origin 2))

-- a coordinate of some vertex cannot be moved exactly to the local origin
unfoldable pub move_refused : List Point → Bool
move_refused vs = any_of (stays_behind (origin_of vs)) vs
