-- What the overlap of two cells measures before it clips: whether their boxes miss each other, and its tolerances.
use Rattle.std.specs.Prelude.{ℕ, Bool, ◌||◌, List, [], ◌++◌, get_or, Float}
use Rattle.std.specs.Float.{binary64}
use Rattle.std.specs.Float.Ieee.{of_bits, lt}
use Rattle.places.specs.Loops.{fold_list}
use Rattle.floats.specs.F64.{◌*f◌, zero64, epsilon64}
use Rattle.floats.specs.Pick.{largest_of}
use Rattle.flat.specs.Points.{Point, Box, at, centroid_of, bounds_of, scale_of}
use Rattle.clip_step.specs.Doubled.{dist3_of}
use Rattle.overlap.specs.declared.Measures.{Measures}

-- along the axis k one box ends before the other starts
unfoldable pub apart_along : Box → Box → ℕ → Bool
apart_along a b k = lt (at (get_or a 1 []) k) (at (get_or b 0 []) k) || lt (at (get_or b 1 []) k) (at (get_or a 0 []) k)

-- the boxes miss each other
unfoldable pub boxes_miss : Box → Box → Bool
boxes_miss a b = apart_along a b 0 || (apart_along a b 1 || apart_along a b 2)

-- the larger of m and the distance of p from c
unfoldable pub farther : Point → Point → Float → Float
farther c p m = largest_of m (dist3_of p c)

-- the radial length: the largest distance of a point from the centroid of all
unfoldable pub radial_of : List Point → Float
radial_of ps = fold_list (farther (centroid_of 3 ps)) ps zero64

-- 1e-4
abbrev pub warp : Float
warp = of_bits binary64 0x3f1a_36e2_eb1c_432d

-- of the first cell's vertices and the second's: the clip's eps is 64 · EPSILON times the first's scale, the coplanar tolerance 1e-4
-- times the radial length of both, and contributions are taken about the first's vertex centroid
unfoldable pub measures_of : List Point → List Point → Measures
measures_of vs ws =
    record {
      eps = epsilon64 *f scale_of (bounds_of 3 vs);
      coplanar = warp *f radial_of (vs ++ ws);
      reference = centroid_of 3 vs;
    }
