-- One plane or one edge against an outline: the points that are kept, and where its sides cross.
-- Every step is one operation of f64.
use Rattle.std.specs.Prelude.{◌-◌, Bool, true, false, List, [], ◌∷◌, ◌++◌, length, get_or, Float}
use Rattle.std.specs.Float.Ieee.{le}
use Rattle.floats.specs.F64.{◌+f◌, ◌-f◌, ◌*f◌, ◌/f◌, zero64}
use Rattle.flat.specs.Points.{Point, at, point_by}
use Rattle.flat.specs.Flat.{cross2_of, crossing_of}
use Rattle.planes.specs.declared.Plane.{Plane}
use Rattle.planes.specs.Planes.{distance_of}

-- what the side from a to b leaves, by whether a is kept and b is; x is where it crosses
abbrev pub side_leaves : Bool → Bool → Point → Point → List Point
side_leaves true true x b = b ∷ []
side_leaves true false x b = x ∷ []
side_leaves false true x b = x ∷ b ∷ []
side_leaves false false x b = []

-- what the sides from a through the points leave
unfoldable pub trim_from : (Point → Bool) → (Point → Point → Point) → Point → List Point → List Point
trim_from keep cross a [] = []
trim_from keep cross a (b ∷ ps) = side_leaves (keep a) (keep b) (cross a b) b ++ trim_from keep cross b ps

-- ---- in space
-- at a crossing t is da over da minus db, the distances of the side's ends; it need not be between 0 and 1
unfoldable pub crossing_at : Float → Float → Float
crossing_at da db = da /f (da -f db)

-- segment_plane_intersection: a plus t times (b − a), each step rounded once
unfoldable pub segment_plane_of : Point → Point → Float → Float → Point
segment_plane_of a b da db =
    let t = crossing_at da db in
    point_by 3 (λ k. at a k +f t *f (at b k -f at a k))

-- in a cut a point is inside when its distance is at most eps, so NaN is out
abbrev pub within : Plane → Float → Point → Bool
within plane eps p = le (distance_of plane p) eps

abbrev pub cross_plane : Plane → Point → Point → Point
cross_plane plane a b = segment_plane_of a b (distance_of plane a) (distance_of plane b)

-- clip_polygon_by_plane, before doubled points are dropped: the sides in the order of their ends, the first from the last point
unfoldable pub trimmed_by : Plane → Float → List Point → List Point
trimmed_by plane eps ps = trim_from (within plane eps) (cross_plane plane) (last_of ps) ps
  where
    last_of : List Point → Point
    last_of ps = get_or ps (length ps - 1) []

-- ---- in the plane
-- clip_convex keeps a point when cross2 ≥ 0
abbrev pub on_left : Point → Point → Point → Bool
on_left a b p = le zero64 (cross2_of a b p)

-- clip_convex, one edge from a to b: the sides in order
unfoldable pub trimmed_at : Point → Point → List Point → List Point
trimmed_at a b [] = []
trimmed_at a b (p ∷ ps) = trim_from (on_left a b) (crossing_of a b) p (ps ++ p ∷ [])
