-- ray_crosses_face: whether the ray from a point along +x crosses a face. Every step
-- is one operation of f64, in the order that the Rust has.
use Rattle.std.specs.Prelude.{ℕ, Bool, true, false, not, ◌&&◌, cond, List, [], ◌∷◌, get_or, Float}
use Rattle.std.specs.Float.Ieee.{lt, le}
use Rattle.places.specs.Ring.{fold_sides}
use Rattle.floats.specs.F64.{◌+f◌, ◌-f◌, ◌*f◌, ◌/f◌, zero64, epsilon64}
use Rattle.floats.specs.Pick.{magnitude_of, largest_of}
use Rattle.flat.specs.Points.{Point, at, corners_of}
use Rattle.flat.specs.Flat.{newell_of, axis_of, project2_of, points_of}

-- one of two tests holds and the other does not
abbrev pub differ : Bool → Bool → Bool
differ true b = not b
differ false b = b

-- ---- a point and an outline in the plane
-- where the side from a to b meets the height of p
unfoldable pub meets_at : Point → Point → Point → Float
meets_at p a b =
    let t = (at p 1 -f at a 1) /f (at b 1 -f at a 1) in
    at a 0 +f t *f (at b 0 -f at a 0)

-- the side from a to b passes the height of p, and to the right of p
unfoldable pub passes : Point → Point → Point → Bool
passes p a b = differ (lt (at p 1) (at a 1)) (lt (at p 1) (at b 1)) && lt (at p 0) (meets_at p a b)

-- each side that passes turns the answer round
unfoldable pub pass_side : Point → Point → Point → Bool → Bool
pass_side p a b inside = cond (passes p a b) (not inside) inside

-- p is in the outline: an odd number of sides passes it
unfoldable pub in_outline : Point → List Point → Bool
in_outline p ps = fold_sides (pass_side p) ps false

-- ---- the ray and a face, whose corners are at `cs`
-- the normal is as good as at right angles to the ray: |n[0]| ≤ 64·EPSILON·max|n|
unfoldable pub along_of : Point → Bool
along_of n =
    let x = magnitude_of (at n 0) in
    let largest = largest_of (largest_of x (magnitude_of (at n 1))) (magnitude_of (at n 2)) in
    le x (epsilon64 *f largest)

-- how far along the ray from p the plane of normal n through v is
unfoldable pub distance_ahead : Point → Point → Point → Float
distance_ahead p n v = (at n 0 *f (at v 0 -f at p 0) +f at n 1 *f (at v 1 -f at p 1) +f at n 2 *f (at v 2 -f at p 2)) /f at n 0

-- the point at that distance along the ray
abbrev pub ahead : Point → Float → Point
ahead p t = (at p 0 +f t) ∷ at p 1 ∷ at p 2 ∷ []

-- it misses when the normal is along the face or t ≤ 0; else it crosses where the point ahead, seen along the dominant axis, is in the face
unfoldable pub ray_crosses : List Point → Point → List ℕ → Bool
ray_crosses vs p face =
    let n = newell_of (corners_of vs face) in
    let t = distance_ahead p n (get_or (corners_of vs face) 0 []) in
    let hit = in_outline (project2_of (ahead p t) (axis_of n)) (points_of vs (axis_of n) face) in
    cond (along_of n) false (cond (le t zero64) false hit)
