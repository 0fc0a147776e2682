-- Flat rules: cross2, the Newell sums, the dominant axis, the projection, the signed area and its sense, and where two segments cross.
-- Every step is one operation of f64, in the order that the Rust has.
use Rattle.std.specs.Prelude.{ℕ, ◌&&◌, cond, List, [], ◌∷◌, map, reverse, eqb, Float}
use Rattle.std.specs.Float.Ieee.{le, lt, eq}
use Rattle.places.specs.Ring.{fold_sides}
use Rattle.floats.specs.F64.{◌+f◌, ◌-f◌, ◌*f◌, ◌/f◌, zero64, two64}
use Rattle.floats.specs.Pick.{magnitude_of}
use Rattle.flat.specs.Points.{Point, at, point_by, vertex_of}

-- cross2: (b − a) × (c − a)
unfoldable pub cross2_of : Point → Point → Point → Float
cross2_of a b c = (at b 0 -f at a 0) *f (at c 1 -f at a 1) -f (at b 1 -f at a 1) *f (at c 0 -f at a 0)

-- ---- newell_normal
-- the sums s with the terms of the side from a to b added
unfoldable pub newell_side : Point → Point → Point → Point
newell_side a b s =
    (at s 0 +f (at a 1 -f at b 1) *f (at a 2 +f at b 2))
    ∷ (at s 1 +f (at a 2 -f at b 2) *f (at a 0 +f at b 0))
    ∷ (at s 2 +f (at a 0 -f at b 0) *f (at a 1 +f at b 1))
    ∷ []

-- the Newell sums of an outline in space
unfoldable pub newell_of : List Point → Point
newell_of ps = fold_sides newell_side ps (point_by 3 (λ k. zero64))

-- dominant_axis: 0 if |x| ≥ |y| and |x| ≥ |z|, else 1 if |y| ≥ |z|, else 2
unfoldable pub axis_of : Point → ℕ
axis_of n =
    let x = magnitude_of (at n 0) in
    let y = magnitude_of (at n 1) in
    let z = magnitude_of (at n 2) in
    cond (le y x && le z x) 0 (cond (le z y) 1 2)

-- project2: the point without that axis
unfoldable pub project2_of : Point → ℕ → Point
project2_of p axis = cond (eqb axis 0) (at p 1 ∷ at p 2 ∷ []) (cond (eqb axis 1) (at p 0 ∷ at p 2 ∷ []) (at p 0 ∷ at p 1 ∷ []))

-- the point of a vertex in the plane without an axis, and those of a ring's corners
unfoldable pub point_of : List Point → ℕ → ℕ → Point
point_of vs axis v = project2_of (vertex_of vs v) axis

unfoldable pub points_of : List Point → ℕ → List ℕ → List Point
points_of vs axis ring = map (point_of vs axis) ring

-- ---- signed_area2, into_ccw2
-- the sum s with the term of the side from a to b added
unfoldable pub area_side : Point → Point → Float → Float
area_side a b s = s +f (at a 0 *f at b 1 -f at b 0 *f at a 1)

-- the summed area of an outline in the plane: twice its signed area
unfoldable pub summed_area_of : List Point → Float
summed_area_of ps = fold_sides area_side ps zero64

unfoldable pub signed_area_of : List Point → Float
signed_area_of ps = summed_area_of ps /f two64

-- the outline turned counterclockwise: reversed where its signed area is below 0
unfoldable pub ccw_of : List Point → List Point
ccw_of ps = cond (lt (signed_area_of ps) zero64) (reverse ps) ps

-- ---- segment_intersection: where the line from a to b meets that from p to q; q when the denominator is 0
unfoldable pub crossing_of : Point → Point → Point → Point → Point
crossing_of a b p q =
    let dax = at b 0 -f at a 0 in
    let day = at b 1 -f at a 1 in
    let dpx = at q 0 -f at p 0 in
    let dpy = at q 1 -f at p 1 in
    let denom = dax *f dpy -f day *f dpx in
    let t = ((at p 0 -f at a 0) *f dpy -f (at p 1 -f at a 1) *f dpx) /f denom in
    cond (eq denom zero64) q ((at a 0 +f t *f dax) ∷ (at a 1 +f t *f day) ∷ [])
