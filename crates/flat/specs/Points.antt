-- Points. A point is the list of its coordinates: two in the plane, three in space. The definitions
-- that Rust has for both take that number, D, as their first argument.
use Rattle.std.specs.Prelude.{ℕ, zero, suc, ◌+◌, List, [], ◌∷◌, map, true, false, length, get_or, pos, Float}
use Rattle.std.specs.Float.{nan, inf, binary64}
use Rattle.std.specs.Float.Ieee.{of_int}
use Rattle.places.specs.Loops.{fold_list}
use Rattle.places.specs.Stored.{in_threes}
use Rattle.floats.specs.F64.{◌+f◌, ◌-f◌, ◌/f◌, zero64}
use Rattle.floats.specs.Pick.{least_of, largest_of}

abbrev pub Point : Type 0
Point = List Float

-- coordinate k of a point
abbrev pub at : Point → ℕ → Float
at p k = get_or p k nan

-- the coordinates i, i + 1, .. of a point, `left` of them, each given by its number
abbrev pub coordinates_from : (ℕ → Float) → ℕ → ℕ → Point
coordinates_from f zero i = []
coordinates_from f (suc left) i = f i ∷ coordinates_from f left (i + 1)

-- the point of D coordinates that has f k for its coordinate k
abbrev pub point_by : ℕ → (ℕ → Float) → Point
point_by D f = coordinates_from f D 0

-- ---- a cell's vertices
-- the vertices that coordinates in threes give
abbrev pub vertices_of : List Float → List Point
vertices_of coords = in_threes coords

-- the vertex with a number
abbrev pub vertex_of : List Point → ℕ → Point
vertex_of vs v = get_or vs v []

-- where the corners of a face are, in order
unfoldable pub corners_of : List Point → List ℕ → List Point
corners_of vs face = map (vertex_of vs) face

-- ---- points added, taken off and divided
unfoldable pub plus_of : ℕ → Point → Point → Point
plus_of D p s = point_by D (λ k. at s k +f at p k)

unfoldable pub minus_of : ℕ → Point → Point → Point
minus_of D p q = point_by D (λ k. at p k -f at q k)

unfoldable pub over_of : ℕ → Point → Float → Point
over_of D p n = point_by D (λ k. at p k /f n)

-- ---- vertex_centroid: the points added in order, and each coordinate divided by their number
unfoldable pub centroid_of : ℕ → List Point → Point
centroid_of D ps = over_of D (fold_list (plus_of D) ps (point_by D (λ k. zero64))) (of_int binary64 (pos (length ps)))

-- ---- bounds: the corner of least and that of largest coordinates, from +infinity and −infinity on
abbrev pub Box : Type 0
Box = List Point

unfoldable pub widen_of : ℕ → Point → Box → Box
widen_of D p box = point_by D (λ k. least_of (at (get_or box 0 []) k) (at p k))
    ∷ point_by D (λ k. largest_of (at (get_or box 1 []) k) (at p k)) ∷ []

abbrev pub no_box : ℕ → Box
no_box D = point_by D (λ k. inf false) ∷ point_by D (λ k. inf true) ∷ []

unfoldable pub bounds_of : ℕ → List Point → Box
bounds_of D ps = fold_list (widen_of D) ps (no_box D)

-- the side of a box along the axis k
abbrev side_of : Box → ℕ → Float
side_of box k = at (get_or box 1 []) k -f at (get_or box 0 []) k

-- scale: the longest side of a box of space
unfoldable pub scale_of : Box → Float
scale_of box = largest_of (largest_of (side_of box 0) (side_of box 1)) (side_of box 2)
