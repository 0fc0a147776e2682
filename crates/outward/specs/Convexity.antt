-- compute_convexity: whether each face of a cell has all other vertices on one side. Every
-- step is one operation of f64, in the order that the Rust has.
use Rattle.std.specs.Prelude.{ℕ, ◌+◌, Bool, not, ◌&&◌, ◌||◌, cond, List, [], ◌∷◌, leb, ltb, eqb, length, get_or, Float}
use Rattle.std.specs.Float.{binary64}
use Rattle.std.specs.Float.Ieee.{of_bits, lt, neg}
use Rattle.places.specs.Loops.{any_of}
use Rattle.floats.specs.F64.{◌+f◌, ◌*f◌, one64}
use Rattle.floats.specs.Pick.{magnitude_of, largest_of}
use Rattle.flat.specs.Points.{Point, at, corners_of}
use Rattle.flat.specs.Flat.{newell_of}
use Rattle.planes.specs.Planes.{dot_of, offset_of}

-- 1e-12, the f64 nearest to it
abbrev pub trillionth64 : Float
trillionth64 = of_bits binary64 0x3d71_9799_812d_ea11

-- the tolerance for a normal: 1e-12 times the largest of its magnitudes and 1
unfoldable pub tolerance_of : Point → Float
tolerance_of n =
    trillionth64 *f largest_of (largest_of (largest_of (magnitude_of (at n 0)) (magnitude_of (at n 1))) (magnitude_of (at n 2))) one64

-- ---- a vertex and the plane n·x + d = 0
-- n·p + d
unfoldable pub level_of : Point → Float → Point → Float
level_of n d p = dot_of n p +f d

-- above the plane by more than the tolerance
unfoldable pub above : Point → Float → Float → Point → Bool
above n d eps p = lt eps (level_of n d p)

-- not above, and below it by more than the tolerance
unfoldable pub below : Point → Float → Float → Point → Bool
below n d eps p = not (lt eps (level_of n d p)) && lt (level_of n d p) (neg eps)

-- ---- the vertices that are no corners of a face
-- a face has the vertex with this number among its corners
unfoldable pub has_corner : List ℕ → ℕ → Bool
has_corner face v = any_of (eqb v) face

-- of the vertices `vs`, whose numbers run from v on, those that are no corners of the face, in order
unfoldable pub other_vertices_from : List ℕ → ℕ → List Point → List Point
other_vertices_from face v [] = []
other_vertices_from face v (p ∷ vs) =
    let rest = other_vertices_from face (v + 1) vs in
    cond (has_corner face v) rest (p ∷ rest)

abbrev pub other_vertices : List Point → List ℕ → List Point
other_vertices vs face = other_vertices_from face 0 vs

-- ---- the cell
-- a plane parts points: one is above it and one is below it
unfoldable pub plane_parts : Point → Float → Float → List Point → Bool
plane_parts n d eps ps = any_of (above n d eps) ps && any_of (below n d eps) ps

-- a face of 3 or more corners parts the vertices: its plane parts those that are no corners of it
unfoldable pub face_parts : List Point → List ℕ → Bool
face_parts vs face =
    let ps = corners_of vs face in
    let n = newell_of ps in
    leb 3 (length face) && plane_parts n (offset_of n (get_or ps 0 [])) (tolerance_of n) (other_vertices vs face)

-- compute_convexity: under 4 vertices yes; else no face parts the vertices
unfoldable pub compute_convexity_of : List Point → List (List ℕ) → Bool
compute_convexity_of vs faces = ltb (length vs) 4 || not (any_of (face_parts vs) faces)
