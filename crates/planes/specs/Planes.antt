-- Planes: the plane of a face or that it has no area, the distance of a point, when two planes are the same, and planes as they are stored.
use Rattle.std.specs.Prelude.{ℕ, Bool, false, ◌&&◌, cond, List, [], ◌∷◌, map, get_or, Float}
use Rattle.std.specs.Float.{binary64}
use Rattle.std.specs.Float.Ieee.{of_bits, neg, eq, le}
use Rattle.places.specs.Loops.{one_if, count_of}
use Rattle.floats.specs.F64.{◌+f◌, ◌-f◌, ◌*f◌, ◌/f◌, zero64, one64}
use Rattle.floats.specs.Pick.{magnitude_of}
use Rattle.hypot.specs.Hypot.{hypot_of}
use Rattle.flat.specs.Points.{Point, at, point_by, corners_of}
use Rattle.flat.specs.Flat.{newell_of}
use Rattle.planes.specs.declared.Plane.{Plane}

-- n · p
unfoldable pub dot_of : Point → Point → Float
dot_of n p = at n 0 *f at p 0 +f at n 1 *f at p 1 +f at n 2 *f at p 2

-- face_plane: the offset of the plane n · x + d = 0 through p
unfoldable pub offset_of : Point → Point → Float
offset_of n p = neg (dot_of n p)

-- the norm of n: hypot(hypot(x, y), z)
abbrev pub norm_of : Point → Float
norm_of n = hypot_of binary64 (hypot_of binary64 (at n 0) (at n 1)) (at n 2)

-- the plane n · x + d = 0 with its normal brought to length 1: each part times 1 / norm, and the offset on the other side
unfoldable pub unit_plane : Point → Float → Plane
unit_plane n d =
    let inv = one64 /f norm_of n in
    record { n = point_by 3 (λ k. at n k *f inv); d = neg d *f inv }

-- the plane of a face's points by their Newell sums, and the offset of the first
unfoldable pub newell_plane : List Point → Plane
newell_plane ps = unit_plane (newell_of ps) (offset_of (newell_of ps) (get_or ps 0 []))

-- ---- a plane, or no area
-- three sums are all 0; −0 counts as 0
unfoldable pub all_zero : Point → Bool
all_zero n = eq (at n 0) zero64 && (eq (at n 1) zero64 && eq (at n 2) zero64)

-- a face has no area exactly when its three computed Newell sums are all 0
unfoldable pub has_no_area : List Point → Bool
has_no_area ps = all_zero (newell_of ps)

-- what plane_of_face answers of a face: it has no area, or its plane
pub data PlaneOrNoArea : Type 0 where
  no_area : PlaneOrNoArea
  has_plane : Plane → PlaneOrNoArea

-- plane_of_face: no plane where the face has no area
unfoldable pub plane_of : List Point → PlaneOrNoArea
plane_of ps = cond (has_no_area ps) no_area (has_plane (newell_plane ps))

-- planes with that of one more face before them, if it has one
abbrev pub with_plane : PlaneOrNoArea → List Plane → List Plane
with_plane no_area planes = planes
with_plane (has_plane p) planes = p ∷ planes

-- the planes of the faces that have area, in order
unfoldable pub planes_of : List Point → List (List ℕ) → List Plane
planes_of vs [] = []
planes_of vs (face ∷ faces) = with_plane (plane_of (corners_of vs face)) (planes_of vs faces)

-- no_area_faces: for each face 1 where it has no area, else 0
unfoldable pub no_area_faces : List Point → List (List ℕ) → List ℕ
no_area_faces vs faces = map (λ face. one_if (has_no_area (corners_of vs face))) faces

-- how many faces have no area
unfoldable pub no_area_count : List Point → List (List ℕ) → ℕ
no_area_count vs faces = count_of (λ face. has_no_area (corners_of vs face)) faces

-- how far p is beyond a plane: n · p − d
unfoldable pub distance_of : Plane → Point → Float
distance_of plane p = dot_of plane.n p -f plane.d

-- 1e-10
abbrev slant : Float
slant = of_bits binary64 0x3ddb_7cdf_d9d7_bdbb

-- plane_same_side: the normals point the same way and the offsets agree
unfoldable pub same_side : Plane → Plane → Float → Bool
same_side a b tol = cond (le (dot_of a.n b.n) (one64 -f slant)) false (le (magnitude_of (a.d -f b.d)) tol)

-- plane_coplanar_opposite: the normals point opposite ways and the offsets agree
unfoldable pub coplanar_opposite : Plane → Plane → Float → Bool
coplanar_opposite a b tol = cond (le (neg one64 +f slant) (dot_of a.n b.n)) false (le (magnitude_of (a.d +f b.d)) tol)

-- ---- planes as they are stored
-- the planes of a list that is stored in fours, normal first; one to three numbers over make no plane
unfoldable pub in_fours : List Float → List Plane
in_fours [] = []
in_fours (a ∷ []) = []
in_fours (a ∷ b ∷ []) = []
in_fours (a ∷ b ∷ c ∷ []) = []
in_fours (a ∷ b ∷ c ∷ d ∷ l) = record { n = a ∷ b ∷ c ∷ []; d = d } ∷ in_fours l
