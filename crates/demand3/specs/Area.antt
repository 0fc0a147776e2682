-- Request 14, 'The area is in the triangles': its sentences in the customer's words and order, then what a student asks next.
-- It holds of every list of points and every face, and speaks of the one cut, `cut_of`, that the contracts of `cut` and `volume` cite.
-- A triangle, a face and a ring that remains have one definition of the doubled area vector, `area` (exact/specs/Space.antt): the sum of
-- a × b over the sides. Its numbers are whole, coordinates scaled by 2 ^ 1074: of f64 coordinates nothing is rounded (`Exact`,
-- Demand3.antt). A coordinate that is not finite counts as 0, and so do all three of a corner that names no vertex.
use Rattle.std.specs.Prelude.{◌≡◌, List, [], ◌∷◌, ◌++◌, reverse, ℕ, ◌+◌, length, take, drop}
use Rattle.exact.specs.Sides.{runs}
use Rattle.exact.specs.Space.{V3, less, plus, opposite, cross, area, areas}
use Rattle.flat.specs.Points.{Point}
use Rattle.demand3.specs.Demand3.{pieces, rest, Stuck, Full, place_of}

-- ---- what the sentences speak of: vs are the vertices of a cell, and a face or ring is the list of its corners' vertex numbers.
-- From Demand3.antt: `pieces` are the triangles that a face gives, and `rest` is the ring that remains; `Full` says that a face of n ≥ 3
-- corners gives its n − 2, and `Stuck` that a ring of four or more has no corner to cut off; `place_of` is where a vertex is.

-- the doubled area vector of a ring, and the sum of those of triangles
abbrev pub area_of : List Point → List ℕ → V3
area_of vs ring = area (place_of vs) ring

abbrev pub areas_of : List Point → List (List ℕ) → V3
areas_of vs triangles = areas (place_of vs) triangles

-- the corner list started at place k: the corners from that place on, and then those before it; past the last place it is as it was
abbrev pub started_at : ℕ → List ℕ → List ℕ
started_at k face = drop k face ++ take k face

-- ---- request 14, of a face of these points
pub record AreaInTriangles (vs : List Point) (face : List ℕ) : Type 0 where
  -- 1. When a face gives n − 2 triangles, the exact sum of the triangles' doubled area vectors equals that of the face's sides,
  pub sentence1 : Full vs face → areas_of vs (pieces vs face) ≡ area_of vs face
  -- 2. and stays the same if the face's corner list starts at another corner, at any place k, provided that start is fully cut too.
  pub sentence2 : Full vs face → (k : ℕ) → Full vs (started_at k face)
      → areas_of vs (pieces vs (started_at k face)) ≡ areas_of vs (pieces vs face)
  -- 3. When it stops short, the remaining ring's sum makes up the difference. When it does not, no ring remains (`MadeUp`).
  pub sentence3 : plus (areas_of vs (pieces vs face)) (area_of vs (rest vs face)) ≡ area_of vs face

-- ---- what a student asks next
-- of the doubled area vector itself, whatever the ring: a triangle, a face, a ring that remains
pub record OneArea (vs : List Point) (ring : List ℕ) : Type 0 where
  -- it does not depend on the corner at which the list starts,
  pub start : (k : ℕ) → area_of vs (started_at k ring) ≡ area_of vs ring
  -- nor on the reference point: about p it is the sum of (a − p) × (b − p)
  pub about : (p : V3) → area (λ v. less (place_of vs v) p) ring ≡ area_of vs ring
  -- traced backward, the ring has the opposite vector
  pub backward : area_of vs (reverse ring) ≡ opposite (area_of vs ring)

-- of the triangle a, b, c it is (b − a) × (c − a), which by the schoolbook is as long as twice the triangle's area
abbrev pub OfTriangle : List Point → Type 0
OfTriangle vs =
    (a b c : ℕ) → area_of vs (a ∷ b ∷ c ∷ []) ≡ cross (less (place_of vs b) (place_of vs a)) (less (place_of vs c) (place_of vs a))

-- the triangles of a face traced backward have the opposite sum, provided that the face is fully cut both ways
abbrev pub BackwardTriangles : List Point → List ℕ → Type 0
BackwardTriangles vs face =
    Full vs face → Full vs (reverse face) → areas_of vs (pieces vs (reverse face)) ≡ opposite (areas_of vs (pieces vs face))

-- what remains of a face, in corners and in sides
pub record MadeUp (vs : List Point) (face : List ℕ) : Type 0 where
  -- where the face gives its full n − 2 triangles, no ring remains
  pub none : Full vs face → rest vs face ≡ []
  -- where the cut stops short, there is a triangle for each corner that does not remain
  pub corners : Stuck vs face (rest vs face) → length (pieces vs face) + length (rest vs face) ≡ length face
  -- the sides from i to j, less those from j to i, are as many over the triangles and the ring together as over the face: here in sums
  pub sides : (i j : ℕ) → runs i j (pieces vs face ++ rest vs face ∷ []) + runs j i (face ∷ [])
      ≡ runs j i (pieces vs face ++ rest vs face ∷ []) + runs i j (face ∷ [])
