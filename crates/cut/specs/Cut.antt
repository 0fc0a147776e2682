-- The cut of a face: its triangles in order, the ring that is left, and how many turn tests were made. A ring is a list of vertex numbers,
-- and so are its triangles; a corner's point is looked up.
-- What the code's contracts cite, what the worked rows compute and what demand 3 speaks of is `cut_of`, and by place `cut_by_place`.
use Rattle.std.specs.Prelude.{cond, ℕ, zero, suc, ◌+◌, ◌-◌, ◌≡◌, List, [], ◌∷◌, map, length, get_or, ltb, Float, Option, Some, None}
use Rattle.places.specs.Lists.{without}
use Rattle.places.specs.Ring.{places_below, ear_of}
use Rattle.flat.specs.Points.{Point, corners_of}
use Rattle.flat.specs.Flat.{newell_of, axis_of, points_of}
use Rattle.next_corner.specs.NextCorner.{direction_of, find_corner}
use Rattle.next_corner.specs.declared.Choice.{Choice}

pub record Cut : Type 0 where
  pub triangles : List (List ℕ)
  -- the ring at which the cutting stopped: none where it came to its end
  pub left : List ℕ
  -- how many times turn × direction was tested at a corner
  pub tests : ℕ

-- no triangle, no ring that is left, and no test
abbrev pub nothing : Cut
nothing = record { triangles = []; left = []; tests = 0 }

-- ---- a ring is cut, however the corner is chosen
-- the triangle (before, corner, after) at place k, and then the rest
abbrev pub clipped : ℕ → List ℕ → Cut → Cut
clipped k ring rest = record { triangles = ear_of k ring ∷ rest.triangles; left = rest.left; tests = rest.tests }

-- no corner is chosen: stop; corner k is: its triangle, and then what the ring without it gives
abbrev pub cut_with : Option ℕ → List ℕ → (List ℕ → Cut) → Cut
cut_with None ring go = record { triangles = []; left = ring; tests = 0 }
cut_with (Some k) ring go = clipped k ring (go (without k ring))

-- n tests, and then those of the cut
abbrev pub tested : ℕ → Cut → Cut
tested n cut = record { triangles = cut.triangles; left = cut.left; tests = n + cut.tests }

-- a ring of 3 corners and `more`: one of 3 is a triangle, untested; of a longer one the tests are those of the choice, and of what follows
unfoldable pub cut_ring : (List ℕ → Choice) → ℕ → List ℕ → Cut
cut_ring choose zero ring = record { triangles = ring ∷ []; left = []; tests = 0 }
cut_ring choose (suc more) ring = tested (choose ring).tests (cut_with (choose ring).corner ring (cut_ring choose more))

-- ---- a face is cut: the plane and the direction are those of the whole face, and are kept while the ring shrinks
-- the corner of the ring that is cut off, seen in that plane, and how many tests were made to choose it
unfoldable pub next_corner_of : List Point → ℕ → Float → List ℕ → Choice
next_corner_of vs axis dir ring = find_corner (points_of vs axis ring) dir

-- the face cut in that plane, by its own direction
unfoldable pub cut_in : List Point → ℕ → List ℕ → Cut
cut_in vs axis face = cut_ring (next_corner_of vs axis (direction_of (points_of vs axis face))) (length face - 3) face

-- the axis that a face is seen along, and its direction
unfoldable pub axis_for : List Point → List ℕ → ℕ
axis_for vs face = axis_of (newell_of (corners_of vs face))

unfoldable pub direction_for : List Point → List ℕ → Float
direction_for vs face = direction_of (points_of vs (axis_for vs face) face)

-- under 3 corners: nothing
unfoldable pub cut_of : List Point → List ℕ → Cut
cut_of vs face =
    let cut = cut_in vs (axis_for vs face) face in
    cond (ltb (length face) 3) nothing cut

-- ---- the same by place: a face may hold a vertex twice, and a place names one corner
-- the cut of a face, each corner by its place in it: the corners' points are taken for the vertices, and the places 0 to n − 1 for the face
unfoldable pub cut_by_place : List Point → List ℕ → Cut
cut_by_place vs face = cut_of (corners_of vs face) (places_below (length face))

-- the vertex numbers that stand at places of a face
unfoldable pub ring_at : List ℕ → List ℕ → List ℕ
ring_at face ks = map (λ k. get_or face k 0) ks

-- with the vertex number at each place looked up, the cut by place is `cut_of`: the same triangles, in order, the same ring left, and as
-- many tests
abbrev pub ByPlace : Type 0
ByPlace =
    (vs : List Point) (face : List ℕ) →
    let cut = cut_by_place vs face in
    cut_of vs face ≡ record { triangles = map (ring_at face) cut.triangles; left = ring_at face cut.left; tests = cut.tests }
