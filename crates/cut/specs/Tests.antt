-- Request 10, 'How long can one face take?': what is proved of the tests that a cut counts, and that counting them changed no triangle.
use Rattle.std.specs.Prelude.{◌≡◌, cond, List, [], ◌∷◌, ℕ, zero, suc, ◌+◌, ◌-◌, ◌*◌, ◌≤◌, ltb, length, Float, Some, None}
use Rattle.places.specs.Lists.{without}
use Rattle.places.specs.Ring.{ear_of}
use Rattle.flat.specs.Points.{Point}
use Rattle.flat.specs.Flat.{points_of}
use Rattle.next_corner.specs.NextCorner.{find_ear, find_turn, or_else}
use Rattle.next_corner.specs.declared.Choice.{Choice}
use Rattle.cut.specs.Cut.{Cut, nothing, cut_ring, next_corner_of, axis_for, direction_for, cut_of}

-- ---- 'at most n² + n − 12 for n ≥ 3, and 0 below'
abbrev pub most_tests : ℕ → ℕ
most_tests n = cond (ltb n 3) 0 (n * n + n - 12)

-- of every list of points and every face
abbrev pub TestsWithin : Type 0
TestsWithin = (vs : List Point) (face : List ℕ) → (cut_of vs face).tests ≤ most_tests (length face)

-- ---- the triangles and the ring are what they were: each field is a line of the cut as it stood before tests were counted
-- the triangles and the ring alone
abbrev without_tests : Cut → List (List ℕ) × List ℕ
without_tests cut = (cut.triangles, cut.left)

pub record AsBefore : Type 0 where
  -- the corner is that of the first pass, failing that of the second
  pub corner : (vs : List Point) (axis : ℕ) (dir : Float) (ring : List ℕ) →
      let ps = points_of vs axis ring in
      (next_corner_of vs axis dir ring).corner ≡ or_else (find_ear ps dir) (find_turn ps dir)
  -- by whatever choice: a ring of 3 is a triangle; where no corner is chosen the ring is left; and a corner that is chosen gives its
  -- triangle, before what the ring without it gives
  pub three : (choose : List ℕ → Choice) (ring : List ℕ) → without_tests (cut_ring choose zero ring) ≡ (ring ∷ [], [])
  pub none : (choose : List ℕ → Choice) (more : ℕ) (ring : List ℕ) → (choose ring).corner ≡ None
      → without_tests (cut_ring choose (suc more) ring) ≡ ([], ring)
  pub some : (choose : List ℕ → Choice) (more k : ℕ) (ring : List ℕ) → (choose ring).corner ≡ Some k →
      let rest = without_tests (cut_ring choose more (without k ring)) in
      without_tests (cut_ring choose (suc more) ring) ≡ (ear_of k ring ∷ rest.0, rest.1)
  -- a face under 3 corners gives nothing; any other is its own first ring, cut in its own plane and direction
  pub whole : (vs : List Point) (face : List ℕ) →
      let cut = cut_ring (next_corner_of vs (axis_for vs face) (direction_for vs face)) (length face - 3) face in
      cut_of vs face ≡ cond (ltb (length face) 3) nothing cut
