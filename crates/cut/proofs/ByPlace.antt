-- The cut by place is the one cut: a place has the point of the vertex that stands there, so the places of a face go through the same
-- rings, corner for corner, as its vertex numbers do. So as many triangles are cut, as many corners are left, and as many tests are made.
use mathlib.Core.Path.{◌≡◌, refl, sym, ap, ◌∙◌}
use mathlib.Core.List.{List, [], ◌∷◌, map}
use mathlib.Core.Bool.{Bool, true, false, cond}
use Prim.Native.Nat.{ℕ, zero, suc, ◌-◌, ◌<◌}
use native.Mathlib.Omega.{arith}
use lib.Dec.{ltb}
use lib.ListN.{length, get_or, length-map}
use lib.Ieee.{Float, nan}
use Rattle.places.specs.Lists.{without}
use Rattle.places.specs.Ring.{places_below, prev_of, next_of, ear_of}
use Rattle.std.specs.Prelude.{Option, Some, None}
use Rattle.places.proofs.Lists.{map_at, each_head, each_tail, each_without}
use Rattle.places.proofs.Rings.{prev_below, next_below, length_places, place_at, places_below_lem}
use Rattle.std.specs.List.{flat_map}
use Rattle.places.specs.Lists.{Each}
use Rattle.places.specs.Stored.{joined}
use Rattle.places.proofs.Stored.{length_threes, threes_at, threes_joined}
use Rattle.flat.specs.Points.{Point, vertices_of, vertex_of, corners_of}
use Rattle.flat.specs.Flat.{point_of, points_of}
use Rattle.flat.specs.Steps.{Inside}
use Rattle.flat.proofs.Corners.{length_corners, corner_at}
use Rattle.next_corner.specs.NextCorner.{direction_of}
use Rattle.next_corner.specs.declared.Choice.{Choice}
use Rattle.cut.specs.Cut.{Cut, nothing, cut_with, tested, cut_ring, next_corner_of, cut_in}
use Rattle.cut.specs.Cut.{axis_for, cut_of, cut_by_place, ring_at, ByPlace}
use Rattle.cut.specs.Steps.{Within, InOrder, Shown}
use Rattle.cut.specs.declared.Counts.{Counts}
use Rattle.cut.proofs.Facts.{choice_below}
use Rattle.cut.proofs.Going.{ring_long, whole_ring, ring_without}

-- the places of a cut looked up in the face
abbrev looked_up : List ℕ → Cut → Cut
looked_up face cut = record { triangles = map (ring_at face) cut.triangles; left = ring_at face cut.left; tests = cut.tests }

-- the triangle at a place of a ring, looked up, is that of the ring looked up
ear_looked : (face : List ℕ) (k : ℕ) (ks : List ℕ) → k < length ks → ear_of k (ring_at face ks) ≡ ring_at face (ear_of k ks)
unfolding ear_of ring_at
ear_looked face k ks h =
    let look : ℕ → ℕ = λ i. get_or face i 0 in
    let n = length ks in
    let at : (i : ℕ) → i < n → get_or (map look ks) i 0 ≡ look (get_or ks i 0) = λ i l. map_at look ks i 0 0 l in
    rw (length-map ks look, at (prev_of k n) (prev_below k n h), at k h, at (next_of k n) (next_below k n h))

module _ (vs : List Point) (face : List ℕ) where
  -- ---- places of the face and the vertices that stand there have the same points, in space and in a plane
  corners_alike : (ks : List ℕ) → Within face ks → corners_of (corners_of vs face) ks ≡ corners_of vs (ring_at face ks)
  unfolding corners_of ring_at
  corners_alike [] w = refl
  corners_alike (k ∷ ks) w = rw (corner_at vs face k (each_head w), corners_alike ks (each_tail w))

  points_alike : (axis : ℕ) (ks : List ℕ) → Within face ks → points_of (corners_of vs face) axis ks ≡ points_of vs axis (ring_at face ks)
  unfolding points_of point_of ring_at
  points_alike axis [] w = refl
  points_alike axis (k ∷ ks) w = rw (corner_at vs face k (each_head w), points_alike axis ks (each_tail w))

  -- ---- so the same corner is chosen at every ring, and the two cuts run alike
  module _ (axis : ℕ) (dir : Float) where
    -- the choice among places, and the one among vertex numbers
    abbrev by_corner : List ℕ → Choice
    by_corner = next_corner_of (corners_of vs face) axis dir

    abbrev by_number : List ℕ → Choice
    by_number = next_corner_of vs axis dir

    choice_alike : (ks : List ℕ) → Within face ks → by_number (ring_at face ks) ≡ by_corner ks
    unfolding next_corner_of
    choice_alike ks w = rw (points_alike axis ks w)

    rings_alike : (more : ℕ) (ks : List ℕ) → Within face ks
        → cut_ring by_number more (ring_at face ks) ≡ looked_up face (cut_ring by_corner more ks)
    unfolding cut_ring ring_at
    rings_alike zero ks w = refl
    rings_alike (suc more) ks w =
        rw (choice_alike ks w) (ap (tested (by_corner ks).tests) (go (by_corner ks).corner refl (rings_alike more)))
      where
        go : (f : Option ℕ) → (by_corner ks).corner ≡ f
            → ((js : List ℕ) → Within face js → cut_ring by_number more (ring_at face js) ≡ looked_up face (cut_ring by_corner more js))
            → cut_with f (ring_at face ks) (cut_ring by_number more) ≡ looked_up face (cut_with f ks (cut_ring by_corner more))
        go None e ih = refl
        go (Some k) e ih =
            let below = choice_below (corners_of vs face) axis dir ks k e in
            rw (ear_looked face k ks below, ← ring_without face k ks, ih (without k ks) (each_without k ks w))

  -- ---- the whole face: its places are its own, and looked up in order they are the face
  places_within : Within face (places_below (length face))
  places_within = places_below_lem (length face)

  order : InOrder (places_below (length face))
  order k h = place_at (length face) k (omega (arith, length_places (length face)))

  pub places_ring : ring_at face (places_below (length face)) ≡ face
  places_ring = whole_ring face (places_below (length face)) order (length_places (length face))

  axis_alike : axis_for (corners_of vs face) (places_below (length face)) ≡ axis_for vs face
  unfolding axis_for
  axis_alike = rw (corners_alike (places_below (length face)) places_within, places_ring)

  whole_alike : (axis : ℕ) → cut_in vs axis face ≡ looked_up face (cut_in (corners_of vs face) axis (places_below (length face)))
  unfolding cut_in
  whole_alike axis =
      let ks = places_below (length face) in
      let more = length face - 3 in
      let dir = direction_of (points_of vs axis face) in
      let seen : points_of (corners_of vs face) axis ks ≡ points_of vs axis face = points_alike axis ks places_within ∙ rw places_ring in
      rw (seen, length_places (length face))
      (ap (cut_ring (by_number axis dir) more) (sym places_ring) ∙ rings_alike axis dir more ks places_within)

-- a face of fewer than three corners gives nothing, and none of it is looked up
pub by_place : ByPlace
unfolding cut_of cut_by_place ring_at
by_place vs face =
    rw (length_places (length face), axis_alike vs face, whole_alike vs face (axis_for vs face)) (go (ltb (length face) 3))
  where
    go : (b : Bool) →
        let cut = cut_in (corners_of vs face) (axis_for vs face) (places_below (length face)) in
        cond b nothing (looked_up face cut) ≡ looked_up face (cond b nothing cut)
    go true = refl
    go false = refl

-- ---- so the two cuts have as many triangles, take as many tests and leave as many corners
pub by_place_long : (vs : List Point) (face : List ℕ) → length (cut_of vs face).triangles ≡ length (cut_by_place vs face).triangles
by_place_long vs face = ap (λ c. length c.triangles) (by_place vs face) ∙ length-map (cut_by_place vs face).triangles (ring_at face)

pub by_place_tests : (vs : List Point) (face : List ℕ) → (cut_of vs face).tests ≡ (cut_by_place vs face).tests
by_place_tests vs face = ap (λ c. c.tests) (by_place vs face)

by_place_over : (vs : List Point) (face : List ℕ) → length (cut_of vs face).left ≡ length (cut_by_place vs face).left
by_place_over vs face = ap (λ c. length c.left) (by_place vs face) ∙ ring_long face (cut_by_place vs face).left

-- where one leaves none, so does the other; here by place
none_of_none : {A B : Type 0} (xs : List A) (ys : List B) → length xs ≡ length ys → xs ≡ [] → ys ≡ []
none_of_none xs [] e h = refl
none_of_none xs (y ∷ ys) e h = absurd (omega (arith, ap length h))

pub by_place_left : (vs : List Point) (face : List ℕ) → (cut_of vs face).left ≡ [] → (cut_by_place vs face).left ≡ []
by_place_left vs face h = none_of_none (cut_of vs face).left (cut_by_place vs face).left (by_place_over vs face) h

-- ---- a face whose corners' points and places are copied: the places are numbers of those points, and cut so it is cut by place
places_inside : (vs : List Point) (face : List ℕ) → Inside (corners_of vs face) (places_below (length face))
places_inside vs face = rw length_corners (places_within vs face)

-- the numbers of points, one point after the other, are read in threes as the points
flat_joined : (ps : List Point) → flat_map (λ p. p) ps ≡ joined ps
unfolding joined
flat_joined [] = refl
flat_joined (p ∷ ps) = rw (flat_joined ps)

vertex_long : (coords : List Float) (v : ℕ) → v < length (vertices_of coords) → length (vertex_of (vertices_of coords) v) ≡ 3
vertex_long coords v h = ap length (threes_at coords v nan (omega (arith, length_threes coords)))

corners_long : (coords : List Float) (face : List ℕ) → Inside (vertices_of coords) face
    → Each [] (λ p. length p ≡ 3) (corners_of (vertices_of coords) face)
corners_long coords face inside = record { holds = go }
  where
    go : (k : ℕ) → k < length (corners_of (vertices_of coords) face) → length (get_or (corners_of (vertices_of coords) face) k []) ≡ 3
    go k h =
        let g : k < length face = omega (arith, length_corners (vertices_of coords) face) in
        rw (corner_at (vertices_of coords) face k g) (vertex_long coords (get_or face k 0) (inside.holds k g))

-- so the numbers of the corners' points, laid down one point after the other, are read as these points
pub copied : {points : List Point} {ps : List Float} (coords : List Float) (face : List ℕ) → Inside (vertices_of coords) face
    → points ≡ corners_of (vertices_of coords) face → ps ≡ flat_map (λ p. p) points
    → vertices_of ps ≡ corners_of (vertices_of coords) face
copied {points} coords face inside p f =
    rw (f, flat_joined points, p) (threes_joined (corners_of (vertices_of coords) face) (corners_long coords face inside))

module _ {ps : List Point} {ks : List ℕ} {n : ℕ} (vs : List Point) (face : List ℕ) (p : ps ≡ corners_of vs face) (k : ks ≡ places_below n)
    (many : n ≡ length face) where
  pub copied_inside : Inside ps ks
  copied_inside = rw (p, k, many) (places_inside vs face)

  pub copied_shown : {r : Counts} {out out' : List (List ℕ)} → Shown (cut_of ps ks) r out out' → Shown (cut_by_place vs face) r out out'
  unfolding cut_by_place
  copied_shown s = rw (← p, ← many, ← k) s
