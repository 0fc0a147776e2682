-- No turn is a NaN, since it is finite: coordinates are at most 2 ^ 40 in magnitude, so their differences are at most 2 ^ 41, the products
-- of these at most 2 ^ 82, and a turn at most 2 ^ 83. So the two rules agree at every corner, choose the same one, and make the same cut.
use mathlib.Core.Path.{◌≡◌, refl, ap}
use mathlib.Core.Bool.{Bool, true, false, not, cond}
use mathlib.Core.List.{List, [], ◌∷◌}
use Prim.Native.Nat.{ℕ, zero, suc, ◌+◌, ◌-◌, ◌*◌, ◌/◌, ◌<◌, ◌≤◌}
use native.Mathlib.Omega.{arith}
use lib.Dec.{eqb, ltb}
use lib.ListN.{length, get_or, length-map}
use lib.Seq.{slice}
use lib.Ieee.{Float, nan, binary64, neg, lt, le, is_nan}
use Rattle.places.specs.Loops.{first_from}
use Rattle.places.specs.Lists.{without}
use Rattle.places.specs.Ring.{before, after, prev_of, next_of}
use Rattle.std.specs.Prelude.{Option, Some, None}
use Rattle.places.proofs.Lists.{map_at, each_without, each_slice}
use Rattle.places.proofs.Rings.{prev_below, next_below}
use Rattle.places.proofs.Stored.{length_threes, threes_at}
use Rattle.floats.specs.F64.{◌-f◌, ◌*f◌, zero64, one64}
use Rattle.floats.proofs.Within.{Within, within_neg, within_sub, within_mul, within_one, within_number, at_least_zero}
use Rattle.flat.specs.Points.{Point, at, vertices_of}
use Rattle.flat.specs.Steps.{Inside}
use Rattle.flat.specs.Flat.{cross2_of, project2_of, point_of, points_of, summed_area_of}
use Rattle.next_corner.specs.NextCorner.{direction_of, turns_of, turns_at, ear_at, find_ear, find_turn, find_corner, choice_by}
use Rattle.next_corner.specs.declared.Choice.{Choice}
use Rattle.cut.specs.Cut.{nothing, cut_with, clipped, tested, cut_ring, next_corner_of, cut_in, axis_for, direction_for, cut_of}
use Rattle.cell.specs.Faces.{faces_of}
use Rattle.cell.specs.Refusals.{number_refused}
use Rattle.cell.proofs.Faces.{length_faces, face_at}
use Rattle.cell.proofs.Refusals.{number_within, sound, tame}
use Rattle.demand3.specs.Turns.{turn_at, NoNanTurn, NoNanTurns, rust_ear_at, rust_find_corner, rust_next_corner_of, rust_cut_of, SameCut}
use Rattle.demand3.specs.Turns.{SameCuts, SameCellCuts}

-- ---- a point of the plane with two such coordinates
record Near (p : Point) : Type 0 where
  x : Within 40 (at p 0)
  y : Within 40 (at p 1)

near_plane : (x y z : Float) (axis : ℕ) → Within 40 x → Within 40 y → Within 40 z → Near (project2_of (x ∷ y ∷ z ∷ []) axis)
unfolding project2_of
near_plane x y z axis X Y Z = go (eqb axis 0) (eqb axis 1)
  where
    go : (a b : Bool) → Near (cond a (y ∷ z ∷ []) (cond b (x ∷ z ∷ []) (x ∷ y ∷ [])))
    go true b = record { x = Y; y = Z }
    go false true = record { x = X; y = Z }
    go false false = record { x = X; y = Y }

-- the turn of three
minus_within : (p q : Float) → Within 40 p → Within 40 q → Within 41 (p -f q)
minus_within p q P Q = within_sub binary64 p q 40 (omega arith) P Q

times_within : (p q : Float) → Within 41 p → Within 41 q → Within 82 (p *f q)
times_within p q P Q = within_mul binary64 p q 41 41 (omega arith) P Q

cross_within : (a b c : Point) → Near a → Near b → Near c → Within 83 (cross2_of a b c)
unfolding cross2_of
cross_within a b c A B C =
    within_sub binary64 ((at b 0 -f at a 0) *f (at c 1 -f at a 1)) ((at b 1 -f at a 1) *f (at c 0 -f at a 0)) 82 (omega arith)
    (times_within _ _ (minus_within _ _ B.x A.x) (minus_within _ _ C.y A.y))
    (times_within _ _ (minus_within _ _ B.y A.y) (minus_within _ _ C.x A.x))

-- a direction is 1 or −1, whatever the area is
direction_within : (outline : List Point) → Within 0 (direction_of outline)
unfolding direction_of
direction_within outline = go (le zero64 (summed_area_of outline))
  where
    go : (b : Bool) → Within 0 (cond b one64 (neg one64))
    go true = within_one
    go false = within_neg one64 0 within_one

-- ---- two rules that agree
-- at each place: they find the same first place
first_same : (p q : ℕ → Bool) (left i : ℕ) → ((k : ℕ) → i ≤ k → k < i + left → p k ≡ q k) → first_from p left i ≡ first_from q left i
unfolding first_from
first_same p q zero i h = refl
first_same p q (suc left) i h =
    rw (h i (omega arith) (omega arith), first_same p q left (i + 1) (λ k a b. h k (omega arith) (omega arith)))

-- on each ring of vertices: they make the same cut, since a ring without a corner is still one of vertices
ring_same : (vs : List Point) (p q : List ℕ → Choice) → ((ring : List ℕ) → Inside vs ring → p ring ≡ q ring)
    → (more : ℕ) (ring : List ℕ) → Inside vs ring → cut_ring p more ring ≡ cut_ring q more ring
unfolding cut_ring
ring_same vs p q same zero ring inside = refl
ring_same vs p q same (suc more) ring inside =
    rw (same ring inside) (ap (tested (q ring).tests) (go (q ring).corner (ring_same vs p q same more)))
  where
    go : (f : Option ℕ) → ((r : List ℕ) → Inside vs r → cut_ring p more r ≡ cut_ring q more r)
        → cut_with f ring (cut_ring p more) ≡ cut_with f ring (cut_ring q more)
    go None ih = refl
    go (Some k) ih = ap (clipped k ring) (ih (without k ring) (each_without k ring inside))

module _ (coords : List Float) (t : number_refused coords ≡ false) where
  abbrev vs : List Point
  vs = vertices_of coords

  near_vertex : (axis v : ℕ) → v < length vs → Near (point_of vs axis v)
  unfolding point_of
  near_vertex axis v h =
      let n : v < length coords / 3 = omega (arith, length_threes coords) in
      let x = number_within coords t (v * 3) (omega arith) in
      let y = number_within coords t (v * 3 + 1) (omega arith) in
      let z = number_within coords t (v * 3 + 2) (omega arith) in
      rw (threes_at coords v nan n) (near_plane _ _ _ axis x y z)

  -- ---- a ring in the plane, with a direction
  module _ (axis : ℕ) (ring : List ℕ) (inside : Inside vs ring) (dir : Float) (d : Within 0 dir) where
    abbrev ps : List Point
    ps = points_of vs axis ring

    length_ps : length ps ≡ length ring
    unfolding points_of
    length_ps = length-map ring (point_of vs axis)

    near_corner : (k : ℕ) → k < length ps → Near (get_or ps k [])
    unfolding points_of
    near_corner k h =
        let l : k < length ring = omega (arith, length_ps) in
        rw (map_at (point_of vs axis) ring k 0 [] l) (near_vertex axis (get_or ring k 0) (inside.holds k l))

    -- no turn is a NaN,
    turn_number : (k : ℕ) → k < length ps → is_nan (turn_at ps dir k) ≡ false
    turn_number k h =
        let a = near_corner (prev_of k (length ps)) (prev_below k (length ps) h) in
        let c = near_corner (next_of k (length ps)) (next_below k (length ps) h) in
        let turn = cross_within (before [] k ps) (get_or ps k []) (after [] k ps) a (near_corner k h) c in
        within_number (turn_at ps dir k) 83 (within_mul binary64 _ dir 83 0 (omega arith) turn d)

    -- so the two rules agree at each corner,
    turn_same : (k : ℕ) → k < length ps → turns_at ps dir k ≡ not (lt (turn_at ps dir k) zero64)
    unfolding turns_at turns_of
    turn_same k h = at_least_zero (turn_at ps dir k) (turn_number k h)

    no_nan_next : NoNanTurn vs axis ring dir
    no_nan_next = record {
      number = λ k h. turn_number k (omega (arith, length_ps));
      same = λ k h. turn_same k (omega (arith, length_ps));
    }

    ear_same : (k : ℕ) → k < length ps → rust_ear_at ps dir k ≡ ear_at ps dir k
    unfolding rust_ear_at ear_at
    ear_same k h = rw (turn_same k h) (go (lt (turn_at ps dir k) zero64) _)
      where
        go : (less free : Bool) → cond less false free ≡ cond (not less) free false
        go true free = refl
        go false free = refl

    -- and choose the same one
    choose_same : rust_find_corner ps dir ≡ find_corner ps dir
    unfolding rust_find_corner find_corner find_ear
    choose_same =
        ap (λ (f : Option ℕ). choice_by (length ps) f (find_turn ps dir))
        (first_same (rust_ear_at ps dir) (ear_at ps dir) (length ps) 0 (λ k a b. ear_same k (omega arith)))

  -- ---- the cut of a face
  choice_same : (face ring : List ℕ) → Inside vs ring
      → rust_next_corner_of vs face ring ≡ next_corner_of vs (axis_for vs face) (direction_for vs face) ring
  unfolding next_corner_of direction_for
  choice_same face ring inside =
      choose_same (axis_for vs face) ring inside (direction_for vs face) (direction_within (points_of vs (axis_for vs face) face))

  cut_same : (face : List ℕ) → Inside vs face → SameCut vs face
  unfolding rust_cut_of cut_of cut_in direction_for
  cut_same face inside =
      let choice = next_corner_of vs (axis_for vs face) (direction_for vs face) in
      ap (cond (ltb (length face) 3) nothing) (ring_same vs (rust_next_corner_of vs face) choice (choice_same face)
      (length face - 3) face inside)

-- ---- the theorems
pub no_nan_turns : (coords : List Float) → NoNanTurns coords
no_nan_turns coords t axis ring outline inside = no_nan_next coords t axis ring inside (direction_of outline) (direction_within outline)

pub same_cuts : (coords : List Float) → SameCuts coords
same_cuts coords t face inside = cut_same coords t face inside

pub same_cell_cuts : (coords : List Float) (corners ends : List ℕ) → SameCellCuts coords corners ends
same_cell_cuts coords corners ends query asked e = record { holds = go }
  where
    inside : Inside (vertices_of coords) corners
    inside = (sound coords corners ends query asked e).inside

    go : (k : ℕ) → k < length (faces_of corners ends) → SameCut (vertices_of coords) (get_or (faces_of corners ends) k [])
    go k h =
        let l : k < length ends = omega (arith, length_faces corners ends) in
        let from = get_or (0 ∷ ends) k 0 in
        let end = get_or ends k 0 in
        rw (face_at corners ends k l)
        (same_cuts coords (tame coords corners ends query asked e) (slice from end corners) (each_slice from end corners inside))
