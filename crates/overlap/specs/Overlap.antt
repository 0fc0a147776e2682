-- convex_intersection_volume: each cell's faces clipped by the planes of the other, and the contributions of what is left.
use Rattle.std.specs.Prelude.{ℕ, Bool, ◌||◌, cond, List, [], ◌∷◌, ◌++◌, map, Float, Result, Ok, Err}
use Rattle.places.specs.Loops.{any_of}
use Rattle.places.specs.Ring.{fold_pairs}
use Rattle.floats.specs.F64.{◌+f◌, ◌/f◌, zero64, six64}
use Rattle.floats.specs.Pick.{magnitude_of}
use Rattle.flat.specs.Points.{Point, minus_of, corners_of, bounds_of}
use Rattle.volume.specs.Volume.{triple_of}
use Rattle.planes.specs.declared.Plane.{Plane}
use Rattle.planes.specs.Planes.{PlaneOrNoArea, no_area, has_plane, plane_of, planes_of, no_area_count, same_side, coplanar_opposite}
use Rattle.work_lists.specs.WorkLists.{Outcome, nothing, no_room, outline}
use Rattle.clip.specs.Clip.{clip_face_of}
use Rattle.work_lists.specs.declared.NoRoom.{NoRoom}
use Rattle.overlap.specs.declared.Measures.{Measures}
use Rattle.overlap.specs.declared.Shared.{Shared}
use Rattle.overlap.specs.Tolerances.{boxes_miss, measures_of}

-- ---- polygon_volume_contribution
-- from each point to the next
abbrev pub steps : List Point → List (Point × Point)
steps [] = []
steps (a ∷ []) = []
steps (a ∷ b ∷ ps) = (a, b) ∷ steps (b ∷ ps)

-- the sum v with the triple product of the triangle (p, a, b) about the reference point added
unfoldable pub add_fan : Point → Point → Point → Point → Float → Float
add_fan ref p a b v = v +f triple_of (minus_of 3 p ref) (minus_of 3 a ref) (minus_of 3 b ref)

-- the triangles from the first point of an outline to each side that does not touch it, summed, over 6
unfoldable pub contribution_of : Point → List Point → Float
contribution_of ref [] = zero64 /f six64
contribution_of ref (p ∷ ps) = fold_pairs (add_fan ref p) (steps ps) zero64 /f six64

-- ---- the coplanar skips
-- the plane p of the second cell skips a face of the first in this plane: it is the face's own plane, from the other side
abbrev pub first_skip : Plane → Float → Plane → Bool
first_skip plane tol p = coplanar_opposite plane p tol

-- the plane p of the first cell skips a face of the second in this plane: it is the face's own plane, from either side
abbrev pub second_skip : Plane → Float → Plane → Bool
second_skip plane tol p = coplanar_opposite p plane tol || same_side p plane tol

-- ---- what is left of the faces
-- the planes save those that are this plane, from the same side
unfoldable pub other_planes : Plane → Float → List Plane → List Plane
other_planes plane tol [] = []
other_planes plane tol (p ∷ ps) =
    let rest = other_planes plane tol ps in
    cond (same_side plane p tol) rest (p ∷ rest)

-- what is left of a face of the first cell, its corners ps: one of no area is clipped by all planes of the second; of any other nothing is
-- left where one of them skips it, and else it is clipped by those that are not its own
unfoldable pub first_patch : ℕ → Measures → List Plane → List Point → PlaneOrNoArea → Outcome
first_patch room m planes ps no_area = clip_face_of room m.eps planes ps
first_patch room m planes ps (has_plane p) =
    let left = clip_face_of room m.eps (other_planes p m.coplanar planes) ps in
    cond (any_of (first_skip p m.coplanar) planes) nothing left

-- what is left of a face of the second cell: it is clipped by all planes of the first, save that nothing is left where it has a plane and
-- one of them skips it
unfoldable pub second_patch : ℕ → Measures → List Plane → List Point → PlaneOrNoArea → Outcome
second_patch room m planes ps no_area = clip_face_of room m.eps planes ps
second_patch room m planes ps (has_plane p) =
    let left = clip_face_of room m.eps planes ps in
    cond (any_of (second_skip p m.coplanar) planes) nothing left

-- what is left of a face that is given by its numbers, by its corners and its plane or no area
abbrev pub of_face : (List Point → PlaneOrNoArea → Outcome) → List Point → List ℕ → Outcome
of_face patch vs face = let ps = corners_of vs face in patch ps (plane_of ps)

-- what is left of the first cell's faces, in their order
unfoldable pub first_patches : ℕ → Measures → List Point → List (List ℕ) → List Plane → List Outcome
first_patches room m vs faces planes = map (of_face (first_patch room m planes) vs) faces

-- what is left of the second cell's faces, in their order
unfoldable pub second_patches : ℕ → Measures → List Point → List (List ℕ) → List Plane → List Outcome
second_patches room m ws faces planes = map (of_face (second_patch room m planes) ws) faces

-- ---- their sum
-- the contributions added in order to the sum v; where a face had no room there is no sum.
-- An outline of 0 points reads as nothing left, as SCOPE 11 has it; none occurs here, for no face has 0 corners (refusal 5),
-- and a plane that cuts leaves at least 3 points (`patch_points` of proofs/Patches.antt)
unfoldable pub added_to : Point → Float → List Outcome → Result Float NoRoom
added_to ref v [] = Ok v
added_to ref v (nothing ∷ os) = added_to ref v os
added_to ref v (no_room ∷ os) = Err (record {})
added_to ref v (outline second [] ∷ os) = added_to ref v os
added_to ref v (outline second (p ∷ ps) ∷ os) = added_to ref (v +f contribution_of ref (p ∷ ps)) os

-- the magnitude of a sum
abbrev pub magnitude_of_sum : Result Float NoRoom → Result Float NoRoom
magnitude_of_sum (Ok v) = Ok (magnitude_of v)
magnitude_of_sum (Err e) = Err e

-- convex_intersection_volume_impl: the faces of the first cell before those of the second
unfoldable pub overlap_of : ℕ → List Point → List (List ℕ) → List Point → List (List ℕ) → Result Float NoRoom
overlap_of room vs faces ws other_faces =
    let m = measures_of vs ws in
    let of_first = first_patches room m vs faces (planes_of ws other_faces) in
    let of_second = second_patches room m ws other_faces (planes_of vs faces) in
    magnitude_of_sum (added_to m.reference zero64 (of_first ++ of_second))

-- the volume that two cells share: 0 where the boxes miss each other
unfoldable pub intersection_of : ℕ → List Point → List (List ℕ) → List Point → List (List ℕ) → Result Float NoRoom
intersection_of room vs faces ws other_faces =
    let overlap = overlap_of room vs faces ws other_faces in
    cond (boxes_miss (bounds_of 3 vs) (bounds_of 3 ws)) (Ok zero64) overlap

-- ---- and the faces of no area
-- a sum with how many faces of the first cell and of the second have no area; where there is no room there is nothing else
abbrev pub counted : Result Float NoRoom → ℕ → ℕ → Result Shared NoRoom
counted (Ok v) n k = Ok (record { volume = v; arealess = n; arealess2 = k })
counted (Err e) n k = Err e

-- convex_intersection_volume: the volume, and how many faces of each cell have no area, counted over all faces even where the boxes miss
unfoldable pub overlapped_of : ℕ → List Point → List (List ℕ) → List Point → List (List ℕ) → Result Shared NoRoom
overlapped_of room vs faces ws other_faces =
    counted (intersection_of room vs faces ws other_faces) (no_area_count vs faces) (no_area_count ws other_faces)
