-- The volume that two cells share, as it was defined before a face could have no area: every face had a plane, that of its Newell sums,
-- whose parts were all NaN where these were all 0, and the planes of all faces clipped. It is kept as the reference for `same_bits`.
use Prim.Native.Nat.{ℕ}
use mathlib.Core.Bool.{cond}
use mathlib.Core.List.{List, ◌++◌, map}
use Rattle.std.specs.Prelude.{Float, Result, Ok}
use Rattle.places.specs.Loops.{any_of}
use Rattle.floats.specs.F64.{zero64}
use Rattle.flat.specs.Points.{Point, corners_of, bounds_of}
use Rattle.planes.specs.declared.Plane.{Plane}
use Rattle.planes.specs.Planes.{newell_plane}
use Rattle.work_lists.specs.WorkLists.{Outcome, nothing}
use Rattle.work_lists.specs.declared.NoRoom.{NoRoom}
use Rattle.clip.specs.Clip.{clip_face_of}
use Rattle.overlap.specs.declared.Measures.{Measures}
use Rattle.overlap.specs.Tolerances.{boxes_miss, measures_of}
use Rattle.overlap.specs.Overlap.{first_skip, second_skip, other_planes, added_to, magnitude_of_sum}

-- the planes of all faces, in order
unfoldable pub former_planes : List Point → List (List ℕ) → List Plane
former_planes vs faces = map (λ face. newell_plane (corners_of vs face)) faces

-- what was left of a face of the first cell, its corners ps
unfoldable pub former_first : ℕ → Measures → List Plane → List Point → Outcome
former_first room m planes ps =
    let plane = newell_plane ps in
    let left = clip_face_of room m.eps (other_planes plane m.coplanar planes) ps in
    cond (any_of (first_skip plane m.coplanar) planes) nothing left

-- what was left of a face of the second cell
unfoldable pub former_second : ℕ → Measures → List Plane → List Point → Outcome
former_second room m planes ps =
    let plane = newell_plane ps in
    let left = clip_face_of room m.eps planes ps in
    cond (any_of (second_skip plane m.coplanar) planes) nothing left

-- the volume, before the boxes are asked
unfoldable pub former_overlap : ℕ → List Point → List (List ℕ) → List Point → List (List ℕ) → Result Float NoRoom
former_overlap room vs faces ws other_faces =
    let m = measures_of vs ws in
    let of_first = map (λ face. former_first room m (former_planes ws other_faces) (corners_of vs face)) faces in
    let of_second = map (λ face. former_second room m (former_planes vs faces) (corners_of ws face)) other_faces in
    magnitude_of_sum (added_to m.reference zero64 (of_first ++ of_second))

-- the volume: 0 where the boxes missed each other
unfoldable pub former_intersection : ℕ → List Point → List (List ℕ) → List Point → List (List ℕ) → Result Float NoRoom
former_intersection room vs faces ws other_faces =
    let overlap = former_overlap room vs faces ws other_faces in
    cond (boxes_miss (bounds_of 3 vs) (bounds_of 3 ws)) (Ok zero64) overlap
