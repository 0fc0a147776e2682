-- What is left of a face, for `patch`, `first_patch` and `second_patch`: of one of no area what clipping by all planes of the other cell
-- leaves; of any other nothing where a plane of the other cell skips it, and else what clipping leaves. And that this is never an outline
-- of 0 points.
use mathlib.Core.Path.{◌≡◌, refl}
use mathlib.Core.Bool.{Bool, true, false, cond}
use mathlib.Core.List.{List}
use Prim.Native.Nat.{ℕ, ◌*◌, ◌-◌, ◌<◌}
use native.Mathlib.Omega.{arith}
use lib.ListN.{length, take}
use lib.Ieee.{Float}
use Rattle.std.specs.Prelude.{Option, Some, None, Result, Ok}
use Rattle.places.specs.Loops.{any_of}
use Rattle.places.proofs.Stored.{length_threes}
use Rattle.flat.specs.Points.{Point}
use Rattle.planes.specs.declared.Plane.{Plane}
use Rattle.planes.specs.Planes.{PlaneOrNoArea, no_area, has_plane, in_fours, plane_of}
use Rattle.planes.specs.Steps.{plane_if}
use Rattle.planes.proofs.Faces.{answered_plane, answered_no_area}
use Rattle.planes.proofs.Stored.{take_fours}
use Rattle.work_lists.specs.declared.NoRoom.{NoRoom}
use Rattle.work_lists.specs.declared.Outline.{Outline}
use Rattle.work_lists.specs.WorkLists.{nothing}
use Rattle.work_lists.specs.Steps.{Ended}
use Rattle.clip.specs.Clip.{clip_face_of}
use Rattle.clip.proofs.Points.{LeftPoints, left_nothing, left_either, clip_points}
use Rattle.overlap.specs.declared.Measures.{Measures}
use Rattle.overlap.specs.Overlap.{other_planes, first_patch, second_patch}
use Rattle.overlap.specs.Steps.{skip_of, patch_of, room_of}

-- the room goes by the lengths of the two work lists
pub same_room : (a b a₀ b₀ : List Float) → length a ≡ length a₀ → length b ≡ length b₀ → room_of a b ≡ room_of a₀ b₀
same_room a b a₀ b₀ e f = rw (length_threes a, length_threes b, length_threes a₀, length_threes b₀, e, f)

-- the planes by which a face is clipped: of the second cell (true) by all of the first, of the first by the others
abbrev pub clippers : Bool → Plane → Float → List Plane → List Plane
clippers true plane tol planes = planes
clippers false plane tol planes = other_planes plane tol planes

-- what is left of a face of no area, and of one with a plane: nothing where it is skipped
patch_no_area : (second : Bool) (room : ℕ) (m : Measures) (planes : List Plane) (ps : List Point)
    → patch_of second room m planes ps no_area ≡ clip_face_of room m.eps planes ps
unfolding first_patch second_patch
patch_no_area true room m planes ps = refl
patch_no_area false room m planes ps = refl

patch_is : (second : Bool) (room : ℕ) (m : Measures) (planes : List Plane) (ps : List Point) (own : Plane)
    → patch_of second room m planes ps (has_plane own)
    ≡ cond (any_of (skip_of second own m.coplanar) planes) nothing
    (clip_face_of room m.eps (clippers second own m.coplanar planes) ps)
unfolding first_patch second_patch
patch_is true room m planes ps own = refl
patch_is false room m planes ps own = refl

-- of a face that has corners never an outline of 0 points is left
pub patch_points : (second : Bool) (room : ℕ) (m : Measures) (planes : List Plane) (ps : List Point) (own : PlaneOrNoArea) → 0 < length ps
    → LeftPoints (patch_of second room m planes ps own)
patch_points second room m planes ps no_area h = rw (patch_no_area second room m planes ps) (clip_points room m.eps planes ps h)
patch_points second room m planes ps (has_plane own) h =
    let tol = m.coplanar in
    let clipped = clip_points room m.eps (clippers second own tol planes) ps h in
    rw (patch_is second room m planes ps own) (left_either (any_of (skip_of second own tol) planes) left_nothing clipped)

-- ---- a face with a plane, by whether it was found to be skipped
module _ {a b : List Point} {skipped : Bool} (other : Bool) (room : ℕ) (m : Measures) (planes : List Plane) (ps : List Point) (own : Plane)
    (asked : skipped ≡ any_of (skip_of other own m.coplanar) planes) where
  pub patch_skipped : skipped ≡ true → Ended (patch_of other room m planes ps (has_plane own)) (Ok None) a b
  patch_skipped e = rw (patch_is other room m planes ps own, ← asked, e) (record { answer = refl; stands = refl })

  pub patch_clipped : {r : Result (Option Outline) NoRoom} → skipped ≡ false
      → Ended (clip_face_of room m.eps (clippers other own m.coplanar planes) ps) r a b
      → Ended (patch_of other room m planes ps (has_plane own)) r a b
  patch_clipped e q = rw (patch_is other room m planes ps own, ← asked, e) q

-- ---- a face by its plane or nothing, as the code answers it
module _ {a b : List Point} {r : Result (Option Outline) NoRoom} (other : Bool) (room : ℕ) (m : Measures) (planes : List Plane)
    (ps : List Point) where
  pub patch_without_plane : None ≡ plane_if (plane_of ps) → Ended (clip_face_of room m.eps planes ps) r a b
      → Ended (patch_of other room m planes ps (plane_of ps)) r a b
  patch_without_plane is q = rw (answered_no_area (plane_of ps) is, patch_no_area other room m planes ps) q

  pub patch_with_plane : {own : Plane} → Some own ≡ plane_if (plane_of ps) → Ended (patch_of other room m planes ps (has_plane own)) r a b
      → Ended (patch_of other room m planes ps (plane_of ps)) r a b
  patch_with_plane is q = rw (answered_plane (plane_of ps) is) q

-- ---- the planes that were laid down are those of the list's front
pub first_planes : (n : ℕ) (l : List Float) → in_fours (take (n * 4) l) ≡ take n (in_fours l)
first_planes n l =
    let e : n * 4 ≡ 4 * n = omega arith in
    rw e (take_fours n l)

pub front_planes : (n : ℕ) (l : List Float) → in_fours (take (n * 4 - 0) l) ≡ take n (in_fours l)
front_planes n l =
    let e : n * 4 - 0 ≡ n * 4 = omega arith in
    rw e (first_planes n l)
