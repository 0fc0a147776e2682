-- What functions below the gatehouse ask of and promise each other; no contract of a public entry speaks of these.
use Rattle.std.specs.Prelude.{ℕ, ◌+◌, ◌-◌, ◌≤◌, List, ◌∷◌, Float, ◌≡◌, Bool, true, false, length, take, drop, Result}
use Rattle.places.specs.Limits.{most_corners, most_work_numbers}
use Rattle.floats.specs.Pick.{largest_of}
use Rattle.flat.specs.Points.{Point, vertices_of}
use Rattle.flat.specs.Steps.{Inside}
use Rattle.clip_step.specs.Doubled.{square_of}
use Rattle.planes.specs.declared.Plane.{Plane}
use Rattle.planes.specs.Planes.{PlaneOrNoArea, planes_of, no_area_count, in_fours}
use Rattle.work_lists.specs.WorkLists.{Outcome, shorter_of}
use Rattle.work_lists.specs.declared.NoRoom.{NoRoom}
use Rattle.overlap.specs.declared.Measures.{Measures}
use Rattle.overlap.specs.declared.Shared.{Shared}
use Rattle.overlap.specs.Overlap.{first_skip, second_skip, first_patch, second_patch, of_face, first_patches, second_patches, counted}

-- the larger of m and the sum of the squares of what p and c differ by
unfoldable pub farther_square : Point → Point → Float → Float
farther_square c p m = largest_of m (square_of p c)

-- ---- the two cells told apart: the second cell where the Bool is true, the first where it is false
-- whether a plane of the other cell skips a face
abbrev pub skip_of : Bool → Plane → Float → Plane → Bool
skip_of true = second_skip
skip_of false = first_skip

-- what is left of a face
abbrev pub patch_of : Bool → ℕ → Measures → List Plane → List Point → PlaneOrNoArea → Outcome
patch_of true = second_patch
patch_of false = first_patch

-- what is left of a face that is given by its numbers
abbrev pub face_patch : Bool → ℕ → Measures → List Point → List Plane → List ℕ → Outcome
face_patch second room m vs planes = of_face (patch_of second room m planes) vs

-- what is left of the cell's faces
abbrev pub patches_of : Bool → ℕ → Measures → List Point → List (List ℕ) → List Plane → List Outcome
patches_of true = second_patches
patches_of false = first_patches

-- ---- what the overlap wants: of a face that is to be clipped, and of its lists
-- a face that is to be clipped, the stored planes of the other cell, and the two work lists
pub record Ready (vs : List Point) (face : List ℕ) (planes first second : List Float) : Type 0 where
  pub inside : Inside vs face
  pub few_corners : length face ≤ most_corners
  pub few_planes : length planes ≤ 1024
  pub short_first : length first ≤ most_work_numbers
  pub short_second : length second ≤ most_work_numbers

-- how many points the shorter of two work lists holds
abbrev pub room_of : List Float → List Float → ℕ
room_of first second = shorter_of (length (vertices_of first)) (length (vertices_of second))

-- ---- a volume by two cells' points and faces, with how many faces of each have no area
abbrev pub both_counted : (List Point → List (List ℕ) → List Point → List (List ℕ) → Result Float NoRoom)
    → List Point → List (List ℕ) → List Point → List (List ℕ) → Result Shared NoRoom
both_counted volume vs faces ws other_faces =
    counted (volume vs faces ws other_faces) (no_area_count vs faces) (no_area_count ws other_faces)

-- ---- the planes of both cells in one list, those of the first before those of the second
-- the n numbers of the first cell's planes (false), or of the second's (true)
abbrev pub own_part : Bool → ℕ → List Float → List Float
own_part true n both = drop (length both - n) both
own_part false n both = take n both

-- and those of the other cell's
abbrev pub other_part : Bool → ℕ → List Float → List Float
other_part true n both = take (length both - n) both
other_part false n both = drop n both

-- the list has n numbers of the first cell's planes and then k of the second's
pub record Joint (n k : ℕ) (firsts seconds : List Plane) (both : List Float) : Type 0 where
  pub size : length both ≡ n + k
  pub of_first : in_fours (take n both) ≡ firsts
  pub of_second : in_fours (drop n both) ≡ seconds

-- the faces before this one have j of the planes `own` of a cell; the others are those of this face and of the faces after it, and where
-- `all` is true they are as many as these faces
pub record Next (vs : List Point) (face : List ℕ) (own : List Plane) (j : ℕ) (all : Bool) : Type 0 where
  pub later : List (List ℕ)
  pub so : drop j own ≡ planes_of vs (face ∷ later)
  pub as_many : all ≡ true → length (drop j own) ≡ length (face ∷ later)

-- n numbers of such a list are these planes of a cell, and the list `kept` has room for those of the other
pub record Stocked (second : Bool) (n : ℕ) (own : List Plane) (both kept : List Float) : Type 0 where
  pub fits : n ≤ length both
  pub own_planes : in_fours (own_part second n both) ≡ own
  pub few_others : length (other_part second n both) ≤ 1024
  pub room : length (other_part second n both) ≤ length kept
