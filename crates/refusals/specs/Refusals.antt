-- Whether a public entry's input passes, or why it is refused. For a cell it is `refusal_of` of the crate cell; here stand lists of
-- points, the move to a local origin, what is asked of a cell's faces, the faces of no area, triangles, triangles that are checked,
-- turning the backward faces, `point_in_phed`, clipping, the overlap and the report's query points.
-- The refusal 6 of clipping and the overlaps, which is found on the way, is not among these.
use Rattle.std.specs.Prelude.{Bool, not, ◌&&◌, ◌||◌, List, [], ◌∷◌, ℕ, ◌-◌, ◌%◌, leb, ltb, eqb, length, get_or, Float, Ok, Err}
use Rattle.places.specs.Limits.{most_marked_corners, most_queries, most_planes, most_checked_corners, most_checked_triangles}
use Rattle.places.specs.Limits.{most_plane_points}
use Rattle.places.specs.Limits.{most_work_numbers}
use Rattle.places.specs.Loops.{any_of}
use Rattle.places.specs.Refusals.{Check}
use Rattle.places.specs.declared.refusal.Refusal.TheVariants.{Size, Number, Index, EmptyFace, Room, Inexact}
use Rattle.places.specs.Stored.{in_threes, in_pairs}
use Rattle.flat.specs.Points.{vertices_of}
use Rattle.cell.specs.Faces.{faces_of}
use Rattle.cell.specs.Refusals.{first_row, points_refused, number_refused, index_refused, empty_refused, refusal_of}
use Rattle.facing.specs.Refused.{reversal_refusal}
use Rattle.inside.specs.Inside.{face_end}
use Rattle.local.specs.Local.{move_refused}
use Rattle.planes.specs.Planes.{in_fours}

-- the first of two refusals: the second is asked only where the first check passes
unfoldable pub first_refusal : Check → Check → Check
first_refusal (Ok _) rest = rest
first_refusal (Err why) rest = Err why

-- ---- lists of points
-- a list of points of space: 1 size, 2 number
unfoldable pub list_refusal : List Float → Check
list_refusal coords = first_row ((Size, points_refused coords) ∷ (Number, number_refused coords) ∷ [])

-- vertices to be moved to a local origin: 1 size, 2 number, then 15, a coordinate that cannot be moved exactly
unfoldable pub local_refusal : List Float → Check
local_refusal coords = first_refusal (list_refusal coords) (first_row ((Inexact, move_refused (vertices_of coords)) ∷ []))

-- 1 size, of points of the plane: not in pairs, or over 512
unfoldable pub pairs_refused : List Float → Bool
pairs_refused ps = not (eqb (length ps % 2) 0) || ltb most_plane_points (length (in_pairs ps))

-- a list of points of the plane: 1 size, 2 number
unfoldable pub plane_refusal : List Float → Check
plane_refusal ps = first_row ((Size, pairs_refused ps) ∷ (Number, number_refused ps) ∷ [])

-- ---- a cell
-- a cell of which nothing else is asked
abbrev pub cell_refusal : List Float → List ℕ → List ℕ → Check
cell_refusal coords corners ends = refusal_of coords corners ends [] []

-- a cell, and a query point whose values are judged with its 2
abbrev pub contains_refusal : List Float → List ℕ → List ℕ → List Float → Check
contains_refusal coords corners ends p = refusal_of coords corners ends p []

-- a cell, and the number k of one of its faces, which is judged with its 4
abbrev pub face_refusal : List Float → List ℕ → List ℕ → ℕ → Check
face_refusal coords corners ends k = refusal_of coords corners ends [] (k ∷ [])

-- planes, outward turning and intersection: 1 to 4 for the cell and the faces that are asked for, then 5
unfoldable pub faces_refusal : List Float → List ℕ → List ℕ → List ℕ → Check
faces_refusal coords corners ends asked =
    first_refusal (refusal_of coords corners ends [] asked) (first_row ((EmptyFace, empty_refused corners ends) ∷ []))

-- the faces of no area, told in a list with so much room: 1 to 5 for the cell, then 6 where it has fewer places than the cell has faces
unfoldable pub no_area_refusal : List Float → List ℕ → List ℕ → ℕ → Check
no_area_refusal coords corners ends room =
    first_refusal (faces_refusal coords corners ends []) (first_row ((Room, ltb room (length ends)) ∷ []))

-- turning the backward faces: 1 to 4 for the cell, then 11, then 12; 5 is not given
unfoldable pub turn_faces_refusal : List Float → List ℕ → List ℕ → Check
turn_faces_refusal coords corners ends = first_refusal (cell_refusal coords corners ends) (reversal_refusal (faces_of corners ends))

-- 6 room: the triangles of a face need n − 2 places for n ≥ 3
unfoldable pub room_refused : List ℕ → ℕ → Bool
room_refused face room = ltb room (length face - 2)

-- the triangles of the face k: 1 to 4 for the cell and the face's number, then 6
unfoldable pub triangles_refusal : List Float → List ℕ → List ℕ → ℕ → ℕ → Check
triangles_refusal coords corners ends k room =
    first_refusal (face_refusal coords corners ends k) (first_row ((Room, room_refused (get_or (faces_of corners ends) k []) room) ∷ []))

-- 1 size, of triangles over the places of a face of n corners: n under 3 or over 256, places not in threes, or over 254 triangles
unfoldable pub check_size_refused : ℕ → List ℕ → Bool
check_size_refused n places =
    (ltb n 3 || ltb most_checked_corners n)
    || (not (eqb (length places % 3) 0) || ltb most_checked_triangles (length (in_threes places)))

-- check_cut: 1 size, 4 index, a place that is not below n
unfoldable pub check_refusal : ℕ → List ℕ → Check
check_refusal n places = first_row ((Size, check_size_refused n places) ∷ (Index, index_refused n places) ∷ [])

-- 4 index, in a list with marks: an entry that is not the mark and not below n
abbrev pub strays : ℕ → ℕ → Bool
strays n c = not (eqb c face_end) && leb n c

-- point_in_phed: 1 size (its one limit on the list is 2,304 entries), 2 number, 4 index
unfoldable pub phed_refusal : List Float → List ℕ → List Float → Check
phed_refusal coords cs p =
    first_row (
    (Size, points_refused coords || ltb most_marked_corners (length cs))
    ∷ (Number, number_refused coords || number_refused p)
    ∷ (Index, any_of (strays (length (vertices_of coords))) cs)
    ∷ [])

-- 1 size: query values not in threes, or over 256 query points
unfoldable pub queries_refused : List Float → Bool
queries_refused queries = not (eqb (length queries % 3) 0) || ltb most_queries (length (vertices_of queries))

-- a cell and its query points: their size is judged with the cell's 1, their values with its 2
unfoldable pub survey_refusal : List Float → List ℕ → List ℕ → List Float → Check
survey_refusal coords corners ends queries =
    first_refusal (first_row ((Size, queries_refused queries) ∷ [])) (refusal_of coords corners ends queries [])

-- ---- clipping and the overlap
-- 1 size, of planes: not in fours, or over 256
unfoldable pub planes_refused : List Float → Bool
planes_refused planes = not (eqb (length planes % 4) 0) || ltb most_planes (length (in_fours planes))

-- 1 size, of a work list: over 3,072 numbers
unfoldable pub work_refused : List Float → Bool
work_refused l = ltb most_work_numbers (length l)

-- the two work lists
unfoldable pub works_refusal : List Float → List Float → Check
works_refusal first second = first_row ((Size, work_refused first || work_refused second) ∷ [])

-- clipping of the face k by planes, room apart: planes and work lists are judged with the cell's 1
unfoldable pub clip_refusal : List Float → List ℕ → List ℕ → ℕ → List Float → List Float → List Float → Check
clip_refusal coords corners ends k planes first second =
    first_refusal (first_row ((Size, planes_refused planes) ∷ []))
    (first_refusal (works_refusal first second) (face_refusal coords corners ends k))

-- planar clipping, room apart: the subject through 2, with the work lists in its 1, then the clip list
unfoldable pub planar_refusal : List Float → List Float → List Float → List Float → Check
planar_refusal subject clip first second = first_refusal (works_refusal first second)
    (first_refusal (plane_refusal subject) (plane_refusal clip))

-- the overlap, room apart: the first cell through 5, with the work lists in its 1, then the second
unfoldable pub overlap_refusal : List Float → List ℕ → List ℕ → List Float → List ℕ → List ℕ → List Float → List Float → Check
overlap_refusal coords corners ends coords2 corners2 ends2 first second =
    first_refusal (works_refusal first second)
    (first_refusal (faces_refusal coords corners ends []) (faces_refusal coords2 corners2 ends2 []))
