-- What clipping and the overlaps answer, and what then stands in the first work list and in the second: both are as they were where a
-- check refuses.
use Rattle.std.specs.Prelude.{ℕ, true, false, List, length, replicate, Float, Option, Result, Ok, Err}
use Rattle.std.specs.Option.{option_map}
use Rattle.places.specs.Refusals.{Check}
use Rattle.places.specs.declared.refusal.Refusal.TheVariants.{Room}
use Rattle.places.specs.Stored.{in_pairs}
use Rattle.floats.specs.F64.{zero64}
use Rattle.flat.specs.Points.{vertices_of, corners_of}
use Rattle.cell.specs.Faces.{faces_of}
use Rattle.planes.specs.Planes.{in_fours}
use Rattle.work_lists.specs.declared.NoRoom.{NoRoom}
use Rattle.work_lists.specs.declared.Outline as rooms
use Rattle.work_lists.specs.WorkLists.{Outcome, shorter_of, answer_of, list_after}
use Rattle.clip.specs.Clip.{clip_face_of}
use Rattle.planar.specs.Planar.{clip_convex_of, area_answer}
use Rattle.overlap.specs.declared.Shared as overlap
use Rattle.overlap.specs.Overlap.{overlapped_of}
use Rattle.refusals.specs.Refusals.{clip_refusal, planar_refusal, overlap_refusal}
use Rattle.geometry.specs.declared.Outline.{Outline}
use Rattle.geometry.specs.declared.Shared.{Shared}
use Rattle.geometry.specs.Answers.{Answer, beside_two}
use Rattle.geometry.specs.Cells.{face_numbered}

-- the answer, and what then stands in both work lists
abbrev pub Clipping : Type 0
Clipping = Answer (Option Outline) × List Float × List Float

abbrev pub Measure : Type 0
Measure = Answer Float × List Float × List Float

abbrev pub Overlapping : Type 0
Overlapping = Answer Shared × List Float × List Float

-- what is left, as an entry answers it: no room is refusal 6
abbrev pub or_room : {A B : Type 0} → (A → B) → Result A NoRoom → Answer B
or_room shown (Ok x) = Ok (shown x)
or_room shown (Err _) = Err Room

-- an outline, and an overlap, as an entry shows them
abbrev pub outline_shown : rooms.Outline → Outline
outline_shown o = record { points = o.points; in_second = o.in_second }

abbrev pub shared_shown : overlap.Shared → Shared
shared_shown o = record { volume = o.volume; arealess = o.arealess; arealess2 = o.arealess2 }

-- a clipping, an area and an overlap
abbrev pub clipped_answer : Result (Option rooms.Outline) NoRoom → Answer (Option Outline)
clipped_answer = or_room (option_map outline_shown)

abbrev pub area_shown : Result Float NoRoom → Answer Float
area_shown = or_room (λ x. x)

abbrev pub shared_answer : Result overlap.Shared NoRoom → Answer Shared
shared_answer = or_room shared_shown

-- a clipping of which this is left: it is shown in the work list where it ended, and every other number of both lists is +0
abbrev pub clipping_of : Check → Outcome → List Float → List Float → Clipping
clipping_of check o first second =
    beside_two check (clipped_answer (answer_of o), list_after o false (length first), list_after o true (length second)) first second

-- a measure of what is left: every number of both lists is then +0
abbrev pub measure_of : {A : Type 0} → Check → Answer A → List Float → List Float → Answer A × List Float × List Float
measure_of check answer first second =
    beside_two check (answer, replicate (length first) zero64, replicate (length second) zero64) first second

-- how many points of space, and of the plane, the shorter work list holds
abbrev pub room_in_space : List Float → List Float → ℕ
room_in_space first second = shorter_of (length (vertices_of first)) (length (vertices_of second))

abbrev pub room_in_plane : List Float → List Float → ℕ
room_in_plane first second = shorter_of (length (in_pairs first)) (length (in_pairs second))

-- clip_face: what planes leave of the face k of a cell
unfoldable pub clip_face_answer : List Float → List ℕ → List ℕ → ℕ → List Float → Float → List Float → List Float → Clipping
clip_face_answer coords corners ends k planes eps first second =
    let o = clip_face_of (room_in_space first second) eps (in_fours planes)
    (corners_of (vertices_of coords) (face_numbered corners ends k)) in
    clipping_of (clip_refusal coords corners ends k planes first second) o first second

-- clip_convex: what the edges of an outline of the plane leave of another
unfoldable pub clip_convex_answer : List Float → List Float → List Float → List Float → Clipping
clip_convex_answer subject clip first second =
    let o = clip_convex_of (room_in_plane first second) (in_pairs subject) (in_pairs clip) in
    clipping_of (planar_refusal subject clip first second) o first second

-- convex_intersection_area: the area of what is left
unfoldable pub overlap_area_answer : List Float → List Float → List Float → List Float → Measure
overlap_area_answer subject clip first second =
    let area = area_answer (clip_convex_of (room_in_plane first second) (in_pairs subject) (in_pairs clip)) in
    measure_of (planar_refusal subject clip first second) (area_shown area) first second

-- convex_intersection_volume: the volume that two convex cells share, and how many faces of each have no area
unfoldable pub overlap_answer : List Float → List ℕ → List ℕ → List Float → List ℕ → List ℕ → List Float → List Float → Overlapping
overlap_answer coords corners ends coords2 corners2 ends2 first second =
    let room = room_in_space first second in
    let o = overlapped_of room (vertices_of coords) (faces_of corners ends) (vertices_of coords2) (faces_of corners2 ends2) in
    let refusal = overlap_refusal coords corners ends coords2 corners2 ends2 first second in
    measure_of refusal (shared_answer o) first second
