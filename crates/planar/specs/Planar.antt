-- clip_convex: an outline of the plane clipped by the edges of another; and the area of what is left.
use Rattle.std.specs.Prelude.{cond, ℕ, List, length, ltb, Float, Result, Ok, Err}
use Rattle.places.specs.Ring.{sides}
use Rattle.floats.specs.Pick.{magnitude_of}
use Rattle.flat.specs.Points.{Point}
use Rattle.flat.specs.Flat.{signed_area_of}
use Rattle.work_lists.specs.WorkLists.{Change, gone, full, made, Outcome, nothing, no_room, outline, clipped_of, outline_of}
use Rattle.clip_step.specs.ClipStep.{trimmed_at}
use Rattle.work_lists.specs.declared.NoRoom.{NoRoom}

-- what an edge makes of an outline: before each edge one under 3 points is emptied; every edge is a cut
unfoldable pub edge_change : ℕ → Point × Point → List Point → Change
edge_change room edge ps =
    let cut = trimmed_at edge.0 edge.1 ps in
    cond (ltb (length ps) 3) gone (cond (ltb room (length cut)) full (made cut))

-- clip_convex, with room for so many points in the shorter work list; an empty clip list leaves the subject
unfoldable pub clip_convex_of : ℕ → List Point → List Point → Outcome
clip_convex_of room subject clip = clipped_of room (edge_change room) (sides clip) subject

-- convex_intersection_area: the magnitude of the signed area of what is left
unfoldable pub intersection_area_of : Outcome → Float
intersection_area_of left = magnitude_of (signed_area_of (outline_of left))

-- the area, also of nothing; or that there is no room
abbrev pub area_answer : Outcome → Result Float NoRoom
area_answer nothing = Ok (intersection_area_of nothing)
area_answer no_room = Err (record {})
area_answer (outline second ps) = Ok (intersection_area_of (outline second ps))
