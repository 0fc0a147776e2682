-- `planes::plane_of_face` meets its contract: where the Newell sums are all 0 the face has no area; else the first corner, the offset and
-- the unit plane are the definition's steps.
use mathlib.Core.Path.{sym, ◌∙◌}
use mathlib.Core.List.{List}
use Rattle.flat.specs.Points.{Point, vertices_of, corners_of}
use Rattle.planes.specs.Planes.{has_no_area, newell_plane}
use Rattle.planes.proofs.Faces.{plane_with_area, plane_without_area}
use Rattle.planes.proofs.plane_of_face.Goals as goal
use Rattle.planes.proofs.plane_of_face.Goals.{After-face_normal-n}

-- the points of the face
abbrev points : After-face_normal-n → List Point
points c = corners_of (vertices_of c.args.coords.now) c.args.face.now

pub returns-then-all_zero : goal.returns-then-all_zero
unfolding has_no_area
returns-then-all_zero c =
    let at = (goal.at.returns-then-all_zero c).After-face_normal-n in
    let none = sym c.all_zero.ensures ∙ c.if-all_zero.true in
    rw (plane_without_area (points at) (rw (← c.face_normal-n.ensures) none))

pub returns : goal.returns
unfolding has_no_area newell_plane
returns c =
    let at = (goal.at.returns c).After-face_normal-n in
    let some = sym c.all_zero.ensures ∙ c.if-all_zero.false in
    rw (plane_with_area (points at) (rw (← c.face_normal-n.ensures) some)) cc
