-- `geometry::plane_of_face` meets its contract: a face that passes the checks has corners, all of them vertices, and the room computes
-- its plane or finds that it has no area.
use mathlib.Core.Path.{◌≡◌, sym}
use borrow.Author.Rules.{rules}
use Rattle.std.specs.Prelude.{Option}
use Rattle.std.specs.Option.{option_map}
use Rattle.planes.specs.declared.Plane as planes
use Rattle.planes.specs.Steps.{plane_if}
use Rattle.planes.specs.Planes.{PlaneOrNoArea, no_area, has_plane, plane_of}
use Rattle.refusals.proofs.Refusals.{SolidFace, face_known}
use Rattle.geometry.specs.Cells.{plane_shown, plane_told, plane_of_face_answer}
use Rattle.geometry.proofs.Answers.{refused, passed}
use Rattle.geometry.proofs.plane_of_face.Goals as goal
use Rattle.geometry.proofs.plane_of_face.Goals.{In_ok-faces_refusal}

-- what is known past the checks
known : (c : In_ok-faces_refusal) → SolidFace c.args.coords.now c.args.corners.now c.args.ends.now
    c.args.face
known c =
    face_known c.args.coords.now c.args.corners.now c.args.ends.now c.args.face (sym c.in_ok-faces_refusal.ensures)

-- what is shown of the plane that was found is what is told of it
told_by : (found : PlaneOrNoArea) {p : Option planes.Plane} → p ≡ plane_if found → option_map plane_shown p ≡ plane_told found
told_by no_area e = rw e
told_by (has_plane p) e = rw e

pub returns-in_err-faces_refusal : goal.returns-in_err-faces_refusal
unfolding plane_of_face_answer
returns-in_err-faces_refusal c = refused _ c.from_residual.ensures.1 c.in_err-faces_refusal.ensures

pub face_by_number-part-requires : goal.face_by_number-part-requires
face_by_number-part-requires c =
    let k = known (goal.at.face_by_number-part-requires c).In_ok-faces_refusal in
    (k.ordered, k.there)

pub plane_of_face-requires : goal.plane_of_face-requires
plane_of_face-requires c =
    let k = known (goal.at.plane_of_face-requires c).In_ok-faces_refusal in
    rw c.face_by_number-part.ensures (record { inside = k.inside; face_nonzero = k.some })

pub returns : goal.returns
unfolding plane_of_face_answer
returns c =
    let found = rw c.face_by_number-part.ensures at c.plane_of_face.ensures in
    let told = told_by (plane_of _) found in
    passed c.in_ok-faces_refusal.ensures (search (rules, told))
