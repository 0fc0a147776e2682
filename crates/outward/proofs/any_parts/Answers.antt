-- `outward::any_parts` meets its contract: each pass asks the face between two ends and leaves at the first that parts the vertices, as
-- `any_of` does over the faces (`FaceAsking`).
use mathlib.Core.Path.{refl}
use Rattle.cell.proofs.Faces.{faces_start, faces_step, faces_yes, faces_no, faces_end}
use native.Mathlib.Omega.{arith}
use Rattle.outward.proofs.any_parts.Goals as goal

pub loop-end-init : goal.loop-end-init
loop-end-init c =
    faces_start c.args.cell.now.sound.ordered refl

pub face-face-requires : goal.face-face-requires
face-face-requires c =
    let step = faces_step c.loop-end.invariant (omega arith) refl in
    (step.from, step.upto)

pub returns-then-face_parts : goal.returns-then-face_parts
returns-then-face_parts c =
    faces_yes c.loop-end.invariant (omega arith) refl (cc)

pub loop-end-preserved : goal.loop-end-preserved
loop-end-preserved c =
    faces_no c.loop-end.invariant (omega arith) refl (cc)

pub returns : goal.returns
returns c = faces_end c.loop-end.invariant (omega arith)
