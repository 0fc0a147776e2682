-- `shared_sides::doubled_faces` meets its contract: the stamps before face j are below j + 1, its own, and no face before it holds a vertex
-- twice.
use native.Mathlib.Omega.{arith}
use mathlib.Core.Path.{refl}
use Rattle.places.proofs.Stamps.{fresh_none}
use Rattle.cell.proofs.Faces.{faces_start, faces_step, faces_yes, faces_no, faces_end}
use Rattle.shared_sides.proofs.doubled_faces.Goals as goal

pub loop-j-init : goal.loop-j-init
loop-j-init c =
    (refl, fresh_none c.requires.stamp_len.1, faces_start c.requires.each.1 refl)

pub face-requires : goal.face-requires
face-requires c =
    let step = faces_step c.loop-j.invariant.2 (omega arith) refl in
    (step.from, step.upto)

pub returns-then-doubled_face : goal.returns-then-doubled_face
returns-then-doubled_face c =
    faces_yes c.loop-j.invariant.2 (omega arith) refl (cc)

pub loop-j-preserved : goal.loop-j-preserved
loop-j-preserved c =
    (omega arith, c.doubled_face.ensures.1, faces_no c.loop-j.invariant.2 (omega arith) refl (cc))

pub returns : goal.returns
returns c = faces_end c.loop-j.invariant.2 (omega arith)
