-- `shared_sides::SideTable::lonely_faces` meets its contract: whether a face has a lonely side is asked of those from there on,
-- since none before had.
use native.Mathlib.Omega.{arith}
use mathlib.Core.Path.{refl}
use Rattle.cell.proofs.Faces.{faces_start, faces_step, faces_yes, faces_no, faces_end}
use Rattle.shared_sides.specs.Steps.{lonely_faces}
use Rattle.shared_sides.proofs.SideTable.lonely_faces.Goals as goal

pub loop-end-init : goal.loop-end-init
unfolding lonely_faces
loop-end-init c =
    faces_start c.requires.numbered.ordered refl

pub face-requires : goal.face-requires
face-requires c =
    let step = faces_step c.loop-end.invariant (omega arith) refl in
    (step.from, step.upto)

pub returns-then-lonely_face : goal.returns-then-lonely_face
returns-then-lonely_face c =
    faces_yes c.loop-end.invariant (omega arith) refl (cc)

pub loop-end-preserved : goal.loop-end-preserved
loop-end-preserved c =
    faces_no c.loop-end.invariant (omega arith) refl (cc)

pub returns : goal.returns
returns c = faces_end c.loop-end.invariant (omega arith)
