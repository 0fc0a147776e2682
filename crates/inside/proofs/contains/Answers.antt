-- `inside::contains` meets its contract: each pass turns the answer as `cross_face` does, so the faces that are left make, with the answer
-- so far, the whole (`Facing`).
use mathlib.Core.Path.{refl}
use native.Mathlib.Omega.{arith}
use Rattle.cell.proofs.Faces.{face_start, face_step, face_next, face_end_lem}
use Rattle.inside.specs.Inside.{contains_of}
use Rattle.inside.proofs.contains.Goals as goal

pub loop-end-init : goal.loop-end-init
unfolding contains_of
loop-end-init c =
    face_start c.args.cell.now.sound.ordered refl

pub face-face-requires : goal.face-face-requires
face-face-requires c =
    let step = face_step c.loop-end.invariant (omega arith) refl in
    (step.from, step.upto)

pub loop-end-preserved : goal.loop-end-preserved
loop-end-preserved c =
    face_next c.loop-end.invariant (omega arith) refl (cc)

pub returns : goal.returns
returns c = face_end_lem c.loop-end.invariant (omega arith)
