-- `planes::no_area_faces` meets its contract: each pass lays the number of one face in its place, and the faces to come give the other
-- places (`Laying`).
use mathlib.Core.Path.{refl}
use native.Mathlib.Omega.{arith}
use Rattle.planes.specs.Planes.{no_area_faces}
use Rattle.planes.proofs.Faces.{lay_start, lay_step, lay_next, counted}
use Rattle.planes.proofs.no_area_faces.Goals as goal

pub loop-k-init : goal.loop-k-init
unfolding no_area_faces
loop-k-init c =
    lay_start c.args.cell.now.sound.ordered c.requires

pub face-face-requires : goal.face-face-requires
face-face-requires c =
    let step = lay_step c.loop-k.invariant (omega arith) refl in
    (step.from, step.upto)

pub loop-k-preserved : goal.loop-k-preserved
loop-k-preserved c =
    lay_next c.loop-k.invariant (omega arith) refl
    (rw (c.from.ensures, counted, c.has_no_area.ensures, c.face-face.ensures))
