-- `planes::no_area_count` meets its contract: each pass counts one face, and the faces to come give the rest (`Counting`).
use mathlib.Core.Path.{refl}
use native.Mathlib.Omega.{arith}
use Rattle.planes.specs.Planes.{no_area_count}
use Rattle.planes.proofs.Faces.{count_start, count_step, count_next, count_end, counted}
use Rattle.planes.proofs.no_area_count.Goals as goal

pub loop-end-init : goal.loop-end-init
unfolding no_area_count
loop-end-init c = count_start c.args.cell.now.sound.ordered

pub face-face-requires : goal.face-face-requires
face-face-requires c =
    let step = count_step c.loop-end.invariant (omega arith) refl in
    (step.from, step.upto)

pub loop-end-preserved : goal.loop-end-preserved
loop-end-preserved c =
    count_next c.loop-end.invariant (omega arith) refl
    (rw (c.from-count.ensures, counted, c.has_no_area.ensures, c.face-face.ensures))

pub returns : goal.returns
returns c = count_end c.loop-end.invariant (omega arith)
