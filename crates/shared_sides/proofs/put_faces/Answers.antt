-- `shared_sides::put_faces` meets its contract: after j faces the table with the marks of those left is what stood there with those of all
-- faces.
use native.Mathlib.Omega.{arith}
use lib.ListN.{length}
use mathlib.Core.Path.{refl}
use Rattle.cell.specs.Faces.{faces_of}
use Rattle.cell.proofs.Faces.{rises_more}
use Rattle.shared_sides.proofs.Table.{put_start, put_full, from_more}
use Rattle.shared_sides.proofs.put_faces.Goals as goal

pub loop-j-init : goal.loop-j-init
unfolding faces_of
loop-j-init c =
    (refl, omega arith, c.requires.numbered.0.ordered, put_start c.requires.ready.sane)

pub face-requires : goal.face-requires
face-requires c =
    let step = rises_more c.loop-j.start c.args.ends.now (length c.args.corners.now) c.loop-j.j _ (omega arith)
    refl c.loop-j.invariant.2 in
    (step.from, step.upto)

pub returns-then-not-put_face : goal.returns-then-not-put_face
returns-then-not-put_face c =
    put_full c.loop-j.invariant.3 c.put_face.ensures _ c.if-not-put_face.true
    (from_more c.loop-j.start c.args.corners.now c.args.ends.now c.loop-j.j (omega arith) refl c.face.ensures)
