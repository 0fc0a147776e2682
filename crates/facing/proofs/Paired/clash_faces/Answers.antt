-- `facing::Paired::clash_faces` meets its contract: whether a face has a side that clashes is asked of those from f on, since none
-- before had.
use mathlib.Core.Path.{refl}
use mathlib.Core.List.{[]}
use native.Mathlib.Omega.{arith}
use Rattle.places.proofs.Loops.{ask_start, ask_yes, ask_no, ask_end}
use Rattle.cell.proofs.Faces.{length_faces}
use Rattle.facing.specs.Steps.{clash_faces}
use Rattle.facing.proofs.Paired.clash_faces.Goals as goal

pub loop-f-init : goal.loop-f-init
unfolding clash_faces
loop-f-init c = ask_start refl

pub returns-then-clash_face : goal.returns-then-clash_face
returns-then-clash_face c =
    ask_yes [] c.loop-f.invariant (omega (arith, length_faces c.args.self.now.corners.now c.args.self.now.ends.now))
    (rw (← c.clash_face.ensures) c.if-clash_face.true)

pub loop-f-preserved : goal.loop-f-preserved
loop-f-preserved c =
    ask_no [] c.loop-f.invariant (omega (arith, length_faces c.args.self.now.corners.now c.args.self.now.ends.now))
    (rw (← c.clash_face.ensures) c.if-clash_face.false)

pub returns : goal.returns
returns c =
    ask_end c.loop-f.invariant (omega (arith, length_faces c.args.self.now.corners.now c.args.self.now.ends.now))
