use Rattle.flat.specs.Points.{vertices_of}
use Rattle.cell.specs.Faces.{faces_of}
use Rattle.outward.specs.Outward.{outward_of, outward_corners}
use Rattle.outward.proofs.Stretches.{Stretches}
use Rattle.outward.proofs.into_ccw.Given as goal

abbrev pub invariant-loop-end : goal.invariant-loop-end
invariant-loop-end l =
    let vs = vertices_of l.coords in
    Stretches (outward_of vs l.reference) l.initial.corners l.ends
    (outward_corners vs (faces_of l.initial.corners l.ends)) l.start l.end-index l.corners
