use Rattle.places.specs.Loops.{any_of}
use Rattle.cell.specs.SoundCell.{vertices, faces}
use Rattle.cell.proofs.Faces.{FaceAsking}
use Rattle.outward.specs.Convexity.{face_parts}
use Rattle.outward.proofs.any_parts.Given as goal

abbrev pub invariant-loop-end : goal.invariant-loop-end
invariant-loop-end l =
    let parts = face_parts (vertices l.cell) in
    FaceAsking parts l.cell.corners.now l.cell.ends.now (any_of parts (faces l.cell)) l.start l.end-index
