use Rattle.places.specs.Loops.{one_if}
use Rattle.flat.specs.Points.{corners_of}
use Rattle.cell.specs.SoundCell.{vertices, faces}
use Rattle.planes.specs.Planes.{has_no_area, no_area_faces}
use Rattle.planes.proofs.Faces.{Laying}
use Rattle.planes.proofs.no_area_faces.Given as goal

abbrev pub invariant-loop-k : goal.invariant-loop-k
invariant-loop-k l =
    let vs = vertices l.cell in
    Laying (λ face. one_if (has_no_area (corners_of vs face))) l.cell.corners.now l.cell.ends.now
    (no_area_faces vs (faces l.cell)) l.start l.k l.out
