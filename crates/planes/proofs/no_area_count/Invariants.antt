use Rattle.flat.specs.Points.{corners_of}
use Rattle.cell.specs.SoundCell.{vertices, faces}
use Rattle.planes.specs.Planes.{has_no_area, no_area_count}
use Rattle.planes.proofs.Faces.{Counting}
use Rattle.planes.proofs.no_area_count.Given as goal

abbrev pub invariant-loop-end : goal.invariant-loop-end
invariant-loop-end l =
    let vs = vertices l.cell in
    Counting (λ face. has_no_area (corners_of vs face)) l.cell.corners.now l.cell.ends.now
    (no_area_count vs (faces l.cell)) l.start l.end-index l.count
