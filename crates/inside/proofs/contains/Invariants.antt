use Rattle.cell.specs.SoundCell.{vertices, faces}
use Rattle.cell.proofs.Faces.{Facing}
use Rattle.inside.specs.Inside.{cross_face, contains_of}
use Rattle.inside.proofs.contains.Given as goal

abbrev pub invariant-loop-end : goal.invariant-loop-end
invariant-loop-end l =
    let vs = vertices l.cell in
    Facing (cross_face vs l.p) l.cell.corners.now l.cell.ends.now (contains_of vs l.p (faces l.cell)) l.start l.end-index l.inside
