use Prim.Native.Nat.{◌≤◌}
use Rattle.cell.specs.SoundCell.{vertices, faces}
use Rattle.planes.specs.Planes.{in_fours}
use Rattle.overlap.specs.Overlap.{added_to}
use Rattle.overlap.specs.Steps.{face_patch, patches_of, room_of}
use Rattle.overlap.proofs.Own.{Beside}
use Rattle.overlap.proofs.Sums.{SameLengths, Adding}
use Rattle.overlap.proofs.add_faces.Given as goal

abbrev pub invariant-loop-end : goal.invariant-loop-end
invariant-loop-end l =
    let vs = vertices l.cell in
    let room = room_of l.initial.first l.initial.second in
    SameLengths l.initial.kept l.initial.first l.initial.second l.kept l.first l.second × (l.j ≤ l.end-index)
    × Beside vs l.cell.corners.now l.cell.ends.now (in_fours l.own) l.start l.end-index l.j
    × Adding l.m.reference (face_patch l.t.other room l.m vs (in_fours l.planes)) l.cell.corners.now l.cell.ends.now
    (added_to l.m.reference l.initial.sum (patches_of l.t.other room l.m vs (faces l.cell) (in_fours l.planes)))
    l.start l.end-index l.sum
