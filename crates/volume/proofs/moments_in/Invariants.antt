use mathlib.Core.Path.{◌≡◌}
use lib.ListN.{length}
use Rattle.cell.specs.SoundCell.{vertices, faces}
use Rattle.cell.proofs.Faces.{Facing}
use Rattle.volume.specs.Volume.{moments_of}
use Rattle.volume.specs.Steps.{add_face_moments}
use Rattle.volume.proofs.moments_in.Given as goal

abbrev pub invariant-loop-end : goal.invariant-loop-end
invariant-loop-end l =
    let vs = vertices l.cell in
    (length l.out ≡ length l.initial.out) ×
    Facing (add_face_moments vs l.refp) l.cell.corners.now l.cell.ends.now (moments_of vs (faces l.cell)) l.start l.end-index l.m
