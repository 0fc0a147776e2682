use mathlib.Core.Path.{◌≡◌}
use lib.ListN.{length}
use Rattle.cell.specs.SoundCell.{vertices, faces}
use Rattle.planes.specs.Planes.{in_fours, planes_of}
use Rattle.planes.proofs.Faces.{Gathering}
use Rattle.planes.proofs.planes.Given as goal

abbrev pub invariant-loop-end : goal.invariant-loop-end
invariant-loop-end l =
    let vs = vertices l.cell in
    (length l.out ≡ length l.initial.out)
    × Gathering vs l.cell.corners.now l.cell.ends.now (planes_of vs (faces l.cell)) l.start l.end-index l.m (in_fours l.out)
