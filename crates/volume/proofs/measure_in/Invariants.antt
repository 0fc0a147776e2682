use mathlib.Core.Path.{◌≡◌}
use Prim.Native.Nat.{◌≤◌}
use lib.ListN.{length}
use Rattle.cell.specs.SoundCell.{vertices, faces}
use Rattle.cell.proofs.Faces.{Facing}
use Rattle.volume.specs.Steps.{measured_of, add_face}
use Rattle.volume.proofs.measure_in.Given as goal

abbrev pub invariant-loop-end : goal.invariant-loop-end
invariant-loop-end l =
    let vs = vertices l.cell in
    (length l.out ≡ length l.initial.out) × (l.m.triangles ≤ l.start) × (l.m.short ≤ l.end-index) ×
    Facing (add_face vs l.refp) l.cell.corners.now l.cell.ends.now (measured_of vs (faces l.cell)) l.start l.end-index l.m
