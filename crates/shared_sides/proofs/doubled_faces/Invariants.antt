use Prim.Native.Nat.{◌+◌}
use lib.ListN.{length}
use mathlib.Core.Path.{◌≡◌}
use Rattle.places.specs.Steps.{Fresh}
use Rattle.cell.specs.Faces.{faces_of}
use Rattle.cell.proofs.Faces.{FaceAsking}
use Rattle.places.specs.Loops.{any_of}
use Rattle.exact.specs.Facing.{doubled}
use Rattle.shared_sides.proofs.doubled_faces.Given as goal

abbrev pub invariant-loop-j : goal.invariant-loop-j
invariant-loop-j l =
    (length l.stamp ≡ length l.initial.stamp) × Fresh (l.j + 1) l.stamp ×
    FaceAsking doubled l.corners l.ends (any_of doubled (faces_of l.corners l.ends)) l.start l.j
