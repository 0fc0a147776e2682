use mathlib.Core.List.{[]}
use lib.ListN.{get_or}
use Rattle.places.specs.Ring.{sides}
use Rattle.places.proofs.Loops.{Asking}
use Rattle.cell.specs.Faces.{faces_of}
use Rattle.side_table.specs.Numbers.{entry_of}
use Rattle.facing.specs.Steps.{clash, clash_face}
use Rattle.facing.proofs.Paired.clash_face.Given as goal

abbrev pub invariant-loop-i : goal.invariant-loop-i
invariant-loop-i l =
    Asking (clash (entry_of l.self.sides.number.now l.self.sides.k) l.self.sides.table.now l.code)
    (sides (get_or (faces_of l.self.corners.now l.self.ends.now) l.f []))
    (clash_face (entry_of l.self.sides.number.now l.self.sides.k) l.self.sides.table.now l.code
    (get_or (faces_of l.self.corners.now l.self.ends.now) l.f []))
    l.i
