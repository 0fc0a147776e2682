use Rattle.places.specs.Ring.{sides}
use Rattle.places.proofs.Loops.{Asking}
use Rattle.shared_sides.specs.Steps.{lonely, lonely_face}
use Rattle.side_table.specs.Numbers.{entry_of}
use Rattle.shared_sides.proofs.SideTable.lonely_face.Given as goal

abbrev pub invariant-loop-i : goal.invariant-loop-i
invariant-loop-i l =
    Asking (lonely (entry_of l.self.number.now l.self.k) l.self.table.now)
    (sides l.face) (lonely_face (entry_of l.self.number.now l.self.k) l.self.table.now l.face) l.i
