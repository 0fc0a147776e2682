use Rattle.cell.specs.Faces.{faces_of}
use Rattle.cell.proofs.Faces.{FaceAsking}
use Rattle.shared_sides.specs.Steps.{lonely_face, lonely_faces}
use Rattle.side_table.specs.Numbers.{entry_of}
use Rattle.shared_sides.proofs.SideTable.lonely_faces.Given as goal

abbrev pub invariant-loop-end : goal.invariant-loop-end
invariant-loop-end l =
    FaceAsking (lonely_face (entry_of l.self.number.now l.self.k) l.self.table.now) l.corners l.ends
    (lonely_faces (entry_of l.self.number.now l.self.k) l.self.table.now (faces_of l.corners l.ends))
    l.start l.end-index
