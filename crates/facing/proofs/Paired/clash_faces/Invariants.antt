use Rattle.places.proofs.Loops.{Asking}
use Rattle.cell.specs.Faces.{faces_of}
use Rattle.side_table.specs.Numbers.{entry_of}
use Rattle.facing.specs.Steps.{clash_face, clash_faces}
use Rattle.facing.proofs.Paired.clash_faces.Given as goal

abbrev pub invariant-loop-f : goal.invariant-loop-f
invariant-loop-f l =
    Asking (clash_face (entry_of l.self.sides.number.now l.self.sides.k) l.self.sides.table.now l.code)
    (faces_of l.self.corners.now l.self.ends.now)
    (clash_faces (entry_of l.self.sides.number.now l.self.sides.k) l.self.sides.table.now l.code
    (faces_of l.self.corners.now l.self.ends.now))
    l.f
