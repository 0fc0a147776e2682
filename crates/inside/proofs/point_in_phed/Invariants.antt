use Rattle.flat.specs.Points.{vertices_of}
use Rattle.inside.specs.Inside.{phed_contains_of}
use Rattle.inside.proofs.Marks.{Splitting}
use Rattle.inside.proofs.point_in_phed.Given as goal

abbrev pub invariant-loop-face : goal.invariant-loop-face
invariant-loop-face l =
    let vs = vertices_of l.coords in
    Splitting vs l.p (phed_contains_of vs l.p l.cs) l.face-iterator l.inside
