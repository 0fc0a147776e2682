use Rattle.flat.specs.Points.{vertices_of}
use Rattle.flat.specs.Flat.{points_of}
use Rattle.inside.specs.Ray.{pass_side, in_outline}
use Rattle.places.proofs.Walks.{Walking}
use Rattle.inside.proofs.in_outline.Given as goal

abbrev pub invariant-loop-i : goal.invariant-loop-i
invariant-loop-i l =
    let ps = points_of (vertices_of l.coords) l.axis l.face in
    Walking (pass_side l.p) ps (in_outline l.p ps) l.first l.i l.a l.inside
