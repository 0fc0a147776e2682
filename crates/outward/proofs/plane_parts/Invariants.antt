use Rattle.flat.specs.Points.{vertices_of}
use Rattle.outward.specs.Convexity.{other_vertices, plane_parts}
use Rattle.outward.proofs.Parting.{Parting}
use Rattle.outward.proofs.plane_parts.Given as goal

abbrev pub invariant-loop-v : goal.invariant-loop-v
invariant-loop-v l =
    let vs = vertices_of l.coords in
    Parting l.n l.d l.eps l.face vs (plane_parts l.n l.d l.eps (other_vertices vs l.face)) l.v l.seen
