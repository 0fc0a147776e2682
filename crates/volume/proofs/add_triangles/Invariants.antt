use Rattle.places.specs.Loops.{fold_list}
use Rattle.places.proofs.Loops.{Taking}
use Rattle.flat.specs.Points.{vertices_of}
use Rattle.volume.specs.Volume.{add_triple}
use Rattle.volume.proofs.add_triangles.Given as goal

abbrev pub invariant-loop-t : goal.invariant-loop-t
invariant-loop-t l =
    let add = add_triple (vertices_of l.coords) l.refp in
    Taking add l.tris (fold_list add l.tris l.v) l.t-index l.s
