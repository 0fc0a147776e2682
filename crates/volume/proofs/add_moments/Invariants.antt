use Rattle.places.specs.Loops.{fold_list}
use Rattle.places.proofs.Loops.{Taking}
use Rattle.flat.specs.Points.{vertices_of}
use Rattle.volume.specs.Volume.{add_moment}
use Rattle.volume.proofs.add_moments.Given as goal

abbrev pub invariant-loop-t : goal.invariant-loop-t
invariant-loop-t l =
    let add = add_moment (vertices_of l.coords) l.refp in
    Taking add l.tris (fold_list add l.tris l.initial.s) l.t-index l.s
