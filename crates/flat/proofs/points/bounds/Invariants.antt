use Rattle.places.proofs.Loops.{Taking}
use Rattle.flat.specs.Points.{widen_of, bounds_of}
use Rattle.flat.specs.Steps.{Numbers}
use Rattle.flat.proofs.points.bounds.Given as goal

abbrev pub invariant-loop-p : goal.invariant-loop-p
invariant-loop-p g l =
    let d = g.row.N in
    Taking (widen_of d) l.points (bounds_of d l.points) l.p-index l.b × Numbers d l.b
