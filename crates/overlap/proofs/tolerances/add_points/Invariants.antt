use Rattle.places.specs.Loops.{fold_list}
use Rattle.places.proofs.Loops.{Taking}
use Rattle.flat.specs.Points.{plus_of}
use Rattle.overlap.proofs.tolerances.add_points.Given as goal

abbrev pub invariant-loop-p : goal.invariant-loop-p
invariant-loop-p l =
    Taking (plus_of 3) l.points (fold_list (plus_of 3) l.points l.initial.t) l.p-index l.t
