use Rattle.places.specs.Loops.{fold_list}
use Rattle.places.proofs.Loops.{Taking}
use Rattle.overlap.specs.Steps.{farther_square}
use Rattle.overlap.proofs.tolerances.farthest.Given as goal

abbrev pub invariant-loop-p : goal.invariant-loop-p
invariant-loop-p l =
    Taking (farther_square l.c) l.points (fold_list (farther_square l.c) l.points l.initial.far) l.p-index l.far
