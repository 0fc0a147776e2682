use Rattle.places.specs.Loops.{fold_list}
use Rattle.places.proofs.Loops.{Taking}
use Rattle.floats.specs.F64.{zero64}
use Rattle.clip_step.specs.Doubled.{largest_coordinate}
use Rattle.clip_step.proofs.doubled.doubled_within.Given as goal

abbrev pub invariant-loop-p : goal.invariant-loop-p
invariant-loop-p l =
    Taking largest_coordinate l.points (fold_list largest_coordinate l.points zero64) l.p-index l.m
