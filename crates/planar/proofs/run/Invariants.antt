use mathlib.Core.Bool.{false}
use lib.ListN.{take}
use Rattle.places.specs.Stored.{in_pairs}
use Rattle.places.specs.Ring.{sides}
use Rattle.work_lists.specs.WorkLists.{outline, run_of}
use Rattle.work_lists.proofs.Alternation.{Alternating}
use Rattle.planar.specs.Planar.{edge_change}
use Rattle.planar.proofs.run.Given as goal

abbrev pub invariant-loop-i : goal.invariant-loop-i
invariant-loop-i l =
    Alternating in_pairs l.room (edge_change l.room) (sides (in_pairs l.clip))
    (run_of (edge_change l.room) (sides (in_pairs l.clip)) (outline false (take l.count (in_pairs l.initial.first))))
    l.initial.first l.initial.second l.i l.n l.in_second l.first l.second
