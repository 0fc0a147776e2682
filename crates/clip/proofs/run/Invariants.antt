use mathlib.Core.Bool.{false}
use lib.ListN.{take}
use Rattle.places.specs.Stored.{in_threes}
use Rattle.planes.specs.Planes.{in_fours}
use Rattle.work_lists.specs.WorkLists.{outline, run_of}
use Rattle.work_lists.proofs.Alternation.{Alternating}
use Rattle.clip.specs.Clip.{plane_change}
use Rattle.clip.proofs.run.Given as goal

abbrev pub invariant-loop-i : goal.invariant-loop-i
invariant-loop-i l =
    Alternating in_threes l.room (plane_change l.room l.eps) (in_fours l.planes)
    (run_of (plane_change l.room l.eps) (in_fours l.planes) (outline false (take l.count (in_threes l.initial.first))))
    l.initial.first l.initial.second l.i l.n l.in_second l.first l.second
