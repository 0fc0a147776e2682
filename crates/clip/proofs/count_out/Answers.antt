-- `clip::count_out` meets its contract: the chunks of three are the points; those beyond the plane before the place, and those that are
-- left to count, make the whole count.
use native.Mathlib.Nat.{add-zero}
use native.Mathlib.Omega.{arith}
use mathlib.Core.Path.{◌∙◌}
use mathlib.Core.List.{[]}
use Rattle.places.proofs.Loops.{count_next, count_end}
use Rattle.places.proofs.Stored.{threes_chunks}
use Rattle.clip.proofs.count_out.Goals as goal
use Rattle.clip.proofs.count_out.Goals.{then-distance-eps, else-distance-eps}

pub loop-p-preserved : goal.loop-p-preserved
loop-p-preserved c =
    count_next [] c.loop-p.invariant (omega arith)
    (rw (← c.distance.ensures)
    (elim c.if-distance-eps.branch [
      | then-distance-eps w ↦ rw w.if-distance-eps.true w.out-is
      | else-distance-eps w ↦ rw (w.if-distance-eps.false, add-zero) w.out-is
    ]))

pub returns : goal.returns
returns c =
    rw (← (c.as_chunks.ensures.front ∙ threes_chunks c.args.src.now)) (count_end c.loop-p.invariant (omega arith))
