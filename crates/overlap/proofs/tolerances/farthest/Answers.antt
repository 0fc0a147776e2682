-- `overlap::tolerances::farthest` meets its contract: the chunks of three are the points, and from the place on, the largest square so far
-- comes to the whole fold over the points.
use mathlib.Core.Path.{◌∙◌}
use mathlib.Core.List.{[]}
use native.Mathlib.Omega.{arith}
use Rattle.places.proofs.Loops.{take_next, take_end}
use Rattle.places.proofs.Stored.{threes_chunks}
use Rattle.overlap.specs.Steps.{farther_square}
use Rattle.overlap.proofs.tolerances.farthest.Goals as goal

pub loop-p-preserved : goal.loop-p-preserved
unfolding farther_square
loop-p-preserved c = take_next [] c.loop-p.invariant (omega arith) (cc)

pub returns : goal.returns
unfolding farther_square
returns c =
    rw (← (c.as_chunks.ensures.front ∙ threes_chunks c.args.coords.now)) (take_end c.loop-p.invariant (omega arith))
