-- `overlap::tolerances::add_points` meets its contract: the chunks of three are the points, and from the place on, the sum so far comes to
-- the whole fold over the points.
use mathlib.Core.Path.{◌∙◌}
use mathlib.Core.List.{[]}
use native.Mathlib.Omega.{arith}
use Rattle.places.proofs.Loops.{take_next, take_end}
use Rattle.places.proofs.Stored.{threes_chunks}
use Rattle.overlap.proofs.tolerances.add_points.Goals as goal

pub loop-p-preserved : goal.loop-p-preserved
loop-p-preserved c = take_next [] c.loop-p.invariant (omega arith) (cc)

pub returns : goal.returns
returns c =
    rw (← (c.as_chunks.ensures.front ∙ threes_chunks c.args.coords.now)) (take_end c.loop-p.invariant (omega arith))
