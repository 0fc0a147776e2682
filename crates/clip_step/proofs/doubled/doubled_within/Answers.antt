-- `clip_step::doubled::doubled_within` meets its contract: the chunks of three are the points, m is the largest magnitude among those
-- before the place, and those that are left make it that of all points; 2^-46 is the definition's constant.
use mathlib.Core.Path.{◌∙◌}
use mathlib.Core.List.{[]}
use native.Mathlib.Omega.{arith}
use Rattle.places.proofs.Loops.{take_next, take_end}
use Rattle.places.proofs.Stored.{threes_chunks}
use Rattle.clip_step.specs.Doubled.{doubled_within}
use Rattle.clip_step.proofs.doubled.doubled_within.Goals as goal

pub loop-p-preserved : goal.loop-p-preserved
loop-p-preserved c = take_next [] c.loop-p.invariant (omega arith) (cc)

pub returns : goal.returns
unfolding doubled_within
returns c =
    rw (← (c.as_chunks.ensures.front ∙ threes_chunks c.args.s.now)) (cc (take_end c.loop-p.invariant (omega arith)))
