-- `outline::summed_area` meets its contract: the chunks of two are the points, s is the sum over the sides before place i, and the sides
-- that are left, the last back to the first point, make it the whole.
use mathlib.Core.Path.{refl, ap, ◌∙◌}
use mathlib.Core.List.{[]}
use native.Mathlib.Omega.{arith}
use Rattle.places.proofs.Loops.{round_start, round_next, round_end}
use Rattle.places.proofs.Stored.{pairs_chunks}
use Rattle.flat.specs.Flat.{summed_area_of}
use Rattle.outline.proofs.summed_area.Goals as goal

pub loop-i-init : goal.loop-i-init
unfolding summed_area_of
loop-i-init c = round_start refl

pub loop-i-preserved : goal.loop-i-preserved
loop-i-preserved c = round_next [] c.loop-i.invariant (omega arith) (cc)

pub returns : goal.returns
returns c =
    round_end c.loop-i.invariant (omega arith) ∙ ap summed_area_of (c.as_chunks.ensures.front ∙ pairs_chunks c.args.ps.now)
