-- `flat::space::newell_normal` meets its contract: the chunks of three are the points, and the sides that are left make, with the sums so
-- far, the whole (`Rounding`).
use mathlib.Core.Path.{refl, ap, ◌∙◌}
use mathlib.Core.List.{[]}
use native.Mathlib.Omega.{arith}
use Rattle.places.proofs.Loops.{round_start, round_next, round_end}
use Rattle.places.proofs.Stored.{threes_chunks}
use Rattle.flat.specs.Flat.{newell_of}
use Rattle.flat.proofs.space.newell_normal.Goals as goal

pub loop-i-init : goal.loop-i-init
unfolding newell_of
loop-i-init c = round_start refl

pub loop-i-preserved : goal.loop-i-preserved
loop-i-preserved c =
    round_next [] c.loop-i.invariant (omega arith) (cc)

pub returns : goal.returns
returns c =
    round_end c.loop-i.invariant (omega arith) ∙ ap newell_of (c.as_chunks.ensures.front ∙ threes_chunks c.args.coords.now)
