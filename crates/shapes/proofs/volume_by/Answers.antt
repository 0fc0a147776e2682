-- `shapes::volume_by` meets its contract: each pass adds the volume of one row, so the rows that are left make, with the sum so far, the
-- whole sum (`Taking`).
use mathlib.Core.Path.{refl}
use mathlib.Core.List.{[]}
use Rattle.places.proofs.Loops.{take_start, take_next, take_end}
use Rattle.shapes.specs.Shapes.{volume_by}
use native.Mathlib.Omega.{arith}
use Rattle.shapes.proofs.volume_by.Goals as goal

pub loop-row-init : goal.loop-row-init
unfolding volume_by
loop-row-init c = take_start refl

pub loop-row-preserved : goal.loop-row-preserved
loop-row-preserved c =
    take_next [] c.loop-row.invariant (omega arith) (cc)

pub returns : goal.returns
returns c = take_end c.loop-row.invariant (omega arith)
