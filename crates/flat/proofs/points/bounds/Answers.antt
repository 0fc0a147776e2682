-- `flat::points::bounds` meets its contract: b is the box of the points before the place, and those that are left widen it to the box of
-- all; no coordinate of it is a NaN, as `widen` asks.
use mathlib.Core.Path.{refl}
use native.Mathlib.Omega.{arith}
use lib.Ieee.{of_bits}
use Rattle.places.proofs.Loops.{take_start, take_next, take_end}
use Rattle.flat.specs.Points.{bounds_of}
use Rattle.flat.proofs.Boxes.{no_box_made, numbers_start, numbers_widened}
use Rattle.flat.proofs.points.bounds.Goals as goal

pub loop-p-init : goal.loop-p-init
unfolding bounds_of of_bits
loop-p-init g c = rw (no_box_made g.row.N) (take_start refl, numbers_start g.row.N)

pub loop-p-preserved : goal.loop-p-preserved
loop-p-preserved g c =
    (take_next c.p-item.result c.loop-p.invariant.0 (omega arith) (cc), numbers_widened _ c.loop-p.invariant.1 c.widen-t.ensures)

pub returns : goal.returns
returns g c = take_end c.loop-p.invariant.0 (omega arith)
