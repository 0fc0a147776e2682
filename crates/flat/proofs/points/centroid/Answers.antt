-- `flat::points::centroid` meets its contract: s is the sum of the points before the place, and those that are left make it that of all.
use mathlib.Core.Path.{ap}
use native.Mathlib.Omega.{arith}
use Rattle.places.specs.Loops.{fold_list}
use Rattle.places.proofs.Loops.{take_start, take_next, take_end}
use Rattle.floats.specs.F64.{zero64}
use Rattle.flat.specs.Points.{plus_of, centroid_of}
use Rattle.flat.proofs.Coordinates.{repeated}
use Rattle.flat.proofs.points.centroid.Goals as goal

pub loop-p-init : goal.loop-p-init
loop-p-init g c = take_start (ap (fold_list (plus_of g.row.N) c.args.points.now) (repeated zero64 g.row.N))

pub loop-p-preserved : goal.loop-p-preserved
loop-p-preserved g c = take_next c.p-item.result c.loop-p.invariant (omega arith) (cc)

pub returns : goal.returns
unfolding centroid_of
returns g c = cc (take_end c.loop-p.invariant (omega arith))
