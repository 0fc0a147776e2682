-- `flat::points::widen` meets its contract: after the last coordinate each of the low corner is the lesser and each of the high one the
-- greater (proofs/Coordinates.antt).
use native.Mathlib.Omega.{arith}
use Rattle.flat.specs.Points.{widen_of}
use Rattle.flat.proofs.Coordinates.{write_end}
use Rattle.flat.proofs.points.widen.Goals as goal

pub returns : goal.returns
unfolding widen_of
returns g c = rw (← write_end c.loop-k.invariant.0 (omega arith), ← write_end c.loop-k.invariant.1 (omega arith))
