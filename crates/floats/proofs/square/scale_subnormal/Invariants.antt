-- `floats::square::scale_subnormal` meets its contract. The invariant: a is b times 4 ^ d, and below 2 ^ 54.
-- The measure is what is left up to that.
use mathlib.Core.Path.{◌≡◌}
use Prim.Native.Nat.{◌-◌, ◌*◌, ◌^◌, ◌<◌}
use Rattle.floats.proofs.square.scale_subnormal.Given as goal

abbrev pub invariant-loop-a : goal.invariant-loop-a
invariant-loop-a l = (0 < l.a) × (l.a < 2 ^ 54) × (l.a ≡ l.b * (2 ^ l.d * 2 ^ l.d))

abbrev pub decreases-loop-a : goal.decreases-loop-a
decreases-loop-a l = 2 ^ 54 - l.a
