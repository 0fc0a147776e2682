use Prim.Native.Nat.{◌+◌, ◌*◌, ◌^◌, ◌≤◌, ◌<◌}
use Rattle.hypot.proofs.quick_root.whole_root.Given as goal

abbrev pub invariant-loop-r : goal.invariant-loop-r
invariant-loop-r l = (l.a < (l.r + 1) * (l.r + 1)) × (l.r ≤ 2 ^ 30)

abbrev pub decreases-loop-r : goal.decreases-loop-r
decreases-loop-r l = l.r
