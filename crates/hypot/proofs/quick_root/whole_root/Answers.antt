-- `hypot::quick_root::whole_root` meets its contract. The invariant: a is below the square of r + 1, and r is at most 2 ^ 30.
-- The measure is r (proofs/Newton.antt).
use Prim.Native.Nat.{◌/◌, ◌^◌, ◌≤◌}
use native.Mathlib.Nat.{div-le_of_le-mul}
use native.Mathlib.Omega.{arith}
use Rattle.hypot.proofs.Newton.{newton_above}
use Rattle.hypot.proofs.quick_root.whole_root.Goals as goal
use Rattle.hypot.proofs.quick_root.whole_root.Goals.{After-guess-g}

quotient_le : (c : After-guess-g) → c.args.a / c.guess-g.result ≤ 2 ^ 30
quotient_le c = div-le_of_le-mul c.guess-g.result (omega arith)

pub loop-r-init : goal.loop-r-init
loop-r-init c = (newton_above c.args.a c.guess-g.result (omega arith), omega (arith, quotient_le (goal.at.loop-r-init c).After-guess-g))
