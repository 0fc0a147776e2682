-- `floats::square::scale_subnormal` meets its contract. The invariant: a is b times 4 ^ d, and below 2 ^ 54.
-- The measure is what is left up to that.
use Prim.Native.Nat.{◌<◌}
use native.Mathlib.Omega.{arith}
use Rattle.floats.proofs.Reading.{next_d, few, small_scaled}
use Rattle.floats.proofs.square.scale_subnormal.Goals as goal
use Rattle.floats.proofs.square.scale_subnormal.Goals.{At-loop-a}

few_turns : (c : At-loop-a) → c.loop-a.d < 27
few_turns c = few c.args.b c.loop-a.a c.loop-a.d c.requires.b_nonzero c.loop-a.invariant.1 c.loop-a.invariant.2

pub loop-a-preserved : goal.loop-a-preserved
loop-a-preserved c =
    (omega arith, omega arith, next_d c.args.b c.loop-a.a c.loop-a.d c.loop-a.invariant.2)

pub returns : goal.returns
returns c =
    small_scaled c.args.b c.loop-a.a c.loop-a.d c.requires.b_bound c.loop-a-test.false c.loop-a.invariant.1
    (few_turns (goal.at.returns c).At-loop-a)
    c.loop-a.invariant.2

pub overflow_add-d : goal.overflow_add-d
overflow_add-d c = omega (arith, few_turns (goal.at.overflow_add-d c).At-loop-a)

pub overflow_sub-result : goal.overflow_sub-result
overflow_sub-result c = omega (arith, few_turns (goal.at.overflow_sub-result c).At-loop-a)
