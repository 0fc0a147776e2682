-- `cut_check::Chains::take_after` meets its contract: what is left of the chain asks, of the stamps that are left, what the whole chain
-- asks of all; and the chain ends, since it goes on at an earlier corner each time.
use mathlib.Core.Path.{refl}
use Prim.Native.Nat.{◌-◌}
use native.Mathlib.Omega.{arith}
use Rattle.cut_check.proofs.Stamps.{take_no, take_more, take_end}
use Rattle.cut_check.proofs.Chains.take_after.Goals as goal

pub returns-then-stamp-b : goal.returns-then-stamp-b
returns-then-stamp-b c ps k =
    take_no (c.loop-h.invariant.taking ps k) c.loop-h-test.true c.place_after-b.ensures (λ e. omega (arith, e))

pub loop-h-preserved : goal.loop-h-preserved
loop-h-preserved c = record {
  within = omega (arith, c.args.self.now.back (c.loop-h.h - 1));
  taking = λ ps k. take_more (c.loop-h.invariant.taking ps k) c.loop-h-test.true refl c.place_after-b.ensures (omega arith);
}

pub returns : goal.returns
returns c ps k = take_end (c.loop-h.invariant.taking ps k) (omega arith)
