-- `closedness::Chains::tally_chain` meets its contract: what is left of the chain makes, with the tally, the whole chain; and since the
-- chain goes on at an earlier place each time, no entry and no gap can exceed the place it started from.
use mathlib.Core.Path.{refl}
use Prim.Native.Nat.{◌-◌, ◌<◌}
use native.Mathlib.Omega.{arith}
use lib.ListN.{get_or}
use Rattle.closedness.proofs.Tallying.{rising_more, rest_more, rest_end}
use Rattle.closedness.proofs.Chains.tally_chain.Goals as goal

pub loop-h-preserved : goal.loop-h-preserved
loop-h-preserved g c =
    let self = c.args.self.now in
    let code = self.codes (c.loop-h.h - 1) in
    let less : get_or self.next (c.loop-h.h - 1) 0 < c.loop-h.h = omega (arith, self.back (c.loop-h.h - 1)) in
    record {
      within = omega arith;
      gap_is = c.raise-gap.ensures.1;
      gap_small = omega (arith, c.raise-gap.ensures.2);
      rising = rising_more c.loop-h.invariant.rising code less c.raise-gap.ensures.0;
      rest = λ cs k.
          rest_more (c.loop-h.invariant.rest cs k) c.loop-h-test.true c.loop-h.invariant.rising.size code refl refl
          c.raise-gap.ensures.0;
    }

pub returns-clause-by_index : goal.returns-clause-by_index
returns-clause-by_index g c cs k = rest_end (c.loop-h.invariant.rest cs k) (omega arith)
