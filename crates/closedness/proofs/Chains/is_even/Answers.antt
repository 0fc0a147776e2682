-- `closedness::Chains::is_even` meets its contract: after the chains of the vertices below m there is no gap, so each of them is even; and
-- the first chain that leaves a gap is not.
use mathlib.Core.Path.{refl}
use Prim.Native.Nat.{◌≤◌}
use native.Mathlib.Omega.{arith}
use lib.ListN.{get_or, take}
use Rattle.places.proofs.Stamps.{zeros}
use Rattle.closedness.proofs.Tallying.{level_start, level_more, chain_at, among}
use Rattle.closedness.proofs.Tallying.{even_more, uneven_at, even_no}
use Rattle.closedness.proofs.Chains.is_even.Goals as goal

pub loop-first-init : goal.loop-first-init
loop-first-init g c = record { level = level_start refl (zeros 512); even = λ l t i j h b. absurd (omega arith) }

pub returns-then-tally_chain-gt0 : goal.returns-then-tally_chain-gt0
returns-then-tally_chain-gt0 g c l t =
    let here = among c.args.self.now.head c.args.v c.loop-first.first-index c.loop-first-test.true in
    let tallied = c.tally_chain.ensures.by_index _ (chain_at t (omega arith) here.read) in
    even_no (uneven_at c.loop-first.first-index l c.loop-first.invariant.level.no_gap tallied (omega arith))

pub loop-first-preserved : goal.loop-first-preserved
loop-first-preserved g c =
    let self = c.args.self.now in
    let here = among self.head c.args.v c.loop-first.first-index c.loop-first-test.true in
    let few : get_or (take c.args.v self.head) c.loop-first.first-index 0 ≤ 2048 =
    omega (arith, self.first c.loop-first.first-index, self.few, here.read) in
    let level = level_more c.loop-first.invariant.level few c.tally_chain.ensures.value.1 (omega arith) in
    record {
      level = level;
      even = λ l t.
          even_more c.loop-first.first-index l c.loop-first.invariant.level.no_gap
          (c.tally_chain.ensures.by_index _ (chain_at t (omega arith) here.read)) level.no_gap (c.loop-first.invariant.even l t);
    }
