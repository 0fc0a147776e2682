-- `cut_check::Chains::paired` meets its contract: after a turns the places before a are paired and every stamp is below a + 1, so that the
-- one of the place a is new; and the first place that is not paired is the answer no.
use native.Mathlib.Omega.{arith}
use Rattle.cut_check.proofs.Pairing.{below_more}
use Rattle.cut_check.proofs.Chains.paired.Goals as goal

pub paired_at-requires : goal.paired_at-requires
paired_at-requires c = record {
  chain = rw (c.read.ensures) (c.requires.lists.chain c.loop-a.a);
  stamp_len = (omega arith, omega arith, c.loop-a.invariant.fresh);
}

pub loop-a-preserved : goal.loop-a-preserved
loop-a-preserved c =
    let done = c.if-not-paired_at.false in
    record {
      fresh = c.paired_at.ensures.fresh done;
      paired = below_more c.loop-a.invariant.paired (c.paired_at.ensures.variant.0 done);
    }
