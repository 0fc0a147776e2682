-- `cut_check::Chains::stamp_before` meets its contract: what is left of the chain makes, with the stamps, the whole; and the chain ends,
-- since it goes on at an earlier corner each time.
use mathlib.Core.Path.{refl}
use Prim.Native.Nat.{◌-◌}
use native.Mathlib.Omega.{arith}
use Rattle.cut_check.proofs.Stamps.{write_more, write_end}
use Rattle.cut_check.proofs.Chains.stamp_before.Goals as goal

pub loop-h-preserved : goal.loop-h-preserved
loop-h-preserved c = record {
  within = omega (arith, c.args.self.now.back (c.loop-h.h - 1));
  writing = λ ps k. write_more (c.loop-h.invariant.writing ps k) c.loop-h-test.true refl c.place_before-b.ensures;
}

pub returns : goal.returns
returns c ps k = write_end (c.loop-h.invariant.writing ps k) (omega arith)
