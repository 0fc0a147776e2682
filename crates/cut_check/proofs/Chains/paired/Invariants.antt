use Prim.Native.Nat.{◌+◌}
use Rattle.places.specs.Steps.{Fresh}
use Rattle.places.specs.Stored.{in_threes}
use Rattle.cut_check.specs.Steps.{PairedBelow}
use Rattle.cut_check.proofs.Chains.paired.Given as goal

abbrev pub invariant-loop-a : goal.invariant-loop-a
invariant-loop-a l = record {
  fresh : Fresh (l.a + 1) l.stamp;
  paired : PairedBelow l.self.n (in_threes l.self.corners.now) l.a;
}
