use mathlib.Core.List.{List}
use Prim.Native.Nat.{ℕ, ◌≤◌}
use lib.ListN.{length}
use Rattle.cut_check.specs.Steps.{place_before, Chain}
use Rattle.cut_check.proofs.Stamps.{Writing}
use Rattle.cut_check.proofs.Chains.stamp_before.Given as goal

abbrev pub invariant-loop-h : goal.invariant-loop-h
invariant-loop-h l = record {
  within : l.h ≤ length l.self.corners.now;
  writing : (ps : List ℕ) → Chain l.self.next.now l.first ps
      → Writing l.self.next.now (place_before l.self.corners.now) l.own ps l.initial.stamp l.h l.stamp;
}

abbrev pub decreases-loop-h : goal.decreases-loop-h
decreases-loop-h l = l.h
