use mathlib.Core.Path.{◌≡◌}
use mathlib.Core.List.{List}
use Prim.Native.Nat.{ℕ, ◌+◌, ◌≤◌}
use Rattle.closedness.specs.Steps.{Chain, gap_of}
use Rattle.closedness.proofs.Tallying.{Rising, Rest}
use Rattle.closedness.proofs.Chains.tally_chain.Given as goal

abbrev pub invariant-loop-h : goal.invariant-loop-h
invariant-loop-h g l = record {
  within : l.h ≤ l.first;
  gap_is : l.gap ≡ gap_of l.tally;
  gap_small : l.gap + l.h ≤ l.first;
  rising : Rising l.first l.initial.tally l.h l.tally;
  rest : (cs : List ℕ) → Chain l.self.next l.self.other l.first cs → Rest l.self.next l.self.other l.h cs l.initial.tally l.tally;
}

abbrev pub decreases-loop-h : goal.decreases-loop-h
decreases-loop-h g l = l.h
