use mathlib.Core.List.{List}
use Prim.Native.Nat.{ℕ}
use Rattle.closedness.specs.Steps.{Lists}
use Rattle.closedness.proofs.Tallying.{Level, EvenBelow}
use Rattle.closedness.proofs.Chains.is_even.Given as goal

abbrev pub invariant-loop-first : goal.invariant-loop-first
invariant-loop-first g l = record {
  level : Level l.first-index l.tally;
  even : (gone : List (ℕ × ℕ)) → Lists l.self.head l.self.next l.self.other gone → EvenBelow l.first-index gone;
}
