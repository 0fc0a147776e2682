use Prim.Native.Nat.{ℕ}
use Rattle.floats.specs.F64.{◌/f◌}
use Rattle.flat.specs.Points.{at}
use Rattle.flat.proofs.Coordinates.{Writing}
use Rattle.flat.proofs.over.Given as goal

abbrev pub invariant-loop-x : goal.invariant-loop-x
invariant-loop-x g l = Writing (λ (k : ℕ). at l.initial.x-items k /f l.n) l.initial.x-items g.row.N l.x-index l.x-items
