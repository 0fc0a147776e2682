use Prim.Native.Nat.{ℕ}
use Rattle.floats.specs.F64.{◌+f◌}
use Rattle.flat.specs.Points.{at}
use Rattle.flat.proofs.Coordinates.{Writing}
use Rattle.flat.proofs.plus.Given as goal

abbrev pub invariant-loop-k : goal.invariant-loop-k
invariant-loop-k g l = Writing (λ (k : ℕ). at l.initial.s k +f at l.p k) l.initial.s g.row.N l.k l.s
