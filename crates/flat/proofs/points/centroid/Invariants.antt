use Prim.Native.Nat.{ℕ}
use Rattle.places.specs.Loops.{fold_list}
use Rattle.places.proofs.Loops.{Taking}
use Rattle.floats.specs.F64.{zero64}
use Rattle.flat.specs.Points.{point_by, plus_of}
use Rattle.flat.proofs.points.centroid.Given as goal

abbrev pub invariant-loop-p : goal.invariant-loop-p
invariant-loop-p g l =
    let sum = plus_of g.row.N in
    Taking sum l.points (fold_list sum l.points (point_by g.row.N (λ (k : ℕ). zero64))) l.p-index l.s
