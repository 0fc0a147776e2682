use mathlib.Core.List.{[]}
use Prim.Native.Nat.{ℕ}
use lib.ListN.{get_or}
use Rattle.floats.specs.Pick.{least_of, largest_of}
use Rattle.flat.specs.Points.{at}
use Rattle.flat.proofs.Coordinates.{Writing}
use Rattle.flat.proofs.points.widen.Given as goal

abbrev pub invariant-loop-k : goal.invariant-loop-k
invariant-loop-k g l =
    let low = get_or l.fn.b 0 [] in
    let high = get_or l.fn.b 1 [] in
    Writing (λ (k : ℕ). least_of (at low k) (at l.p k)) low g.row.N l.k l.low
    × Writing (λ (k : ℕ). largest_of (at high k) (at l.p k)) high g.row.N l.k l.high
