use mathlib.Core.Path.{◌≡◌}
use Prim.Native.Nat.{ℕ, ◌<◌}
use lib.ListN.{get_or}
use mathlib.Core.List.{[]}
use Rattle.flat.specs.Points.{vertices_of}
use Rattle.flat.specs.Flat.{point_of}
use Rattle.cut.proofs.fill_points.Given as goal

abbrev pub invariant-loop-i : goal.invariant-loop-i
invariant-loop-i l = (k : ℕ) → k < l.i → get_or l.ps k [] ≡ point_of (vertices_of l.coords) l.axis (get_or l.face k 0)
