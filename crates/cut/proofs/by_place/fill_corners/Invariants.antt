use mathlib.Core.Path.{◌≡◌}
use Prim.Native.Nat.{ℕ, ◌<◌}
use lib.ListN.{get_or}
use mathlib.Core.List.{[]}
use Rattle.flat.specs.Points.{vertices_of, corners_of}
use Rattle.cut.proofs.by_place.fill_corners.Given as goal

abbrev pub invariant-loop-i : goal.invariant-loop-i
invariant-loop-i l = (k : ℕ) → k < l.i → get_or l.points k [] ≡ get_or (corners_of (vertices_of l.coords) l.face) k []
