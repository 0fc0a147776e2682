use mathlib.Core.Path.{◌≡◌}
use lib.ListN.{length}
use Rattle.planes.specs.Planes.{in_fours}
use Rattle.overlap.proofs.Sifting.{Sifting}
use Rattle.overlap.proofs.other_planes.Given as goal

abbrev pub invariant-loop-i : goal.invariant-loop-i
invariant-loop-i l =
    (length l.kept ≡ length l.initial.kept) ×
    Sifting l.plane l.tol (in_fours l.planes) (in_fours l.initial.kept) l.i l.m (in_fours l.kept)
