use Rattle.places.specs.Loops.{any_of}
use Rattle.places.proofs.Loops.{Asking}
use Rattle.planes.specs.Planes.{in_fours}
use Rattle.overlap.specs.Steps.{skip_of}
use Rattle.overlap.proofs.any_coplanar_skip.Given as goal

abbrev pub invariant-loop-i : goal.invariant-loop-i
invariant-loop-i l =
    Asking (skip_of l.other l.plane l.tol) (in_fours l.planes) (any_of (skip_of l.other l.plane l.tol) (in_fours l.planes)) l.i
