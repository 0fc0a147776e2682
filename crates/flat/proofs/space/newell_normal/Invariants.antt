use Rattle.places.proofs.Loops.{Rounding}
use Rattle.flat.specs.Flat.{newell_side, newell_of}
use Rattle.flat.proofs.space.newell_normal.Given as goal

abbrev pub invariant-loop-i : goal.invariant-loop-i
invariant-loop-i l = Rounding newell_side l.points (newell_of l.points) l.i l.s
