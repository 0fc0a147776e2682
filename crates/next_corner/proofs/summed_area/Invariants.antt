use Rattle.places.proofs.Loops.{Rounding}
use Rattle.flat.specs.Flat.{area_side, summed_area_of}
use Rattle.next_corner.proofs.summed_area.Given as goal

abbrev pub invariant-loop-i : goal.invariant-loop-i
invariant-loop-i l = Rounding area_side l.ps (summed_area_of l.ps) l.i l.s
