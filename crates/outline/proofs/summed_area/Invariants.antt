use Rattle.places.proofs.Loops.{Rounding}
use Rattle.flat.specs.Flat.{area_side, summed_area_of}
use Rattle.outline.proofs.summed_area.Given as goal

abbrev pub invariant-loop-i : goal.invariant-loop-i
invariant-loop-i l = Rounding area_side l.points (summed_area_of l.points) l.i l.s
