-- The faces that take as many tests as they may are cut as the rows state: both sides of each compute to the same cut.
use mathlib.Core.Path.{refl}
use Rattle.places.specs.Ring.{places_below}
use Rattle.cut.proofs.Computed as Cut
use Rattle.worked.specs.Tests.{Claim}

pub worked_tests : Claim
unfolding Cut.computed places_below
worked_tests = record { four = refl; five = refl; six = refl; seven = refl; eight = refl; nine = refl }
