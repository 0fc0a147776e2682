-- The rows on the areas of faces are what the definitions give: both sides compute to the same list.
use mathlib.Core.Path.{refl}
use Rattle.exact.specs.Scaled.{exact_in, exact_of}
use Rattle.exact.specs.Space.{plus, cross, area, areas}
use Rattle.cut.proofs.Computed as Cut
use Rattle.demand3.specs.Demand3.{exact_point, place_of}
use Rattle.worked.specs.Area.{Claim}

-- every definition on the way to an answer
unfoldable computed : Unit {0}
unfolding Cut.computed exact_in exact_of plus cross area areas exact_point place_of
computed = tt

pub worked_area : Claim
unfolding computed
worked_area = refl
