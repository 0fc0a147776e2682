-- The rows on triangles that are checked are what the definitions give: both sides compute to the same list.
use mathlib.Core.Path.{refl}
use Rattle.places.specs.Loops.{any_of}
use Rattle.places.specs.Ring.{next_of, places_below}
use Rattle.places.specs.Stored.{in_threes, joined}
use Rattle.exact.specs.Sides.{runs}
use Rattle.exact.specs.Facing.{doubled}
use Rattle.cut.specs.Cut.{cut_by_place}
use Rattle.cut.proofs.Computed as Cut
use Rattle.cut_check.specs.CutCheck.{face_side, not_different, own_way, each_way, is_cut_of}
use Rattle.cell.specs.Refusals.{first_row, index_refused}
use Rattle.refusals.specs.Refusals.{check_size_refused, check_refusal}
use Rattle.geometry.specs.CheckCut.{check_cut_answer}
use Rattle.worked.specs.CheckCut.{Claim}

-- every definition on the way to an answer
unfoldable checked : Unit {0}
unfolding any_of next_of places_below in_threes joined runs doubled face_side not_different own_way each_way is_cut_of first_row
    index_refused
checked = tt

unfoldable computed : Unit {0}
unfolding Cut.computed checked check_size_refused check_refusal check_cut_answer cut_by_place
computed = tt

pub worked_check_cut : Claim
unfolding computed
worked_check_cut = record { checked = refl; own = refl }
