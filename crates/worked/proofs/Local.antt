-- The rows of the move to a local origin are what its definition gives: both sides compute to the same list.
use mathlib.Core.Path.{refl}
use lib.Ieee.{of_bits, of_int, to_signed, add, sub, neg, sum, round, le}
use Rattle.places.specs.Loops.{any_of}
use Rattle.places.specs.Stored.{in_threes, joined}
use Rattle.exact.specs.Scaled.{exact_in, exact_of}
use Rattle.flat.specs.Points.{minus_of}
use Rattle.cell.specs.Refusals.{first_row, points_refused, number_refused, out_of_range}
use Rattle.local.specs.Local.{whole_of, origin_of, moved_by, lost_of, inexact, stays_behind, move_refused}
use Rattle.refusals.specs.Refusals.{first_refusal, list_refusal, local_refusal}
use Rattle.geometry.specs.Points.{to_local_answer}
use Rattle.worked.specs.Local.{Claim}

-- every definition on the way to an answer
unfoldable computed : Unit {0}
unfolding of_bits of_int to_signed add sub neg sum round le any_of in_threes joined exact_in exact_of minus_of first_row points_refused
    number_refused out_of_range whole_of origin_of moved_by lost_of inexact stays_behind move_refused first_refusal list_refusal
    local_refusal to_local_answer
computed = tt

pub worked_local : Claim
unfolding computed
worked_local = refl
