-- The rows worked by hand are what the definitions give.
use mathlib.Core.Path.{◌≡◌, refl}
use Rattle.std.specs.Prelude.{Err}
use Rattle.places.specs.Refusals.{no_refusal}
use Rattle.places.specs.declared.refusal.Refusal.TheVariants.{Number}
use Rattle.cut.proofs.Computed as Cut
use Rattle.inside.proofs.Computed as Inside
use Rattle.clip_step.proofs.Computed as Trim
use Rattle.places.specs.Loops.{fold_list, count_of}
use Rattle.floats.specs.Pick.{magnitude_of, largest_of}
use Rattle.floats.specs.Root.{root_of}
use Rattle.flat.specs.Flat.{area_side, summed_area_of, signed_area_of}
use Rattle.work_lists.specs.WorkLists.{run_of, clipped_of}
use Rattle.clip_step.specs.Doubled.{square_of, dist3_of, largest_coordinate, doubled_within, spaced_from, spaced_of, opened_of}
use Rattle.clip_step.specs.Doubled.{without_doubled}
use Rattle.clip.specs.Clip.{cut_change, plane_change, clip_face_of}
use Rattle.planar.specs.Planar.{edge_change, clip_convex_of, intersection_area_of}
use mathlib.Core.List.{[], ◌∷◌}
use lib.Ieee.{binary64, of_bits, lt}
use Rattle.cell.specs.Refusals.{refusal_of, first_row, size_refused, points_refused, number_refused, out_of_range, ends_refused}
use Rattle.cell.specs.Refusals.{index_refused}
use Rattle.demand3.specs.Cube.{cube, hex_corners, hex_ends}
use Rattle.worked.specs.Table.{given, stated, Claim, beside}

-- every definition on the way to an answer: 'unfolding computed' opens them all
unfoldable pub computed : Unit {0}
unfolding Cut.computed Inside.computed Trim.computed lt fold_list count_of root_of magnitude_of largest_of area_side summed_area_of
    signed_area_of run_of clipped_of square_of dist3_of largest_coordinate doubled_within spaced_from spaced_of opened_of without_doubled
    cut_change plane_change clip_face_of edge_change clip_convex_of intersection_area_of
computed = tt

pub worked : Claim
unfolding computed
worked = refl

pub worked_beside : given beside ≡ stated beside
unfolding computed
worked_beside = refl

-- the table of SCOPE 3 does not refuse all: the unit cube passes, and with a query value above 2 ^ 40 it is refused 2
pub cube_passes : refusal_of cube hex_corners hex_ends [] [] ≡ no_refusal
unfolding computed refusal_of first_row size_refused points_refused number_refused out_of_range ends_refused index_refused
cube_passes = refl

pub far_query_refused : refusal_of cube hex_corners hex_ends (of_bits binary64 0x4270_0000_0000_0001 ∷ []) [] ≡ Err Number
unfolding computed refusal_of first_row size_refused points_refused number_refused out_of_range ends_refused index_refused
far_query_refused = refl
