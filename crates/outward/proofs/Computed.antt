-- Convexity and turning worked out: one name that opens every definition on the way to an answer.
use lib.Ieee.{of_int, of_bits, add, sub, mul, div, neg, lt, le}
use Rattle.places.specs.Loops.{fold_list, any_of}
use Rattle.places.specs.Stored.{in_threes, joined}
use Rattle.floats.specs.Pick.{magnitude_of, largest_of}
use Rattle.flat.specs.Points.{plus_of, minus_of, over_of, corners_of, centroid_of}
use Rattle.flat.specs.Flat.{newell_side, newell_of}
use Rattle.cell.specs.Faces.{faces_of}
use Rattle.cell.specs.Refusals.{first_row, out_of_range, is_empty, points_refused, size_refused, number_refused, ends_refused}
use Rattle.cell.specs.Refusals.{index_refused, empty_refused, refusal_of}
use Rattle.planes.specs.Planes.{dot_of, offset_of}
use Rattle.outward.specs.Convexity.{tolerance_of, level_of, above, below, has_corner, other_vertices_from, plane_parts, face_parts}
use Rattle.outward.specs.Convexity.{compute_convexity_of}
use Rattle.outward.specs.Outward.{away_of, outward_of, outward_corners}

-- 'unfolding computed' opens them all
unfoldable pub computed : Unit {0}
unfolding of_int of_bits add sub mul div neg lt le fold_list any_of in_threes joined magnitude_of largest_of plus_of minus_of over_of
    corners_of centroid_of newell_side newell_of faces_of first_row out_of_range is_empty points_refused
    size_refused number_refused ends_refused index_refused empty_refused refusal_of dot_of offset_of tolerance_of level_of above
    below has_corner other_vertices_from plane_parts face_parts compute_convexity_of away_of outward_of outward_corners
computed = tt
