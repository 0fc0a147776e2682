-- Containment worked out: one name that opens every definition on the way to an answer.
use lib.Ieee.{of_bits, add, sub, mul, div, lt, le}
use Rattle.places.specs.Loops.{fold_list}
use Rattle.places.specs.Stored.{in_threes}
use Rattle.floats.specs.Pick.{magnitude_of, largest_of}
use Rattle.flat.specs.Points.{corners_of}
use Rattle.flat.specs.Flat.{newell_side, newell_of, axis_of, project2_of, point_of, points_of}
use Rattle.cell.specs.Faces.{faces_of}
use Rattle.inside.specs.Ray.{meets_at, passes, pass_side, in_outline, along_of, distance_ahead, ray_crosses}
use Rattle.inside.specs.Inside.{cross_face, contains_of, marked_from, cross_marked, phed_contains_of}

-- 'unfolding computed' opens them all
unfoldable pub computed : Unit {0}
unfolding of_bits add sub mul div lt le fold_list in_threes magnitude_of largest_of corners_of newell_side newell_of axis_of project2_of
    point_of points_of faces_of meets_at passes pass_side in_outline along_of distance_ahead ray_crosses cross_face contains_of marked_from
    cross_marked phed_contains_of
computed = tt
