-- A cut worked out: one name that opens every definition on the way to it, for whoever computes a row.
use lib.Ieee.{of_int, of_bits, add, sub, mul, neg, lt, le, eq}
use Rattle.places.specs.Loops.{any_of, first_from, fold_list}
use Rattle.places.specs.Lists.{without}
use Rattle.places.specs.Stored.{in_threes}
use Rattle.places.specs.Ring.{prev_of, next_of, ear_of}
use Rattle.floats.specs.Pick.{magnitude_of}
use Rattle.flat.specs.Points.{corners_of}
use Rattle.flat.specs.Flat.{cross2_of, newell_side, newell_of, axis_of, project2_of, area_side, summed_area_of, point_of, points_of}
use Rattle.next_corner.specs.NextCorner.{direction_of, turns_of, same_of, strictly_in, blocks_of, blocked_of, turns_at, ear_at, find_ear}
use Rattle.next_corner.specs.NextCorner.{find_turn, find_corner}
use Rattle.cut.specs.Cut.{cut_ring, next_corner_of, cut_in, axis_for, cut_of}

-- numbers and lists
unfoldable ground : Unit {0}
unfolding of_int of_bits add sub mul neg lt le eq any_of first_from without fold_list prev_of next_of ear_of in_threes magnitude_of
ground = tt

-- the plane that a face is seen in
unfoldable seen : Unit {0}
unfolding corners_of cross2_of newell_side newell_of axis_of project2_of area_side summed_area_of point_of points_of
seen = tt

-- the corner that is chosen
unfoldable chosen : Unit {0}
unfolding direction_of turns_of same_of strictly_in blocks_of blocked_of turns_at ear_at find_ear find_turn find_corner
chosen = tt

-- 'unfolding computed' opens them all
unfoldable pub computed : Unit {0}
unfolding ground seen chosen cut_ring next_corner_of cut_in axis_for cut_of
computed = tt
