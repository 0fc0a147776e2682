-- One plane or one edge against an outline worked out: one name that opens every definition on the way, for whoever computes a row.
use lib.Ieee.{of_int, of_bits, add, sub, mul, div, le, eq}
use Rattle.flat.specs.Flat.{cross2_of, crossing_of}
use Rattle.planes.specs.Planes.{dot_of, distance_of}
use Rattle.clip_step.specs.ClipStep.{trim_from, crossing_at, segment_plane_of, trimmed_by, trimmed_at}

-- 'unfolding computed' opens them all
unfoldable pub computed : Unit {0}
unfolding of_int of_bits add sub mul div le eq cross2_of crossing_of dot_of distance_of trim_from crossing_at segment_plane_of
    trimmed_by trimmed_at
computed = tt
