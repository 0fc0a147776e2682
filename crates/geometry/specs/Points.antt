-- What the entries on lists of points answer: points of space are stored in threes, points of the plane in pairs.
use Rattle.std.specs.Prelude.{List, Float, Ok}
use Rattle.places.specs.Refusals.{Check, no_refusal}
use Rattle.places.specs.Stored.{in_pairs, joined}
use Rattle.flat.specs.Points.{vertices_of, centroid_of, bounds_of}
use Rattle.flat.specs.Flat.{newell_of, signed_area_of, ccw_of}
use Rattle.local.specs.Local.{origin_of, moved_by}
use Rattle.refusals.specs.Refusals.{list_refusal, local_refusal, plane_refusal}
use Rattle.geometry.specs.declared.Point3.{Point3}
use Rattle.geometry.specs.declared.Point2.{Point2}
use Rattle.geometry.specs.declared.Bounds3.{Bounds3}
use Rattle.geometry.specs.declared.Bounds2.{Bounds2}
use Rattle.geometry.specs.Answers.{Answer, answered, beside, named3, named2, bounds3, bounds2}

-- newell_normal: the Newell sums
unfoldable pub newell_normal_answer : List Float → Answer Point3
newell_normal_answer coords = answered (list_refusal coords) (named3 (newell_of (vertices_of coords)))

-- vertex_centroid: the mean of the points
unfoldable pub vertex_centroid_answer : List Float → Answer Point3
vertex_centroid_answer coords = answered (list_refusal coords) (named3 (centroid_of 3 (vertices_of coords)))

-- list_bounds: the box of the points
unfoldable pub list_bounds_answer : List Float → Answer Bounds3
list_bounds_answer coords = answered (list_refusal coords) (bounds3 (bounds_of 3 (vertices_of coords)))

-- to_local: the vector by which the vertices move, and the list afterwards
unfoldable pub to_local_answer : List Float → Answer Point3 × List Float
to_local_answer coords =
    let origin = origin_of (vertices_of coords) in
    let moved = joined (moved_by origin (vertices_of coords)) in
    beside (local_refusal coords) (Ok (named3 origin), moved) coords

-- local_origin: that vector, and nothing is moved
unfoldable pub local_origin_answer : List Float → Answer Point3
local_origin_answer coords = answered (local_refusal coords) (named3 (origin_of (vertices_of coords)))

-- signed_area2: above 0 where the outline runs counterclockwise
unfoldable pub signed_area2_answer : List Float → Answer Float
signed_area2_answer ps = answered (plane_refusal ps) (signed_area_of (in_pairs ps))

-- vertex_centroid2: the mean of the points
unfoldable pub vertex_centroid2_answer : List Float → Answer Point2
vertex_centroid2_answer ps = answered (plane_refusal ps) (named2 (centroid_of 2 (in_pairs ps)))

-- bounds2: the box of the points
unfoldable pub bounds2_answer : List Float → Answer Bounds2
bounds2_answer ps = answered (plane_refusal ps) (bounds2 (bounds_of 2 (in_pairs ps)))

-- into_ccw2: the answer, and the list afterwards, the outline turned counterclockwise
unfoldable pub into_ccw2_answer : List Float → Check × List Float
into_ccw2_answer ps = beside (plane_refusal ps) (no_refusal, joined (ccw_of (in_pairs ps))) ps
