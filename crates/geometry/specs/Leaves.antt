-- What the entries answer that refuse nothing: leaves on f64, points and planes, and the fixed shapes.
-- Any bits pass, and each answer is the room's definition itself, passed on here.
use Rattle.std.specs.Prelude.{Bool, List, Float}
unfoldable pub use Rattle.std.specs.Float.Ieee.{of_bits, to_bits}
unfoldable pub use Rattle.floats.specs.Pick.{magnitude_of, least_of, largest_of}
unfoldable pub use Rattle.floats.specs.Root.{root_of}
unfoldable pub use Rattle.hypot.specs.Hypot.{hypot_of}
use Rattle.flat.specs.Points.{Point}
use Rattle.flat.specs.Points.{vertex_of}
pub use Rattle.flat.specs.Points.{vertices_of}
unfoldable pub use Rattle.flat.specs.Flat.{cross2_of, axis_of, project2_of, crossing_of}
unfoldable pub use Rattle.clip_step.specs.ClipStep.{segment_plane_of}
unfoldable pub use Rattle.shapes.specs.Shapes.{tet_volume_of, wedge_volume_of, hex_volume_of}
unfoldable pub use Rattle.shapes.specs.Shapes.{tet_contains_of, wedge_contains_of, hex_contains_of}
use Rattle.planes.specs.Planes.{same_side, coplanar_opposite}
use Rattle.planes.specs.declared.Plane as planes
use Rattle.geometry.specs.declared.Plane.{Plane}

-- a plane as an entry takes it
abbrev pub plane_taken : Plane → planes.Plane
plane_taken p = record { n = p.n; d = p.d }

-- plane_same_side: whether two planes are the same with the inside on the same side
unfoldable pub plane_same_side_answer : Plane → Plane → Float → Bool
plane_same_side_answer a b tol = same_side (plane_taken a) (plane_taken b) tol

-- plane_coplanar_opposite: whether two planes are the same with the inside on opposite sides
unfoldable pub plane_coplanar_opposite_answer : Plane → Plane → Float → Bool
plane_coplanar_opposite_answer a b tol = coplanar_opposite (plane_taken a) (plane_taken b) tol

-- tet_volume of four corners in a list
abbrev pub tet_volume_of_list : List Point → Float
tet_volume_of_list vs = tet_volume_of (vertex_of vs 0) (vertex_of vs 1) (vertex_of vs 2) (vertex_of vs 3)
