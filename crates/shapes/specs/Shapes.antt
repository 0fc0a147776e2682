-- The fixed shapes: signed volumes, and containment by the one ray test. Each step is one operation of f64, in the order that the Rust has.
use Rattle.std.specs.Prelude.{Bool, List, ℕ, get_or, Float}
use Rattle.places.specs.Loops.{fold_list}
use Rattle.floats.specs.F64.{◌+f◌, ◌/f◌, zero64, six64}
use Rattle.flat.specs.Points.{Point, vertex_of, minus_of}
use Rattle.volume.specs.Volume.{triple_of}
use Rattle.inside.specs.Ray.{differ}
use Rattle.inside.specs.Inside.{contains_of}
use Rattle.shapes.specs.Tables.{tet4_faces, wedge6_tet, wedge6_tri_faces, wedge6_quad_faces, hex8_faces, hex8_tet}

-- tet_volume: a sixth of the triple product of the three edges from a
unfoldable pub tet_volume_of : Point → Point → Point → Point → Float
tet_volume_of a b c d = triple_of (minus_of 3 b a) (minus_of 3 c a) (minus_of 3 d a) /f six64

-- the volume of the tetrahedron whose corners have the numbers of a row
unfoldable pub tet_by : List Point → List ℕ → Float
tet_by ps row =
    tet_volume_of
    (vertex_of ps (get_or row 0 0)) (vertex_of ps (get_or row 1 0)) (vertex_of ps (get_or row 2 0)) (vertex_of ps (get_or row 3 0))

abbrev pub add_tet : List Point → List ℕ → Float → Float
add_tet ps row v = v +f tet_by ps row

-- the volumes of the tetrahedra of a table, added in order
unfoldable pub volume_by : List (List ℕ) → List Point → Float
volume_by table ps = fold_list (add_tet ps) table zero64

-- wedge_volume, hex_volume
unfoldable pub wedge_volume_of : List Point → Float
wedge_volume_of ps = volume_by wedge6_tet ps

unfoldable pub hex_volume_of : List Point → Float
hex_volume_of ps = volume_by hex8_tet ps

-- tet_contains, hex_contains: an odd number of the faces is crossed
unfoldable pub tet_contains_of : Point → List Point → Bool
tet_contains_of point ps = contains_of ps point tet4_faces

unfoldable pub hex_contains_of : Point → List Point → Bool
hex_contains_of point ps = contains_of ps point hex8_faces

-- wedge_contains: exactly one of the two counts is odd, that of the quadrilaterals and that of the triangles
unfoldable pub wedge_contains_of : Point → List Point → Bool
wedge_contains_of point ps = differ (contains_of ps point wedge6_quad_faces) (contains_of ps point wedge6_tri_faces)
