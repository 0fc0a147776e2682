-- Rows worked out from the definitions, which a reader can do by hand: the unit cube, the half of it that is a wedge, and the tetrahedron
-- at its corner 0.
use mathlib.Core.Path.{◌≡◌, refl}
use mathlib.Core.Bool.{true, false}
use mathlib.Core.List.{List, [], ◌∷◌}
use lib.Ieee.{Float, binary64, of_bits}
use Rattle.floats.specs.F64.{zero64, one64, six64, ◌/f◌}
use Rattle.flat.specs.Points.{Point, minus_of}
use Rattle.volume.specs.Volume.{triple_of}
use Rattle.inside.proofs.Computed as Inside
use Rattle.shapes.specs.Shapes.{tet_volume_of, tet_by, volume_by, wedge_volume_of, hex_volume_of, tet_contains_of, wedge_contains_of}
use Rattle.shapes.specs.Shapes.{hex_contains_of}

-- 'unfolding computed' opens every definition on the way to an answer
unfoldable pub computed : Unit {0}
unfolding Inside.computed minus_of triple_of tet_volume_of tet_by volume_by wedge_volume_of hex_volume_of
    tet_contains_of wedge_contains_of hex_contains_of
computed = tt

abbrev pub point : Float → Float → Float → Point
point x y z = x ∷ y ∷ z ∷ []

abbrev pub half : Float
half = of_bits binary64 0x3fe0_0000_0000_0000

abbrev pub quarter : Float
quarter = of_bits binary64 0x3fd0_0000_0000_0000

-- ---- the tetrahedron (0,0,0), (1,0,0), (0,1,0), (0,0,1)
abbrev pub tet : List Point
tet = point zero64 zero64 zero64 ∷ point one64 zero64 zero64 ∷ point zero64 one64 zero64 ∷ point zero64 zero64 one64 ∷ []

pub tet_volume : tet_by tet (0 ∷ 1 ∷ 2 ∷ 3 ∷ []) ≡ one64 /f six64
unfolding computed
tet_volume = refl

-- with two corners exchanged its volume has the other sign: the volumes are signed
pub turned_volume : tet_by tet (0 ∷ 2 ∷ 1 ∷ 3 ∷ []) ≡ of_bits binary64 0xbfc5_5555_5555_5555
unfolding computed
turned_volume = refl

pub tet_holds : tet_contains_of (point quarter quarter quarter) tet ≡ true
unfolding computed
tet_holds = refl

pub tet_leaves_out : tet_contains_of (point half half half) tet ≡ false
unfolding computed
tet_leaves_out = refl

-- ---- the wedge on the triangle (0,0), (1,0), (0,1), from z = 0 to z = 1
abbrev pub wedge : List Point
wedge =
    point zero64 zero64 zero64 ∷ point one64 zero64 zero64 ∷ point zero64 one64 zero64
    ∷ point zero64 zero64 one64 ∷ point one64 zero64 one64 ∷ point zero64 one64 one64 ∷ []

pub wedge_volume : wedge_volume_of wedge ≡ half
unfolding computed
wedge_volume = refl

pub wedge_holds : wedge_contains_of (point quarter quarter half) wedge ≡ true
unfolding computed
wedge_holds = refl

-- ---- the cube of SCOPE 15
abbrev pub cube : List Point
cube =
    point zero64 zero64 zero64 ∷ point one64 zero64 zero64 ∷ point one64 one64 zero64 ∷ point zero64 one64 zero64
    ∷ point zero64 zero64 one64 ∷ point one64 zero64 one64 ∷ point one64 one64 one64 ∷ point zero64 one64 one64 ∷ []

-- six times a rounded sixth: the f64 just below 1
pub cube_volume : hex_volume_of cube ≡ of_bits binary64 0x3fef_ffff_ffff_ffff
unfolding computed
cube_volume = refl

pub cube_holds : hex_contains_of (point half half half) cube ≡ true
unfolding computed
cube_holds = refl

-- x = 1 is outside
pub cube_leaves_out : hex_contains_of (point one64 half half) cube ≡ false
unfolding computed
cube_leaves_out = refl
