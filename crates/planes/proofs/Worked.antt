-- Planes of small triangles, worked out from the definition: of one whose norm has a square that underflows, of one whose norm is
-- 2 ^ -1024, so that no part of its plane is finite, and of one whose norm is the next f64. Each has area. And faces that have none: of one
-- point, of two, of three in a line, and a bow-tie.
use mathlib.Core.Path.{◌≡◌, refl}
use mathlib.Core.List.{List, [], ◌∷◌}
use mathlib.Core.Bool.{true, false}
use lib.Ieee.{Float, nan, inf, binary64, of_bits, neg, add, sub, mul, div, eq, lt}
use Rattle.places.specs.Loops.{fold_list}
use Rattle.floats.specs.F64.{zero64, one64}
use Rattle.hypot.specs.Hypot.{hypot_of}
use Rattle.flat.specs.Points.{Point}
use Rattle.flat.specs.Flat.{newell_side, newell_of}
use Rattle.planes.specs.Planes.{dot_of, offset_of, norm_of, unit_plane, newell_plane, all_zero, has_no_area, no_area, has_plane, plane_of}
use Rattle.planes.specs.Finite.{too_short}

-- the triangle of the origin, the point at a on the first axis and that at b on the second; its norm is a * b, rounded
abbrev triangle : Float → Float → List Point
triangle a b = (zero64 ∷ zero64 ∷ zero64 ∷ []) ∷ (a ∷ zero64 ∷ zero64 ∷ []) ∷ (zero64 ∷ b ∷ zero64 ∷ []) ∷ []

-- 2 ^ -270
abbrev tiny : Float
tiny = of_bits binary64 0x2f10_0000_0000_0000

-- the norm is 2 ^ -540; its square, 2 ^ -1080, is below the least f64
pub square_underflows : plane_of (triangle tiny tiny) ≡ has_plane (record { n = zero64 ∷ zero64 ∷ one64 ∷ []; d = zero64 })
unfolding plane_of has_no_area all_zero newell_plane unit_plane newell_of fold_list newell_side offset_of dot_of
    hypot_of add sub mul div neg eq of_bits
square_underflows = refl

-- 2 ^ -512, and the fourth f64 after it, 2 ^ -512 + 2 ^ -562
abbrev tinier : Float
tinier = of_bits binary64 0x1ff0_0000_0000_0000

abbrev fourth_after : Float
fourth_after = of_bits binary64 0x1ff0_0000_0000_0004

-- the norm is 2 ^ -1024, and 1 over it is an infinity
pub no_finite_part : plane_of (triangle tinier tinier) ≡ has_plane (record { n = nan ∷ nan ∷ inf false ∷ []; d = nan })
unfolding plane_of has_no_area all_zero newell_plane unit_plane newell_of fold_list newell_side offset_of dot_of
    hypot_of add sub mul div neg eq of_bits
no_finite_part = refl

-- the norm is the next f64, 2 ^ -1024 + 2 ^ -1074
pub next_norm : plane_of (triangle tinier fourth_after) ≡ has_plane (record { n = zero64 ∷ zero64 ∷ one64 ∷ []; d = zero64 })
unfolding plane_of has_no_area all_zero newell_plane unit_plane newell_of fold_list newell_side offset_of dot_of
    hypot_of add sub mul div neg eq of_bits
next_norm = refl

-- it is above `too_short`; that of the triangle before is `too_short` itself
norm_above : lt too_short (norm_of (newell_of (triangle tinier fourth_after))) ≡ true
unfolding newell_of fold_list newell_side hypot_of add sub mul lt of_bits
norm_above = refl

norm_at : norm_of (newell_of (triangle tinier tinier)) ≡ too_short
unfolding newell_of fold_list newell_side hypot_of add sub mul of_bits
norm_at = refl

-- ---- no area
-- the point (x, y, 1)
abbrev point : Float → Float → Point
point x y = x ∷ y ∷ one64 ∷ []

abbrev two : Float
two = of_bits binary64 0x4000_0000_0000_0000

-- a point alone, there and back, three in a line, and the bow-tie (0,0), (1,1), (1,0), (0,1), whose two triangles are turned opposite ways
pub one_point : plane_of (point one64 two ∷ []) ≡ no_area
unfolding plane_of has_no_area all_zero newell_of fold_list newell_side add sub mul eq of_bits
one_point = refl

pub there_and_back : plane_of (point zero64 one64 ∷ point one64 two ∷ []) ≡ no_area
unfolding plane_of has_no_area all_zero newell_of fold_list newell_side add sub mul eq of_bits
there_and_back = refl

pub in_a_line : plane_of (point zero64 zero64 ∷ point one64 one64 ∷ point two two ∷ []) ≡ no_area
unfolding plane_of has_no_area all_zero newell_of fold_list newell_side add sub mul eq of_bits
in_a_line = refl

pub bow_tie : plane_of (point zero64 zero64 ∷ point one64 one64 ∷ point one64 zero64 ∷ point zero64 one64 ∷ []) ≡ no_area
unfolding plane_of has_no_area all_zero newell_of fold_list newell_side add sub mul eq of_bits
bow_tie = refl
