-- Cells worked out from the definitions, which a reader can do by hand: a convex one, one with a dent, and one with a face the wrong way
-- round.
use mathlib.Core.Path.{◌≡◌, refl}
use mathlib.Core.Bool.{true, false}
use mathlib.Core.List.{List, [], ◌∷◌, ◌++◌}
use lib.Ieee.{Float, binary64, of_bits}
use Rattle.floats.specs.F64.{zero64, one64}
use Rattle.flat.specs.Points.{vertices_of}
use Rattle.cell.specs.Faces.{faces_of}
use Rattle.outward.specs.Convexity.{compute_convexity_of}
use Rattle.outward.specs.Outward.{outward_corners}
use Rattle.outward.proofs.Computed.{computed}

-- ¼
abbrev quarter : Float
quarter = of_bits binary64 0x3fd0_0000_0000_0000

-- the tetrahedron (0, 0, 0), (1, 0, 0), (0, 1, 0), (0, 0, 1)
abbrev unit_tetrahedron : List Float
unit_tetrahedron = zero64 ∷ zero64 ∷ zero64 ∷ one64 ∷ zero64 ∷ zero64 ∷ zero64 ∷ one64 ∷ zero64 ∷ zero64 ∷ zero64 ∷ one64 ∷ []

-- its faces are [0, 2, 1], [0, 1, 3], [1, 2, 3], [2, 0, 3]
tetrahedron_convex :
    compute_convexity_of (vertices_of unit_tetrahedron)
    (faces_of (0 ∷ 2 ∷ 1 ∷ 0 ∷ 1 ∷ 3 ∷ 1 ∷ 2 ∷ 3 ∷ 2 ∷ 0 ∷ 3 ∷ []) (3 ∷ 6 ∷ 9 ∷ 12 ∷ []))
    ≡ true
unfolding computed
tetrahedron_convex = refl

-- the face [1, 2, 3] is drawn in to (¼, ¼, ¼), which makes three faces of it
dented_not :
    compute_convexity_of (vertices_of (unit_tetrahedron ++ quarter ∷ quarter ∷ quarter ∷ []))
    (faces_of (0 ∷ 2 ∷ 1 ∷ 0 ∷ 1 ∷ 3 ∷ 2 ∷ 0 ∷ 3 ∷ 1 ∷ 2 ∷ 4 ∷ 2 ∷ 3 ∷ 4 ∷ 3 ∷ 1 ∷ 4 ∷ []) (3 ∷ 6 ∷ 9 ∷ 12 ∷ 15 ∷ 18 ∷ [])) ≡ false
unfolding computed
dented_not = refl

-- [3, 2, 1] looks inward, and is turned
inward_turned :
    outward_corners (vertices_of unit_tetrahedron) (faces_of (0 ∷ 2 ∷ 1 ∷ 0 ∷ 1 ∷ 3 ∷ 3 ∷ 2 ∷ 1 ∷ 2 ∷ 0 ∷ 3 ∷ []) (3 ∷ 6 ∷ 9 ∷ 12 ∷ []))
    ≡ 0 ∷ 2 ∷ 1 ∷ 0 ∷ 1 ∷ 3 ∷ 1 ∷ 2 ∷ 3 ∷ 2 ∷ 0 ∷ 3 ∷ []
unfolding computed
inward_turned = refl
