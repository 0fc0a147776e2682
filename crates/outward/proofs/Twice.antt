-- Turning twice is not turning once: a reversed face is measured from another corner, its last, and where the normal or the centroid is
-- rounded the two corners can lie on different sides, so that the face is reversed each time. Two cells show it, each computed.
use mathlib.Core.Path.{◌≡◌, refl, sym, ◌∙◌}
use mathlib.Core.Logic.{◌≢◌}
use mathlib.Core.Bool.{false}
use mathlib.Core.List.{List, [], ◌∷◌}
use Prim.Native.Nat.{ℕ}
use native.Mathlib.Omega.{arith}
use lib.IntN.{pos}
use lib.Ieee.{Float, binary64, of_bits, of_int}
use Rattle.places.specs.Refusals.{no_refusal}
use Rattle.floats.specs.F64.{◌+f◌, zero64, one64}
use Rattle.flat.specs.Points.{vertices_of}
use Rattle.cell.specs.Faces.{faces_of}
use Rattle.cell.specs.Refusals.{empty_refused, refusal_of}
use Rattle.outward.specs.Outward.{outward_corners}
use Rattle.outward.proofs.Computed.{computed}

-- a cell that is not refused, whose corner list turning changes from `c` to `c'`, and turning again from `c'` back to `c`
pub record Flips (coords : List Float) (c c' es : List ℕ) : Type 0 where
  pub accepted : refusal_of coords c es [] [] ≡ no_refusal
  pub full : empty_refused c es ≡ false
  pub differ : c ≢ c'
  pub once : outward_corners (vertices_of coords) (faces_of c es) ≡ c'
  pub again : outward_corners (vertices_of coords) (faces_of c' es) ≡ c

-- for such a cell turning twice is not turning once
pub twice_not_once : {coords : List Float} {c c' es : List ℕ} → Flips coords c c' es
    → outward_corners (vertices_of coords) (faces_of (outward_corners (vertices_of coords) (faces_of c es)) es)
    ≢ outward_corners (vertices_of coords) (faces_of c es)
twice_not_once f e = f.differ (sym f.again ∙ (rw f.once at e))

-- ---- a triangle, on which its centroid lies: (0, 0, 1), (0, 1, 0), (1, 3, 0)
abbrev pub triangle : List Float
triangle = zero64 ∷ zero64 ∷ one64 ∷ zero64 ∷ one64 ∷ zero64 ∷ one64 ∷ of_int binary64 (pos 3) ∷ zero64 ∷ []

-- the face [0, 1, 2] becomes [2, 1, 0] and that [0, 1, 2]
pub triangle_flips : Flips triangle (0 ∷ 1 ∷ 2 ∷ []) (2 ∷ 1 ∷ 0 ∷ []) (3 ∷ [])
unfolding computed
triangle_flips =
    record { accepted = refl; full = refl; differ = λ e. let z : ◌≡◌ {A = ℕ} 0 2 = cc in omega arith; once = refl; again = refl }

-- ---- a tetrahedron, closed and convex, with all faces outward, and small beside its distance
-- from the origin: (0, 0, 1), (u, 0, 1), (0, u, 1), (0, 0, 1 + u)
-- 2 ^ −52
abbrev pub u : Float
u = of_bits binary64 0x3cb0_0000_0000_0000

abbrev pub tetrahedron : List Float
tetrahedron = zero64 ∷ zero64 ∷ one64 ∷ u ∷ zero64 ∷ one64 ∷ zero64 ∷ u ∷ one64 ∷ zero64 ∷ zero64 ∷ (one64 +f u) ∷ []

-- of the faces [0, 2, 1], [0, 1, 3], [1, 2, 3], [2, 0, 3] the third becomes [3, 2, 1], which looks inward, and that [1, 2, 3]
pub tetrahedron_flips :
    Flips tetrahedron (0 ∷ 2 ∷ 1 ∷ 0 ∷ 1 ∷ 3 ∷ 1 ∷ 2 ∷ 3 ∷ 2 ∷ 0 ∷ 3 ∷ [])
    (0 ∷ 2 ∷ 1 ∷ 0 ∷ 1 ∷ 3 ∷ 3 ∷ 2 ∷ 1 ∷ 2 ∷ 0 ∷ 3 ∷ []) (3 ∷ 6 ∷ 9 ∷ 12 ∷ [])
unfolding computed
tetrahedron_flips =
    record { accepted = refl; full = refl; differ = λ e. let z : ◌≡◌ {A = ℕ} 1 3 = cc in omega arith; once = refl; again = refl }
