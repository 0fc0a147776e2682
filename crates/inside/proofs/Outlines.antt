-- The ray and a face: a face's points in the plane, a face of no corners, and sides that pass or do not, for the tests that the ray makes.
use mathlib.Core.Path.{◌≡◌, refl}
use mathlib.Core.Bool.{Bool, true, false, not, ◌&&◌, beq}
use mathlib.Core.List.{List, [], ◌∷◌}
use Prim.Native.Nat.{ℕ, ◌<◌}
use native.Mathlib.Omega.{arith}
use lib.ListN.{length, get_or, length-map}
use lib.Ieee.{Float, of_bits, mul, lt, le}
use Rattle.places.specs.Loops.{fold_list}
use Rattle.places.proofs.Lists.{map_at}
use Rattle.floats.specs.Pick.{magnitude_of, largest_of}
use Rattle.flat.specs.Points.{Point, at, corners_of}
use Rattle.flat.specs.Flat.{newell_of, point_of, points_of}
use Rattle.inside.specs.Ray.{differ, meets_at, passes, in_outline, along_of, ray_crosses}

-- ---- a face's points in the plane, one for each of its corners
module _ (vs : List Point) (axis : ℕ) (face : List ℕ) where
  pub length_points : length (points_of vs axis face) ≡ length face
  unfolding points_of
  length_points = length-map face (point_of vs axis)

  pub points_at : (i : ℕ) → i < length face → get_or (points_of vs axis face) i [] ≡ point_of vs axis (get_or face i 0)
  unfolding points_of
  points_at i h = map_at (point_of vs axis) face i 0 [] h

-- ---- a face of no corners: no ray crosses it, as its normal is three zeros
pub none_crossed : (vs : List Point) (p : Point) (face : List ℕ) → length face ≡ 0 → false ≡ ray_crosses vs p face
unfolding ray_crosses along_of newell_of corners_of fold_list of_bits mul le magnitude_of largest_of
none_crossed vs p [] h = refl
none_crossed vs p (c ∷ cs) h = absurd (omega arith)

-- and nothing is in its outline
pub no_outline : (vs : List Point) (axis : ℕ) (face : List ℕ) (p : Point) → length face ≡ 0 → false ≡ in_outline p (points_of vs axis face)
unfolding in_outline points_of fold_list
no_outline vs axis [] p h = refl
no_outline vs axis (c ∷ cs) p h = absurd (omega arith)

-- ---- a side whose ends are on two sides of the height of p, and one whose ends are not
differing : (x y c : Bool) → not (beq x y) ≡ true → c ≡ (differ x y && c)
differing true true c e = cc
differing true false c e = refl
differing false true c e = refl
differing false false c e = cc

agreeing : (x y c : Bool) → not (beq x y) ≡ false → false ≡ (differ x y && c)
agreeing true true c e = refl
agreeing true false c e = cc
agreeing false true c e = cc
agreeing false false c e = refl

pub passes_there : (p a b : Point) (x : Float) → x ≡ meets_at p a b
    → not (beq (lt (at p 1) (at a 1)) (lt (at p 1) (at b 1))) ≡ true → lt (at p 0) x ≡ passes p a b
unfolding passes
passes_there p a b x q e = rw q (differing (lt (at p 1) (at a 1)) (lt (at p 1) (at b 1)) (lt (at p 0) (meets_at p a b)) e)

pub passes_not : (p a b : Point) → not (beq (lt (at p 1) (at a 1)) (lt (at p 1) (at b 1))) ≡ false → false ≡ passes p a b
unfolding passes
passes_not p a b e = agreeing (lt (at p 1) (at a 1)) (lt (at p 1) (at b 1)) (lt (at p 0) (meets_at p a b)) e
