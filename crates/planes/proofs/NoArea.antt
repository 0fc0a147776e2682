-- The Newell plane of a face of no area has four NaN for its parts: its norm is a zero, 1 over that is an infinity, and each part is a zero
-- or a NaN times this infinity. The distance of every point from such a plane is a NaN, and no plane is the same as it, from the same side
-- or the other.
use mathlib.Core.Path.{◌≡◌, refl, ap, ◌∙◌}
use mathlib.Core.Bool.{Bool, true, false}
use mathlib.Core.List.{List, [], ◌∷◌}
use lib.Dec.{T}
use lib.ListN.{get_or}
use lib.Ieee.{Float, nan, inf, binary64, fits, neg, add, sub, mul, lt, eq, le}
use lib.Ieee.Fits.{add-fits}
use lib.Ieee.Bits.{of_bits-fits}
use Rattle.places.specs.Loops.{fold_list}
use Rattle.places.specs.Ring.{sides, fold_pairs}
use Rattle.floats.specs.F64.{◌*f◌, ◌/f◌, zero64, one64}
use Rattle.floats.specs.Pick.{magnitude_of}
use Rattle.floats.proofs.Nans.{plus_nan, minus_nan, times_nan, not_at_most_nan}
use Rattle.floats.proofs.Zeros.{ZeroOrNan, equals_zero, over_zero, zero_times, zero_plus, zero_negated, zero_times_infinity}
use Rattle.flat.specs.Points.{Point, at}
use Rattle.flat.specs.Flat.{newell_side, newell_of}
use Rattle.planes.specs.declared.Plane.{Plane}
use Rattle.planes.specs.Planes.{dot_of, offset_of, norm_of, unit_plane, newell_plane, all_zero, has_no_area, distance_of, same_side}
use Rattle.planes.specs.Planes.{coplanar_opposite}
use Rattle.planes.proofs.Norm.{norm_of_zeros, zeros_apart}

-- the plane of four NaN
abbrev pub nan_plane : Plane
nan_plane = record { n = nan ∷ nan ∷ nan ∷ []; d = nan }

-- ---- Newell sums are f64 whatever the points are: each is +0 or the result of a sum
record SumsFit (s : Point) : Type 0 where
  pub x : T (fits binary64 (at s 0))
  pub y : T (fits binary64 (at s 1))
  pub z : T (fits binary64 (at s 2))

after_sides : (l : List (Point × Point)) (s : Point) → SumsFit s → SumsFit (fold_pairs newell_side l s)
unfolding fold_list newell_side
after_sides [] s h = h
after_sides (e ∷ l) s h =
    after_sides l (newell_side e.0 e.1 s)
    (record { x = add-fits binary64 _ _; y = add-fits binary64 _ _; z = add-fits binary64 _ _ })

sums_fit : (ps : List Point) → SumsFit (newell_of ps)
unfolding newell_of
sums_fit ps =
    let none = of_bits-fits binary64 0 in
    after_sides (sides ps) (zero64 ∷ zero64 ∷ zero64 ∷ []) (record { x = none; y = none; z = none })

-- ---- the plane of three sums that are all 0, where 1 over their norm is an infinity
module _ (n : Point) (zeros : all_zero n ≡ true) (s : Bool) (over : one64 /f norm_of n ≡ inf s) where
  part : (x : Float) → ZeroOrNan x → x *f (one64 /f norm_of n) ≡ nan
  part x h = ap (λ (v : Float). x *f v) over ∙ zero_times_infinity binary64 s h

  dot_of_zeros : (p : Point) → ZeroOrNan (dot_of n p)
  unfolding dot_of
  dot_of_zeros p =
      let (x, y, z) = zeros_apart n zeros in
      zero_plus binary64
      (zero_plus binary64 (zero_times binary64 (at p 0) (equals_zero (at n 0) x)) (zero_times binary64 (at p 1) (equals_zero (at n 1) y)))
      (zero_times binary64 (at p 2) (equals_zero (at n 2) z))

  plane_of_zeros : (p : Point) → unit_plane n (offset_of n p) ≡ nan_plane
  unfolding unit_plane offset_of
  plane_of_zeros p =
      let (x, y, z) = zeros_apart n zeros in
      let a = part (at n 0) (equals_zero (at n 0) x) in
      let b = part (at n 1) (equals_zero (at n 1) y) in
      let c = part (at n 2) (equals_zero (at n 2) z) in
      let d = part (neg (neg (dot_of n p))) (zero_negated (zero_negated (dot_of_zeros p))) in
      λ i. record { n = a i ∷ b i ∷ c i ∷ []; d = d i }

pub no_area_nan : (ps : List Point) → has_no_area ps ≡ true → newell_plane ps ≡ nan_plane
unfolding newell_plane has_no_area
no_area_nan ps h =
    let n = newell_of ps in
    let fit = sums_fit ps in
    let (x, y, z) = zeros_apart n h in
    let (s, over) = over_zero (norm_of n) (norm_of_zeros (at n 0) (at n 1) (at n 2) fit.x fit.y fit.z x y z) in
    plane_of_zeros n h s over (get_or ps 0 [])

-- ---- what the plane of four NaN does
pub nan_distance : (p : Point) → distance_of nan_plane p ≡ nan
unfolding distance_of dot_of mul add sub
nan_distance p = refl

-- the dot product with its normal, on either side
nan_dot : (p : Point) → dot_of nan_plane.n p ≡ nan
unfolding dot_of mul add
nan_dot p = refl

dot_nan : (p : Point) → dot_of p nan_plane.n ≡ nan
unfolding dot_of add
dot_nan p = rw (times_nan binary64 (at p 0))

pub nan_same_side : (p : Plane) (tol : Float) → same_side nan_plane p tol ≡ false
unfolding same_side magnitude_of add sub lt eq le
nan_same_side p tol = rw (nan_dot p.n)

pub same_side_nan : (p : Plane) (tol : Float) → same_side p nan_plane tol ≡ false
unfolding same_side magnitude_of lt eq le
same_side_nan p tol = rw (dot_nan p.n, minus_nan binary64 p.d)

pub nan_opposite : (p : Plane) (tol : Float) → coplanar_opposite nan_plane p tol ≡ false
unfolding coplanar_opposite magnitude_of add lt eq le
nan_opposite p tol = rw (nan_dot p.n, not_at_most_nan)

pub opposite_nan : (p : Plane) (tol : Float) → coplanar_opposite p nan_plane tol ≡ false
unfolding coplanar_opposite magnitude_of lt eq le
opposite_nan p tol = rw (dot_nan p.n, not_at_most_nan, plus_nan binary64 p.d)
