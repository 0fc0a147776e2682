-- A plane is finite exactly where its norm is above 2 ^ -1024 (specs/Finite.antt). No Newell sum is more than the norm n, so a sum times
-- 1 / n is at most 2, and the offset, a sum of three products of at most n * 2 ^ 40, times 1 / n at most 2 ^ 43. But where n is at most
-- 2 ^ -1024, 1 / n is an infinity, and every part is a product with it.
use mathlib.Core.Path.{◌≡◌, refl, sym, ap, subst, ◌∙◌}
use mathlib.Core.Bool.{Bool, true, false, not, true≢false}
use mathlib.Core.List.{List, [], ◌∷◌}
use Prim.Native.Nat.{ℕ, suc, ◌+◌, ◌*◌, ◌/◌, ◌^◌, ◌≤◌, ◌<◌}
use native.Mathlib.Nat.{le_refl, le_trans, lt_of_le_of_lt, mul-le-mul, mul-le-mul_left, mul-le-mul_right, mul-one, pow-succ'}
use native.Mathlib.Omega.{arith}
use lib.Dec.{T, lit≤, lit<}
use lib.Pow.{pow_pos, pow_mono}
use lib.ListN.{length, get_or}
use lib.Seq.{slice, length-slice}
use lib.Ieee.{Float, nan, binary64, neg, lt, le}
use lib.Ieee.Scale.{finite}
use Rattle.places.specs.Lists.{Each}
use Rattle.places.proofs.Lists.{each_slice}
use Rattle.places.proofs.Stored.{length_threes, threes_at}
use Rattle.floats.specs.F64.{◌+f◌, ◌*f◌, ◌/f◌, one64}
use Rattle.floats.proofs.AtMost.{AtMost, IsValue, power_value, scaled_value, at_most_finite, at_most_to, at_most_neg, at_most_add}
use Rattle.floats.proofs.AtMost.{at_most_mul}
use Rattle.floats.proofs.Inverse.{times_inverse, inverse_overflows, times_infinity}
use Rattle.floats.proofs.Within.{Within, within_at_most}
use Rattle.flat.specs.Points.{Point, at, vertices_of, vertex_of, corners_of}
use Rattle.flat.specs.Flat.{newell_of}
use Rattle.flat.specs.Steps.{Inside}
use Rattle.flat.proofs.Corners.{length_corners, corner_at}
use Rattle.cell.specs.Faces.{faces_of}
use Rattle.cell.specs.Refusals.{number_refused, is_empty, empty_refused}
use Rattle.cell.proofs.Faces.{length_faces, face_at, rises_at}
use Rattle.cell.proofs.Refusals.{any_none, number_within, sound, tame}
use Rattle.planes.specs.declared.Plane.{Plane}
use Rattle.planes.specs.Planes.{dot_of, offset_of, norm_of, unit_plane, newell_plane, has_no_area, PlaneOrNoArea}
use Rattle.planes.specs.Planes.{no_area, has_plane, plane_of}
use Rattle.planes.specs.Finite.{too_short, AllFinite, NoneFinite, FiniteOrNot, FinitePlanes}
use Rattle.planes.proofs.Faces.{has_corner_lem, plane_with_area, plane_without_area}
use Rattle.planes.proofs.Norm.{Normed, normed, value_finite, above_too_short, not_above_too_short, zeros_of_norm, norm_of_zeros}
use Rattle.planes.proofs.Norm.{zeros_apart, zeros_together}
use Rattle.planes.proofs.Sums.{NearInSpace, newell_sums, summed_at_most}

-- ---- the parts of a plane whose Newell sums are m
module _ (m : Point) (d : Normed (at m 0) (at m 1) (at m 2)) where
  abbrev inverse : Float
  inverse = one64 /f norm_of m

  -- ---- m · p, for a point p of the cell; up to 2 ^ 42 times the norm nothing overflows
  room : (k : ℕ) → k ≤ 42 → d.n * 2 ^ k < 2 ^ 2098
  room k h = let l : d.n * 2 ^ k ≤ 2 ^ 1169 * 2 ^ 42 = mul-le-mul d.bound (pow_mono h) in lt_of_le_of_lt l (lit< tt)

  product : (x p : Float) → AtMost d.n (2 ^ 1074) x → Within 40 p → AtMost (d.n * 2 ^ 40) (2 ^ 1074) (x *f p)
  product x p b w =
      at_most_mul binary64 x p d.n (2 ^ 1074) (2 ^ 40) 1 (d.n * 2 ^ 40) (2 ^ 1074) (pow_pos 1074) (lit< tt) (pow_pos 1074)
      (scaled_value binary64 d.n 40 d.grid (room 40 (lit≤ tt))) (le_refl (d.n * 2 ^ 40 * 2 ^ 1074)) b (within_at_most p 40 w)

  sum_of_two : (k : ℕ) (x y : Float) → suc k ≤ 42 → AtMost (d.n * 2 ^ k) (2 ^ 1074) x → AtMost (d.n * 2 ^ k) (2 ^ 1074) y
      → AtMost (d.n * 2 ^ suc k) (2 ^ 1074) (x +f y)
  sum_of_two k x y l b c =
      let e : d.n * 2 ^ k + d.n * 2 ^ k ≡ d.n * 2 ^ suc k = twice (2 ^ k) (2 ^ suc k) (pow-succ' 2 k) in
      subst (λ (z : ℕ). AtMost z (2 ^ 1074) (x +f y)) e
      (at_most_add binary64 x y (d.n * 2 ^ k) (d.n * 2 ^ k) (2 ^ 1074) (pow_pos 1074)
      (rw e (scaled_value binary64 d.n (suc k) d.grid (room (suc k) l))) b c)
    where
      twice : (u w : ℕ) → w ≡ 2 * u → d.n * u + d.n * u ≡ d.n * w
      twice u w e = rw e (omega arith)

  dot_bound : (p : Point) → NearInSpace p → AtMost (d.n * 2 ^ 42) (2 ^ 1074) (dot_of m p)
  unfolding dot_of
  dot_bound p w =
      sum_of_two 41 (at m 0 *f at p 0 +f at m 1 *f at p 1) (at m 2 *f at p 2) (lit≤ tt)
      (sum_of_two 40 (at m 0 *f at p 0) (at m 1 *f at p 1) (lit≤ tt) (product (at m 0) (at p 0) d.x_bound w.x)
      (product (at m 1) (at p 1) d.y_bound w.y))
      (at_most_to (at m 2 *f at p 2) (d.n * 2 ^ 40) (2 ^ 1074) (d.n * 2 ^ 41) (2 ^ 1074) (pow_pos 1074)
      (mul-le-mul_right (2 ^ 1074) (mul-le-mul_left d.n (lit≤ tt))) (product (at m 2) (at p 2) d.z_bound w.z))

  -- ---- above 2 ^ -1024
  module _ (h : lt too_short (norm_of m) ≡ true) where
    part_finite : (x : Float) (k : ℕ) → k ≤ 42 → AtMost (d.n * 2 ^ k) (2 ^ 1074) x → T (finite (x *f inverse))
    part_finite x k l b =
        at_most_finite (x *f inverse) (2 * 2 ^ k) 1
        (times_inverse (norm_of m) d.n d.value x (2 ^ k) (above_too_short (norm_of m) d.n d.value h)
        (le_trans d.bound (lit≤ tt))
        (subst (λ (z : ℕ). IsValue binary64 z 1) (pow-succ' 2 k) (power_value binary64 (suc k) (omega arith))) b)

    normal_finite : (x : Float) → AtMost d.n (2 ^ 1074) x → T (finite (x *f inverse))
    normal_finite x b = part_finite x 0 (lit≤ tt) (subst (λ (z : ℕ). AtMost z (2 ^ 1074) x) (sym (mul-one d.n)) b)

    parts_finite : (p : Point) → NearInSpace p → AllFinite (unit_plane m (offset_of m p))
    unfolding unit_plane offset_of
    parts_finite p w = (
      normal_finite (at m 0) d.x_bound,
      normal_finite (at m 1) d.y_bound,
      normal_finite (at m 2) d.z_bound,
      part_finite (neg (neg (dot_of m p))) 42 (lit≤ tt) (at_most_neg (neg (dot_of m p)) _ _ (at_most_neg (dot_of m p) _ _ (dot_bound p w))),
    )

  -- ---- up to 2 ^ -1024
  part_not_finite : le (norm_of m) too_short ≡ true → (x : Float) → T (not (finite (x *f inverse)))
  part_not_finite h x =
      rw (inverse_overflows (norm_of m) d.n d.value (not_above_too_short (norm_of m) d.n d.value h))
      (times_infinity binary64 x false)

  no_part_finite : le (norm_of m) too_short ≡ true → (e : Float) → NoneFinite (unit_plane m e)
  unfolding unit_plane
  no_part_finite h e = (part_not_finite h (at m 0), part_not_finite h (at m 1), part_not_finite h (at m 2), part_not_finite h (neg e))

-- ---- a face by its points
-- whether an answer is a plane
abbrev is_plane : PlaneOrNoArea → Bool
is_plane no_area = false
is_plane (has_plane p) = true

-- and the plane that it is
abbrev the_plane : Plane → PlaneOrNoArea → Plane
the_plane none no_area = none
the_plane none (has_plane p) = p

-- the plane that is answered is that of the Newell sums
answered_plane : (ps : List Point) (p : Plane) → plane_of ps ≡ has_plane p → newell_plane ps ≡ p
answered_plane ps p e = go (has_no_area ps) refl
  where
    go : (b : Bool) → has_no_area ps ≡ b → newell_plane ps ≡ p
    go true f = absurd (true≢false (ap is_plane (sym e ∙ plane_without_area ps f)))
    go false f = ap (the_plane p) (sym (plane_with_area ps f) ∙ e)

finite_or_not : (ps : List Point) → Each [] NearInSpace ps → 0 < length ps → length ps ≤ 2048 → FiniteOrNot ps
unfolding newell_plane has_no_area
finite_or_not ps near some few =
    let m = newell_of ps in
    let s = newell_sums ps near few in
    let d =
    normed (at m 0) (at m 1) (at m 2) s.x.an_f64 s.y.an_f64 s.z.an_f64 (summed_at_most (length ps) (at m 0) few s.x)
    (summed_at_most (length ps) (at m 1) few s.y) (summed_at_most (length ps) (at m 2) few s.z) in
    record {
      norm_finite = value_finite (norm_of m) d.n (2 ^ 1074) d.value;
      sums_zero = λ h. zeros_together m (zeros_of_norm (at m 0) (at m 1) (at m 2) d h);
      norm_zero = λ h.
          let z = zeros_apart m h in
          norm_of_zeros (at m 0) (at m 1) (at m 2) s.x.an_f64 s.y.an_f64 s.z.an_f64 z.0 z.1 z.2;
      all_finite = λ p e h. subst AllFinite (answered_plane ps p e) (parts_finite m d h (get_or ps 0 []) (near.holds 0 some));
      none_finite = λ p e h. subst NoneFinite (answered_plane ps p e) (no_part_finite m d h (offset_of m (get_or ps 0 [])));
    }

-- ---- the faces of a cell that is not refused
near_vertex : (coords : List Float) → number_refused coords ≡ false → (v : ℕ) → v < length (vertices_of coords)
    → NearInSpace (vertex_of (vertices_of coords) v)
near_vertex coords t v h =
    let n : v < length coords / 3 = omega (arith, length_threes coords) in
    rw (threes_at coords v nan n)
    (record {
      x = number_within coords t (v * 3) (omega arith);
      y = number_within coords t (v * 3 + 1) (omega arith);
      z = number_within coords t (v * 3 + 2) (omega arith);
    })

near_corners : (coords : List Float) → number_refused coords ≡ false → (face : List ℕ) → Inside (vertices_of coords) face
    → Each [] NearInSpace (corners_of (vertices_of coords) face)
near_corners coords t face inside = record { holds = go }
  where
    go : (k : ℕ) → k < length (corners_of (vertices_of coords) face) → NearInSpace (get_or (corners_of (vertices_of coords) face) k [])
    go k h =
        let l : k < length face = omega (arith, length_corners (vertices_of coords) face) in
        rw (corner_at (vertices_of coords) face k l) (near_vertex coords t (get_or face k 0) (inside.holds k l))

pub finite_planes : (coords : List Float) (corners ends : List ℕ) → FinitePlanes coords corners ends
unfolding empty_refused
finite_planes coords corners ends query asked e solid = record { holds = go }
  where
    go : (k : ℕ) → k < length (faces_of corners ends) → FiniteOrNot (corners_of (vertices_of coords) (get_or (faces_of corners ends) k []))
    go k h =
        let cell = sound coords corners ends query asked e in
        let l : k < length ends = omega (arith, length_faces corners ends) in
        let from = get_or (0 ∷ ends) k 0 in
        let end = get_or ends k 0 in
        let face = slice from end corners in
        let is = face_at corners ends k l in
        let some : 0 < length face = rw is at (has_corner_lem _ (any_none is_empty [] (faces_of corners ends) solid k h)) in
        let upto : end ≤ length corners = (rises_at 0 ends (length corners) k l cell.ordered).1 in
        let few : length face ≤ 2048 = omega (arith, length-slice from end corners upto, cell.few_corners) in
        let size = length_corners (vertices_of coords) face in
        rw is
        (finite_or_not (corners_of (vertices_of coords) face)
        (near_corners coords (tame coords corners ends query asked e) face (each_slice from end corners cell.inside))
        (omega arith) (omega arith))
