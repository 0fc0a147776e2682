-- v6 sums triple products about the vertex centroid; volume is |v6| / 6; the geometric centroid. Each step is one operation of f64.
use Rattle.std.specs.Prelude.{cond, ℕ, List, get_or, Float}
use Rattle.std.specs.Float.{binary64}
use Rattle.std.specs.Float.Ieee.{of_bits, lt}
use Rattle.places.specs.Loops.{fold_list}
use Rattle.floats.specs.F64.{◌+f◌, ◌-f◌, ◌*f◌, ◌/f◌, zero64, four64, six64}
use Rattle.floats.specs.Pick.{magnitude_of}
use Rattle.flat.specs.Points.{Point, at, point_by, vertex_of, plus_of, minus_of, over_of, centroid_of}
use Rattle.volume.specs.Triangles.{triangles_of}
use Rattle.volume.specs.declared.Moments.{Moments}

-- triple_product: a · (b × c)
unfoldable pub triple_of : Point → Point → Point → Float
triple_of a b c =
    at a 0 *f (at b 1 *f at c 2 -f at b 2 *f at c 1)
    +f at a 1 *f (at b 2 *f at c 0 -f at b 0 *f at c 2)
    +f at a 2 *f (at b 0 *f at c 1 -f at b 1 *f at c 0)

-- corner k of the triangle t, taken from the reference point
abbrev pub corner_from : List Point → Point → List ℕ → ℕ → Point
corner_from vs ref t k = minus_of 3 (vertex_of vs (get_or t k 0)) ref

-- the triple product of the triangle t about the reference point
unfoldable pub triple_about : List Point → Point → List ℕ → Float
triple_about vs ref t = triple_of (corner_from vs ref t 0) (corner_from vs ref t 1) (corner_from vs ref t 2)

abbrev pub add_triple : List Point → Point → List ℕ → Float → Float
add_triple vs ref t v = v +f triple_about vs ref t

-- the sum of the triple products of triangles about any reference point
unfoldable pub sum_about : List Point → Point → List (List ℕ) → Float
sum_about vs ref ts = fold_list (add_triple vs ref) ts zero64

-- signed_volume6: the triangles of all faces, about the vertex centroid
unfoldable pub v6_of : List Point → List (List ℕ) → Float
v6_of vs fs = sum_about vs (centroid_of 3 vs) (triangles_of vs fs)

-- volume: |v6| / 6
unfoldable pub volume_of : List Point → List (List ℕ) → Float
volume_of vs fs = magnitude_of (v6_of vs fs) /f six64

-- ---- geometric_centroid
-- the sums with those of the triangle t added: its triple product, and its corners' sum times that
unfoldable pub add_moment : List Point → Point → List ℕ → Moments → Moments
add_moment vs ref t m =
    let a = corner_from vs ref t 0 in
    let b = corner_from vs ref t 1 in
    let c = corner_from vs ref t 2 in
    let d = triple_about vs ref t in
    record { v6 = m.v6 +f d; sum = point_by 3 (λ k. at m.sum k +f (at a k +f at b k +f at c k) *f d) }

-- no sums yet
abbrev pub no_moments : Moments
no_moments = record { v6 = zero64; sum = point_by 3 (λ k. zero64) }

-- over the triangles of all faces, about the vertex centroid
unfoldable pub moments_of : List Point → List (List ℕ) → Moments
moments_of vs fs = fold_list (add_moment vs (centroid_of 3 vs)) (triangles_of vs fs) no_moments

-- 1e-30, under which |v6| is taken for none
abbrev pub tiny64 : Float
tiny64 = of_bits binary64 0x39b4_484b_feeb_c2a0

-- the point that the sums m about the reference point give: the first vertex when |v6| < 1e-30
unfoldable pub balance_of : List Point → Point → Moments → Point
balance_of vs ref m =
    let g = over_of 3 m.sum (four64 *f m.v6) in
    cond (lt (magnitude_of m.v6) tiny64) (vertex_of vs 0) (plus_of 3 ref g)

unfoldable pub geometric_centroid_of : List Point → List (List ℕ) → Point
geometric_centroid_of vs fs = balance_of vs (centroid_of 3 vs) (moments_of vs fs)
