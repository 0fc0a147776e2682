-- When the plane of a face is finite (SCOPE 11): exactly where its norm is above 2 ^ -1024. Up to there 1 / norm is infinite, and nothing
-- else is in a cell that is not refused. The norm is 0 exactly where the face has no area, and so no plane.
use Rattle.std.specs.Prelude.{◌≡◌, true, false, not, List, [], ℕ, T, Float}
use Rattle.std.specs.Float.{binary64}
use Rattle.std.specs.Float.Ieee.{of_bits, eq, lt, le}
use Rattle.std.specs.Float.Ieee.Scale.{finite}
use Rattle.places.specs.Refusals.{no_refusal}
use Rattle.places.specs.Lists.{Each}
use Rattle.floats.specs.F64.{zero64}
use Rattle.flat.specs.Points.{Point, at, vertices_of, corners_of}
use Rattle.flat.specs.Flat.{newell_of}
use Rattle.cell.specs.Faces.{faces_of}
use Rattle.cell.specs.Refusals.{empty_refused, refusal_of}
use Rattle.planes.specs.declared.Plane.{Plane}
use Rattle.planes.specs.Planes.{norm_of, has_no_area, has_plane, plane_of}

-- the largest norm whose inverse is infinite, 2 ^ -1024: 1 over it is 2 ^ 1024, the first power of two above all f64
abbrev pub too_short : Float
too_short = of_bits binary64 0x0004_0000_0000_0000

-- all four parts of a plane are finite
abbrev pub AllFinite : Plane → Type 0
AllFinite p = T (finite (at p.n 0)) × T (finite (at p.n 1)) × T (finite (at p.n 2)) × T (finite p.d)

-- none of them is: each is an infinity or a NaN
abbrev pub NoneFinite : Plane → Type 0
NoneFinite p =
    T (not (finite (at p.n 0))) × T (not (finite (at p.n 1))) × T (not (finite (at p.n 2))) × T (not (finite p.d))

-- of a face with the points ps: the norm is finite, and it is 0 exactly where the face has no area; of its plane p, where it has one, all
-- parts are finite above 2 ^ -1024, and none is up to it
pub record FiniteOrNot (ps : List Point) : Type 0 where
  pub norm_finite : T (finite (norm_of (newell_of ps)))
  pub sums_zero : eq (norm_of (newell_of ps)) zero64 ≡ true → has_no_area ps ≡ true
  pub norm_zero : has_no_area ps ≡ true → eq (norm_of (newell_of ps)) zero64 ≡ true
  pub all_finite : (p : Plane) → plane_of ps ≡ has_plane p → lt too_short (norm_of (newell_of ps)) ≡ true → AllFinite p
  pub none_finite : (p : Plane) → plane_of ps ≡ has_plane p → le (norm_of (newell_of ps)) too_short ≡ true → NoneFinite p

-- every face of a cell that is not refused 1 to 5, whatever query points and faces are asked about
abbrev pub FinitePlanes : List Float → List ℕ → List ℕ → Type 0
FinitePlanes coords corners ends =
    (query : List Float) (asked : List ℕ) → refusal_of coords corners ends query asked ≡ no_refusal → empty_refused corners ends ≡ false
    → Each [] (λ face. FiniteOrNot (corners_of (vertices_of coords) face)) (faces_of corners ends)
