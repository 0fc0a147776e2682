-- Demand 3: its two sentences in the customer's words and order, then the same as the cell report tells it, and what later requests use.
-- It holds of every cell, whatever its lists are, and speaks of the one cut that the contracts of `cut` and `volume` cite.
use Rattle.std.specs.Prelude.{◌≡◌, ◌↔◌, Bool, true, false, List, [], ◌++◌, ℕ, ◌+◌, ◌*◌, ◌^◌, ◌<◌, ◌≤◌, T, length, pos, ◌*ℤ◌, Float}
use Rattle.std.specs.Float.{binary64}
use Rattle.std.specs.Float.Ieee.{fits}
use Rattle.std.specs.Float.Ieee.Exact.{HasValue}
use Rattle.places.specs.Lists.{Each}
use Rattle.exact.specs.Scaled.{signed, exact_of}
use Rattle.exact.specs.Sides.{Closed, closed_of}
use Rattle.exact.specs.Space.{V3, triples}
use Rattle.flat.specs.Points.{Point, at, vertices_of, vertex_of}
use Rattle.flat.specs.Flat.{points_of}
use Rattle.next_corner.specs.NextCorner.{turns_at}
use Rattle.cut.specs.Cut.{axis_for, direction_for, cut_of}
use Rattle.cell.specs.Faces.{faces_of}
use Rattle.volume.specs.Triangles.{triangles_of, lefts_of, short_of}

-- ---- what the sentences speak of: vs are the vertices of a cell and fs its faces, each the list of its corners' vertex numbers
-- the triangles that a face gives, and the ring that remains of it: none where its cutting came to the end
abbrev pub pieces : List Point → List ℕ → List (List ℕ)
pieces vs face = (cut_of vs face).triangles

abbrev pub rest : List Point → List ℕ → List ℕ
rest vs face = (cut_of vs face).left

-- a ring of four or more with no corner whose computed turn, times the direction of the whole face's first ring, is at least 0
pub record Stuck (vs : List Point) (face ring : List ℕ) : Type 0 where
  pub four : 4 ≤ length ring
  pub none : (k : ℕ) → k < length ring → turns_at (points_of vs (axis_for vs face) ring) (direction_for vs face) k ≡ false

-- a face of n ≥ 3 corners gives its full n − 2 triangles
abbrev pub Full : List Point → List ℕ → Type 0
Full vs face = 3 ≤ length face → length (pieces vs face) + 2 ≡ length face

-- a point of f64 in whole numbers, each coordinate scaled by 2 ^ 1074 (`Exact`, below: without rounding); and where the vertex v is
unfoldable pub exact_point : Point → V3
exact_point p = record { x = exact_of (at p 0); y = exact_of (at p 1); z = exact_of (at p 2) }

unfoldable pub place_of : List Point → ℕ → V3
place_of vs v = exact_point (vertex_of vs v)

-- ---- the parts of the sentences
-- what a face gives
pub record Gives (vs : List Point) (face : List ℕ) : Type 0 where
  -- n − 2 triangles for n ≥ 3 corners, exactly unless the ring that remains is stuck; and fewer exactly if it is
  pub full : 3 ≤ length face → (length (pieces vs face) + 2 ≡ length face) ↔ (¬ Stuck vs face (rest vs face))
  pub fewer : 3 ≤ length face → (length (pieces vs face) + 2 < length face) ↔ Stuck vs face (rest vs face)
  -- nothing under 3 corners
  pub nothing : length face < 3 → pieces vs face ≡ []

-- the premises of the second sentence
pub record Premises (vs : List Point) (fs : List (List ℕ)) : Type 0 where
  -- every face of 3 or more corners gives its full n − 2
  pub full : Each [] (Full vs) fs
  -- for all vertex numbers i ≠ j the faces run i to j as often as j to i
  pub balanced : Closed fs

-- so do the triangles: those that `volume` sums
abbrev pub StaysBalanced : List Point → List (List ℕ) → Type 0
StaysBalanced vs fs = Closed (triangles_of vs fs)

-- the exact sum of their triple products is the same about every point of whole numbers
abbrev pub SameSum : List Point → List (List ℕ) → Type 0
SameSum vs fs = (p q : V3) → triples (place_of vs) p (triangles_of vs fs) ≡ triples (place_of vs) q (triangles_of vs fs)

-- and so about every point of finite f64 coordinates; one that is not finite is taken for 0
abbrev pub SameSumF64 : List Point → List (List ℕ) → Type 0
SameSumF64 vs fs =
    (p q : Point) → triples (place_of vs) (exact_point p) (triangles_of vs fs) ≡ triples (place_of vs) (exact_point q) (triangles_of vs fs)

-- both conclusions of the second sentence
pub record Sums (vs : List Point) (fs : List (List ℕ)) : Type 0 where
  -- for all vertex numbers i ≠ j the triangles run i to j as often as j to i
  pub balanced : StaysBalanced vs fs
  -- the exact sum of their triple products is the same about every point, of whole numbers and of finite f64 coordinates
  pub sum : SameSum vs fs
  pub sum_f64 : SameSumF64 vs fs

-- ---- demand 3, of the cell with these coordinates, corners and face ends
pub record Demand3 (coords : List Float) (corners ends : List ℕ) : Type 0 where
  -- 1. A face of n ≥ 3 corners gives n − 2 triangles, exactly unless a ring of four or more remains with no corner whose computed turn,
  -- times the direction of the whole face's first ring, is at least 0.
  pub sentence1 : (face : List ℕ) → Gives (vertices_of coords) face
  -- 2. If every face of 3 or more corners gives its full n − 2, and for all vertex numbers i ≠ j the faces run i to j as often as j to i,
  -- then so do the triangles, and the exact, unrounded sum of their triple products is the same about every reference point of finite
  -- f64 coordinates.
  pub sentence2 : Premises (vertices_of coords) (faces_of corners ends) → Sums (vertices_of coords) (faces_of corners ends)

-- ---- the same as the report tells it
pub record Reported (vs : List Point) (fs : List (List ℕ)) : Type 0 where
  -- `short 0` says that every face of 3 or more corners gives its full n − 2, and `closed yes` that the faces are balanced
  pub short : (short_of vs fs ≡ 0) ↔ Each [] (Full vs) fs
  pub closed : (closed_of fs ≡ true) ↔ Closed fs
  -- so for a cell reported with both, the triangles are balanced, and their exact sum is the same about every reference point
  pub triangles : closed_of fs ≡ true → short_of vs fs ≡ 0 → StaysBalanced vs fs
  pub sum : closed_of fs ≡ true → short_of vs fs ≡ 0 → SameSum vs fs

-- ---- nothing is rounded: an f64 of the value a / c, less than 0 where s, is the whole number a · 2 ^ 1074 / c with that sign,
-- here multiplied out
abbrev pub Exact : Type 0
Exact =
    (x : Float) (s : Bool) (a c : ℕ) → T (fits binary64 x) → HasValue x s a c → exact_of x *ℤ pos c ≡ signed s (a * 2 ^ 1074)

-- ---- what later requests use
-- the triangles of any closed cell are closed with the rings that remain, fully cut or not
abbrev pub ClosedWithRings : List Point → List (List ℕ) → Type 0
ClosedWithRings vs fs = Closed fs → Closed (triangles_of vs fs ++ lefts_of vs fs)
