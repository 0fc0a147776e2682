-- Request 9, 'Check triangles that clients send': what is proved of the check beside its contract, in the customer's words.
-- When a list of triangles is a cut of a face of n corners is said in cut_check/specs/CutCheck.antt, `IsCut`; what `check_cut` answers, in
-- geometry/specs/CheckCut.antt. Triangles are given by place, our own cut's included: `cut_by_place` (cut/specs/Cut.antt) is the one cut,
-- with each corner by its place in the face, and `ByPlace` there says that the numbers looked up give `cut_of`.
use Rattle.std.specs.Prelude.{◌≡◌, ◌↔◌, true, List, map, ℕ, ◌+◌, ◌≤◌, length, take, Float, Ok}
use Rattle.places.specs.Limits.{most_checked_corners}
use Rattle.places.specs.Ring.{places_below}
use Rattle.places.specs.Stored.{in_threes, joined}
use Rattle.exact.specs.Space.{V3, area, areas}
use Rattle.flat.specs.Points.{Point}
use Rattle.cut.specs.Cut.{cut_by_place, ring_at}
use Rattle.geometry.specs.declared.CutCounts.{CutCounts}
use Rattle.geometry.specs.Answers.{Answer}
use Rattle.geometry.specs.Cells.{face_numbered, triangles_answer, triangle_places_answer}
use Rattle.geometry.specs.CheckCut.{check_cut_answer}
use Rattle.demand3.specs.Demand3.{Full}
use Rattle.demand3.specs.Area.{area_of, areas_of}

-- 'Triangles are given by place, our own cut's included': `triangles` and `triangle_places` give as many, by as many tests, or refuse
-- alike, and the places looked up in the face are the vertex numbers, triangle by triangle
abbrev pub SameTriangles : Type 0
SameTriangles =
    (coords : List Float) (corners ends : List ℕ) (k : ℕ) (out numbers places : List (List ℕ)) (r s : Answer CutCounts)
    → (r, numbers) ≡ triangles_answer coords corners ends k out → (s, places) ≡ triangle_places_answer coords corners ends k out
    → (r ≡ s) × ((c : CutCounts) → r ≡ Ok c →
    take c.triangles numbers ≡ map (ring_at (face_numbered corners ends k)) (take c.triangles places))

-- 'Whatever our own cut gives for a fully cut face of 3 to 256 corners is accepted.' Of a face that is cut short it is not: there are too
-- few triangles
abbrev pub OwnCut : Type 0
OwnCut =
    (vs : List Point) (face : List ℕ) → 3 ≤ length face → length face ≤ most_checked_corners →
    (check_cut_answer (length face) (joined (cut_by_place vs face).triangles) ≡ Ok true) ↔ Full vs face

-- the same of the two entries: the triangles that `triangle_places` writes for the face k of a cell, handed to `check_cut`, are accepted
-- exactly where they are n − 2
abbrev pub OwnEntry : Type 0
OwnEntry =
    (coords : List Float) (corners ends : List ℕ) (k : ℕ) (out after : List (List ℕ)) (c : CutCounts)
    → (Ok c, after) ≡ triangle_places_answer coords corners ends k out →
    let n = length (face_numbered corners ends k) in
    3 ≤ n → n ≤ most_checked_corners → (check_cut_answer n (joined (take c.triangles after)) ≡ Ok true) ↔ (c.triangles + 2 ≡ n)

-- 'Whatever is accepted has, taken exactly, the face's own doubled area vector (the sum of a × b over its sides)', for any points of whole
-- numbers at the places: `at` gives the point at each place
abbrev pub AcceptedArea : Type 0
AcceptedArea =
    (n : ℕ) (places : List ℕ) → check_cut_answer n places ≡ Ok true
    → (at : ℕ → V3) → areas at (in_threes places) ≡ area at (places_below n)

-- so too with vertex numbers: of a face of a cell, with the places of accepted triangles looked up in it. Coordinates are f64, scaled to
-- whole numbers as in Area.antt
abbrev pub AcceptedFace : Type 0
AcceptedFace =
    (vs : List Point) (face places : List ℕ) → check_cut_answer (length face) places ≡ Ok true
    → areas_of vs (map (ring_at face) (in_threes places)) ≡ area_of vs face
