-- SCOPE 16, 'Worked by hand': the rows marked *, as one table and one claim about the definitions,
-- which proofs/Table.antt proves by computing them.
use Rattle.std.specs.Prelude.{◌≡◌, Bool, true, false, List, [], ◌∷◌, ℕ, pos, negsuc, Float}
use Rattle.std.specs.Float.{binary64}
use Rattle.std.specs.Float.Ieee.{of_bits, of_int}
use Rattle.floats.specs.F64.{zero64, one64, two64}
use Rattle.flat.specs.Points.{Point, vertices_of}
use Rattle.cut.specs.Cut.{cut_of}
use Rattle.cell.specs.Faces.{faces_of}
use Rattle.inside.specs.Inside.{face_end, contains_of, phed_contains_of}
use Rattle.planes.specs.declared.Plane.{Plane}
use Rattle.planes.specs.Planes.{distance_of}
use Rattle.work_lists.specs.WorkLists.{Outcome, outline}
use Rattle.clip_step.specs.ClipStep.{within, crossing_at, cross_plane}
use Rattle.clip.specs.Clip.{clip_face_of}
use Rattle.planar.specs.Planar.{clip_convex_of, intersection_area_of}
use Rattle.demand3.specs.Cube.{cube, hex_corners, hex_ends}

-- ---- a row: a question, and the answer that it states
pub data Question : Type 0 where
  -- what a face gives, over the vertices with these coordinates
  cutting : List Float → List ℕ → Question
  -- whether the unit cube contains a point; and the same asked of `point_in_phed`
  containing : Point → Question
  containing_marked : Point → Question
  -- what a plane leaves of an outline in space, and where a side crosses it, with an eps
  clipping : Plane → Float → List Point → Question
  crossing : Plane → Float → Point → Point → Question
  -- the overlap area of a subject and a clip list
  overlapping : List Point → List Point → Question

pub data Answer : Type 0 where
  -- the triangles in order, the ring that is left, and how many tests were made
  gives : List (List ℕ) → List ℕ → ℕ → Answer
  contained : Bool → Answer
  -- what is left, the first work list being false and the second true
  leaves : Outcome → Answer
  -- whether each end is inside, then t and the point
  crosses : Bool → Bool → Float → Point → Answer
  area : Float → Answer

pub record Row : Type 0 where
  pub question : Question
  pub answer : Answer

-- HEX8_FACES in one list, each face ended by the mark
abbrev hex_marked : List ℕ
hex_marked =
    0 ∷ 3 ∷ 2 ∷ 1 ∷ face_end ∷ 4 ∷ 5 ∷ 6 ∷ 7 ∷ face_end ∷ 0 ∷ 1 ∷ 5 ∷ 4 ∷ face_end
    ∷ 2 ∷ 3 ∷ 7 ∷ 6 ∷ face_end ∷ 1 ∷ 2 ∷ 6 ∷ 5 ∷ face_end ∷ 3 ∷ 0 ∷ 4 ∷ 7 ∷ face_end ∷ []

-- what the definitions answer
abbrev pub answer_of : Question → Answer
answer_of (cutting coords face) =
    let cut = cut_of (vertices_of coords) face in
    gives cut.triangles cut.left cut.tests
answer_of (containing p) = contained (contains_of (vertices_of cube) p (faces_of hex_corners hex_ends))
answer_of (containing_marked p) = contained (phed_contains_of (vertices_of cube) p hex_marked)
answer_of (clipping plane eps ps) = leaves (clip_face_of 8 eps (plane ∷ []) ps)
answer_of (crossing plane eps a b) =
    crosses (within plane eps a) (within plane eps b) (crossing_at (distance_of plane a) (distance_of plane b)) (cross_plane plane a b)
answer_of (overlapping subject clip) = area (intersection_area_of (clip_convex_of 8 subject clip))

-- of every row, what the definitions give and what the row states
abbrev pub given : List Row → List Answer
given [] = []
given (r ∷ rs) = answer_of r.question ∷ given rs

abbrev pub stated : List Row → List Answer
stated [] = []
stated (r ∷ rs) = r.answer ∷ stated rs

-- ---- the rows
abbrev half : Float
half = of_bits binary64 0x3fe0_0000_0000_0000

abbrev n10 : Float
n10 = of_int binary64 (pos 10)

abbrev m1 : Float
m1 = of_int binary64 (negsuc 0)

-- the seven corners (0,0), (10,0), (0,10), (0,0), (0,−1), (−1,−1), (−1,0) at z = 0
abbrev pub seven : List Float
seven =
    zero64 ∷ zero64 ∷ zero64 ∷ n10 ∷ zero64 ∷ zero64 ∷ zero64 ∷ n10 ∷ zero64 ∷ zero64 ∷ zero64 ∷ zero64
    ∷ zero64 ∷ m1 ∷ zero64 ∷ m1 ∷ m1 ∷ zero64 ∷ m1 ∷ zero64 ∷ zero64 ∷ []

-- the triangle of three vertex numbers
abbrev pub tri : ℕ → ℕ → ℕ → List ℕ
tri a b c = a ∷ b ∷ c ∷ []

-- 0.75, 1.25, 3, 4, −1.5 and −6
abbrev three_quarters : Float
three_quarters = of_bits binary64 0x3fe8_0000_0000_0000

abbrev five_quarters : Float
five_quarters = of_bits binary64 0x3ff4_0000_0000_0000

abbrev n3 : Float
n3 = of_int binary64 (pos 3)

abbrev n4 : Float
n4 = of_int binary64 (pos 4)

abbrev m1half : Float
m1half = of_bits binary64 0xbff8_0000_0000_0000

abbrev m6 : Float
m6 = of_int binary64 (negsuc 5)

-- a point at z = 0, and the plane x = d, with x ≤ d inside
abbrev pub level : Float → Float → Point
level x y = x ∷ y ∷ zero64 ∷ []

abbrev up_to : Float → Plane
up_to d = record { n = one64 ∷ zero64 ∷ zero64 ∷ []; d = d }

-- the square from (low, low) to (high, high) in the plane
abbrev square : Float → Float → List Point
square low high = (low ∷ low ∷ []) ∷ (high ∷ low ∷ []) ∷ (high ∷ high ∷ []) ∷ (low ∷ high ∷ []) ∷ []

abbrev row : Question → Answer → Row
row q a = record { question = q; answer = a }

abbrev pub table : List Row
table =
    -- face [0,3,2,1] of the cube
    row (cutting cube (0 ∷ 3 ∷ 2 ∷ 1 ∷ [])) (gives (tri 1 0 3 ∷ tri 3 2 1 ∷ []) [] 1)
    -- the seven corners: three triangles, then stop with a ring of four, after 12 tests
    ∷ row (cutting seven (0 ∷ 1 ∷ 2 ∷ 3 ∷ 4 ∷ 5 ∷ 6 ∷ [])) (gives (tri 6 0 1 ∷ tri 6 1 2 ∷ tri 2 3 4 ∷ []) (2 ∷ 4 ∷ 5 ∷ 6 ∷ []) 12)
    -- two corners, and three
    ∷ row (cutting cube (0 ∷ 1 ∷ [])) (gives [] [] 0)
    ∷ row (cutting cube (4 ∷ 5 ∷ 6 ∷ [])) (gives (tri 4 5 6 ∷ []) [] 0)
    -- the cube: x = 0, y = z = ½; x = 1; y = 1, x = z = ½
    ∷ row (containing (zero64 ∷ half ∷ half ∷ [])) (contained true)
    ∷ row (containing (one64 ∷ half ∷ half ∷ [])) (contained false)
    ∷ row (containing (half ∷ one64 ∷ half ∷ [])) (contained false)
    -- the square (0,0), (2,0), (2,2), (0,2), z = 0, by x ≤ 1, eps 0: one cut, so it ends in the second list
    ∷ row (clipping (up_to one64) zero64 (level zero64 zero64 ∷ level two64 zero64 ∷ level two64 two64 ∷ level zero64 two64 ∷ []))
    (leaves (outline true (level zero64 zero64 ∷ level one64 zero64 ∷ level one64 two64 ∷ level zero64 two64 ∷ [])))
    -- from (0.75,0,0) to (1.25,4,0), plane x = 0, eps 1: t = −1.5, point (0,−6,0)
    ∷ row (crossing (up_to zero64) one64 (level three_quarters zero64) (level five_quarters n4))
    (crosses true false m1half (level zero64 m6))
    -- the squares (0,0)–(2,2) and (1,1)–(3,3); the same subject and an empty clip list
    ∷ row (overlapping (square zero64 two64) (square one64 n3)) (area one64)
    ∷ row (overlapping (square zero64 two64) []) (area n4)
    ∷ []

-- the claim
abbrev pub Claim : Type 0
Claim = given table ≡ stated table

-- ---- rows beside those of SCOPE 16: the report's query point, the same points asked of `point_in_phed`,
-- and further crossings that are exact in f64
-- 1/4, 3/8, 5/2, −2, 5, 6 and 8
abbrev quarter : Float
quarter = of_bits binary64 0x3fd0_0000_0000_0000

abbrev three_eighths : Float
three_eighths = of_bits binary64 0x3fd8_0000_0000_0000

abbrev five_halves : Float
five_halves = of_bits binary64 0x4004_0000_0000_0000

abbrev m2 : Float
m2 = of_int binary64 (negsuc 1)

abbrev n5 : Float
n5 = of_int binary64 (pos 5)

abbrev n6 : Float
n6 = of_int binary64 (pos 6)

abbrev n8 : Float
n8 = of_int binary64 (pos 8)

abbrev pub beside : List Row
beside =
    row (containing (half ∷ half ∷ half ∷ [])) (contained true)
    ∷ row (containing_marked (zero64 ∷ half ∷ half ∷ [])) (contained true)
    ∷ row (containing_marked (one64 ∷ half ∷ half ∷ [])) (contained false)
    ∷ row (containing_marked (half ∷ one64 ∷ half ∷ [])) (contained false)
    ∷ row (containing_marked (half ∷ half ∷ half ∷ [])) (contained true)
    -- from (−1,0,0) out to (3,8,0), plane x = 0, eps 0: t = −1 / −4, point (0,2,0)
    ∷ row (crossing (up_to zero64) zero64 (level m1 zero64) (level n3 n8)) (crosses true false quarter (level zero64 two64))
    -- from (1,1,0) in to (−1,3,0): t = 1 / 2, point (0,2,0)
    ∷ row (crossing (up_to zero64) zero64 (level one64 one64) (level m1 n3)) (crosses false true half (level zero64 two64))
    -- from (−2,1,0) out to (6,5,0), plane x = 1: t = −3 / −8, point (1,5/2,0)
    ∷ row (crossing (up_to one64) zero64 (level m2 one64) (level n6 n5)) (crosses true false three_eighths (level one64 five_halves))
    -- from (2,0,0) in to (1,4,0), plane x = 0, eps 1: t = 2 / 1, point (0,8,0), past the side's end
    ∷ row (crossing (up_to zero64) one64 (level two64 zero64) (level one64 n4)) (crosses false true two64 (level zero64 n8))
    ∷ []
