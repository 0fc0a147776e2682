-- Request 9, 'Check triangles that clients send', worked by hand: lists of triangles and what `check_cut` answers, and faces that our own
-- cut takes apart by place, as two tables and one claim about the definitions. proofs/CheckCut.antt proves the claim by computing them.
-- The check says yes to some lists and no to others: no to one with a triangle doubled, turned round or missing.
use Rattle.std.specs.Prelude.{◌≡◌, Bool, true, false, List, [], ◌∷◌, ◌++◌, ℕ, length, replicate, Float, Ok, Err}
use Rattle.places.specs.declared.refusal.Refusal.{Refusal}
use Rattle.places.specs.declared.refusal.Refusal.TheVariants.{Size, Index}
use Rattle.floats.specs.F64.{zero64, one64, two64}
use Rattle.places.specs.Stored.{joined}
use Rattle.flat.specs.Points.{vertices_of}
use Rattle.cut.specs.Cut.{cut_by_place}
use Rattle.geometry.specs.Answers.{Answer}
use Rattle.geometry.specs.CheckCut.{check_cut_answer}
use Rattle.demand3.specs.Demand3.{pieces}
use Rattle.worked.specs.Table.{seven, tri, level}
use Rattle.worked.specs.Area.{letter_l}

-- ---- a row: a face of n corners, the places of the triangles that are sent, and the answer
pub record Row : Type 0 where
  pub n : ℕ
  pub places : List ℕ
  pub answer : Answer Bool

-- of every row, what the definitions give and what the row states
abbrev pub given : List Row → List (Answer Bool)
given [] = []
given (r ∷ rs) = check_cut_answer r.n r.places ∷ given rs

abbrev pub stated : List Row → List (Answer Bool)
stated [] = []
stated (r ∷ rs) = r.answer ∷ stated rs

-- rows that are accepted, not accepted, and refused
abbrev yes : ℕ → List ℕ → Row
yes n places = record { n = n; places = places; answer = Ok true }

abbrev no : ℕ → List ℕ → Row
no n places = record { n = n; places = places; answer = Ok false }

abbrev refused : Refusal → ℕ → List ℕ → Row
refused why n places = record { n = n; places = places; answer = Err why }

abbrev pub table : List Row
table =
    -- a triangle is its own cut, from each of its corners; turned round it is none
    yes 3 (tri 0 1 2)
    ∷ yes 3 (tri 1 2 0)
    ∷ yes 3 (tri 2 0 1)
    ∷ no 3 (tri 0 2 1)
    -- no triangle at all is one too few
    ∷ no 3 []
    -- a quadrangle: its two cuts, in any order and from any corner
    ∷ yes 4 (tri 0 1 2 ++ tri 0 2 3)
    ∷ yes 4 (tri 1 2 3 ++ tri 3 0 1)
    ∷ yes 4 (tri 2 3 0 ++ tri 1 2 0)
    -- a triangle doubled, one turned round, both turned round, one missing, one more
    ∷ no 4 (tri 0 1 2 ++ tri 0 1 2)
    ∷ no 4 (tri 0 1 2 ++ tri 0 3 2)
    ∷ no 4 (tri 0 2 1 ++ tri 0 3 2)
    ∷ no 4 (tri 0 1 2)
    ∷ no 4 (tri 0 1 2 ++ tri 0 2 3 ++ tri 0 1 2)
    -- one triangle of each of its two cuts: the side from 1 to 2 occurs twice
    ∷ no 4 (tri 0 1 2 ++ tri 1 2 3)
    -- a place twice in one triangle
    ∷ no 4 (tri 0 1 1 ++ tri 1 2 3)
    -- five and six corners: a fan, a strip, and the triangle in the middle of a hexagon
    ∷ yes 5 (tri 0 1 2 ++ tri 0 2 3 ++ tri 0 3 4)
    ∷ yes 6 (tri 0 1 5 ++ tri 1 2 5 ++ tri 2 4 5 ++ tri 2 3 4)
    ∷ yes 6 (tri 0 1 2 ++ tri 2 3 4 ++ tri 4 5 0 ++ tri 0 2 4)
    -- each side of the hexagon occurs once its own way, but the triangle in the middle is turned round
    ∷ no 6 (tri 0 1 2 ++ tri 2 3 4 ++ tri 4 5 0 ++ tri 0 4 2)
    -- seven corners: as many triangles as a cut has, two of which are back to back, and the side from 6 to 0 is missing
    ∷ no 7 (tri 0 1 2 ++ tri 2 3 4 ++ tri 4 5 6 ++ tri 1 3 5 ++ tri 1 5 3)
    -- 1 size: n, 255 triangles, and places not in threes
    ∷ refused Size 0 []
    ∷ refused Size 2 (tri 0 1 0)
    ∷ refused Size 257 (tri 0 1 2)
    ∷ refused Size 256 (replicate 765 0)
    ∷ refused Size 4 (tri 0 1 2 ++ 0 ∷ 2 ∷ [])
    -- 1 comes before 4
    ∷ refused Size 4 (tri 0 1 4 ++ 9 ∷ [])
    -- 4 index: a place that is n, and one beyond it, even where there are too few triangles
    ∷ refused Index 4 (tri 0 1 2 ++ tri 0 2 4)
    ∷ refused Index 5 (9 ∷ 1 ∷ 2 ∷ [])
    ∷ []

-- ---- our own cut: a face over the vertices with these coordinates, its triangles by place and by vertex number, and whether the check
-- accepts them by place
pub record Own : Type 0 where
  pub by_place : List (List ℕ)
  pub by_number : List (List ℕ)
  pub answer : Answer Bool

abbrev pub own_of : List Float → List ℕ → Own
own_of coords face =
    let ts = (cut_by_place (vertices_of coords) face).triangles in
    record { by_place = ts; by_number = pieces (vertices_of coords) face; answer = check_cut_answer (length face) (joined ts) }

-- an hourglass, whose face 0, 1, 2, 3, 1, 4 holds the vertex in the middle twice: (0,0), (1,1), (0,2), (2,2), (2,0)
abbrev hourglass : List Float
hourglass = level zero64 zero64 ++ level one64 one64 ++ level zero64 two64 ++ level two64 two64 ++ level two64 zero64

abbrev pub own_given : List Own
own_given =
    own_of hourglass (0 ∷ 1 ∷ 2 ∷ 3 ∷ 1 ∷ 4 ∷ [])
    ∷ own_of letter_l (3 ∷ 4 ∷ 5 ∷ 0 ∷ 1 ∷ 2 ∷ [])
    ∷ own_of seven (0 ∷ 1 ∷ 2 ∷ 3 ∷ 4 ∷ 5 ∷ 6 ∷ [])
    ∷ []

abbrev pub own_stated : List Own
own_stated =
    -- by number the corners at the places 1 and 4 are both vertex 1
    record {
      by_place = tri 5 0 1 ∷ tri 5 1 2 ∷ tri 5 2 3 ∷ tri 3 4 5 ∷ [];
      by_number = tri 4 0 1 ∷ tri 4 1 2 ∷ tri 4 2 3 ∷ tri 3 1 4 ∷ [];
      answer = Ok true;
    }
    -- the letter L from its corner 3 on
    ∷ record {
      by_place = tri 0 1 2 ∷ tri 0 2 3 ∷ tri 5 0 3 ∷ tri 3 4 5 ∷ [];
      by_number = tri 3 4 5 ∷ tri 3 5 0 ∷ tri 2 3 0 ∷ tri 0 1 2 ∷ [];
      answer = Ok true;
    }
    -- the seven corners of SCOPE 16, which are cut short: three triangles are not accepted
    ∷ record {
      by_place = tri 6 0 1 ∷ tri 6 1 2 ∷ tri 2 3 4 ∷ [];
      by_number = tri 6 0 1 ∷ tri 6 1 2 ∷ tri 2 3 4 ∷ [];
      answer = Ok false;
    }
    ∷ []

-- ---- the claim: every row is what the definitions give
pub record Claim : Type 0 where
  pub checked : given table ≡ stated table
  pub own : own_given ≡ own_stated
