-- Request 14, 'The area is in the triangles', worked by hand: real faces, each from one of its starts, what the cut gives, and the doubled
-- area vectors of the triangles, of the ring that remains and of the face, as one table and one claim about the definitions.
-- proofs/Area.antt proves the claim by computing them.
use Rattle.std.specs.Prelude.{◌≡◌, List, [], ◌∷◌, ◌++◌, reverse, ℕ, ◌^◌, ℤ, pos, neg_ℤ, ◌*ℤ◌, Float}
use Rattle.floats.specs.F64.{zero64, one64, two64}
use Rattle.exact.specs.Space.{V3, zero_vector}
use Rattle.flat.specs.Points.{Point, vertices_of}
use Rattle.demand3.specs.Demand3.{pieces, rest}
use Rattle.demand3.specs.Area.{area_of, areas_of, started_at}
use Rattle.demand3.specs.Cube.{cube, bottom}
use Rattle.worked.specs.Table.{seven, tri, level}

-- ---- a row: a question, and the answer that it states
pub record Answer : Type 0 where
  -- the triangles in order, and the ring that remains
  pub triangles : List (List ℕ)
  pub ring : List ℕ
  -- the doubled area vectors: of the triangles together, of that ring, and of the face
  pub in_triangles : V3
  pub in_ring : V3
  pub in_face : V3

pub record Row : Type 0 where
  -- a face over the vertices with these coordinates, and the place in it at which its list is started
  pub coords : List Float
  pub face : List ℕ
  pub start : ℕ
  pub answer : Answer

-- what the definitions answer
abbrev pub answer_of : List Point → List ℕ → Answer
answer_of vs face = record {
  triangles = pieces vs face;
  ring = rest vs face;
  in_triangles = areas_of vs (pieces vs face);
  in_ring = area_of vs (rest vs face);
  in_face = area_of vs face;
}

-- of every row, what the definitions give and what the row states
abbrev pub given : List Row → List Answer
given [] = []
given (r ∷ rs) = answer_of (vertices_of r.coords) (started_at r.start r.face) ∷ given rs

abbrev pub stated : List Row → List Answer
stated [] = []
stated (r ∷ rs) = r.answer ∷ stated rs

-- ---- the faces; all but `skew` lie at z = 0
-- the letter L: (0,0), (2,0), (2,1), (1,1), (1,2), (0,2)
abbrev pub letter_l : List Float
letter_l =
    level zero64 zero64 ++ level two64 zero64 ++ level two64 one64 ++ level one64 one64 ++ level one64 two64 ++ level zero64 two64

-- a notch: (0,0), (0,1), (1,2), (1,1), (2,1)
abbrev notched : List Float
notched = level zero64 zero64 ++ level zero64 one64 ++ level one64 two64 ++ level one64 one64 ++ level two64 one64

-- a face that is not flat: (0,0,0), (1,0,0), (1,1,1), (0,1,0)
abbrev skew : List Float
skew = level zero64 zero64 ++ level one64 zero64 ++ (one64 ∷ one64 ∷ one64 ∷ []) ++ level zero64 one64

-- a face that crosses itself: (0,0), (1,1), (1,0), (0,1)
abbrev crossed : List Float
crossed = level zero64 zero64 ++ level one64 one64 ++ level one64 zero64 ++ level zero64 one64

-- a face with two spikes: (0,0), (0,2), (0,1), (1,0), (2,0)
abbrev spiked : List Float
spiked = level zero64 zero64 ++ level zero64 two64 ++ level zero64 one64 ++ level one64 zero64 ++ level two64 zero64

-- the corners of each, in order
abbrev four_corners : List ℕ
four_corners = 0 ∷ 1 ∷ 2 ∷ 3 ∷ []

abbrev five_corners : List ℕ
five_corners = 0 ∷ 1 ∷ 2 ∷ 3 ∷ 4 ∷ []

abbrev six_corners : List ℕ
six_corners = 0 ∷ 1 ∷ 2 ∷ 3 ∷ 4 ∷ 5 ∷ []

abbrev seven_corners : List ℕ
seven_corners = 0 ∷ 1 ∷ 2 ∷ 3 ∷ 4 ∷ 5 ∷ 6 ∷ []

-- ---- the rows
-- the vector (x, y, z): coordinates are scaled by 2 ^ 1074, and so an area by the square of that
abbrev scaled_vector : ℤ → ℤ → ℤ → V3
scaled_vector x y z = record { x = x *ℤ pos (2 ^ 2148); y = y *ℤ pos (2 ^ 2148); z = z *ℤ pos (2 ^ 2148) }

-- (0, 0, z), as every face at z = 0 has
abbrev along_z : ℤ → V3
along_z z = scaled_vector (pos 0) (pos 0) z

abbrev row : List Float → List ℕ → ℕ → Answer → Row
row coords face start answer = record { coords = coords; face = face; start = start; answer = answer }

-- of a fully cut face: its vector is in the triangles, and no ring remains
abbrev full : List Float → List ℕ → ℕ → List (List ℕ) → V3 → Row
full coords face start triangles all =
    row coords face start (record { triangles = triangles; ring = []; in_triangles = all; in_ring = zero_vector; in_face = all })

abbrev pub rows : List Row
rows =
    -- the cube's face [0,3,2,1] from each of its four starts: −2, twice the area 1, downward
    full cube bottom 0 (tri 1 0 3 ∷ tri 3 2 1 ∷ []) (along_z (neg_ℤ (pos 2)))
    ∷ full cube bottom 1 (tri 0 3 2 ∷ tri 2 1 0 ∷ []) (along_z (neg_ℤ (pos 2)))
    ∷ full cube bottom 2 (tri 3 2 1 ∷ tri 1 0 3 ∷ []) (along_z (neg_ℤ (pos 2)))
    ∷ full cube bottom 3 (tri 2 1 0 ∷ tri 0 3 2 ∷ []) (along_z (neg_ℤ (pos 2)))
    -- traced backward: 2
    ∷ full cube (reverse bottom) 0 (tri 0 1 2 ∷ tri 2 3 0 ∷ []) (along_z (pos 2))
    -- the seven corners of SCOPE 16: 110 in the three triangles (0, 110 and 0), −12 in the ring of four, and 98 in the face
    ∷ row seven seven_corners 0 (record {
      triangles = tri 6 0 1 ∷ tri 6 1 2 ∷ tri 2 3 4 ∷ [];
      ring = 2 ∷ 4 ∷ 5 ∷ 6 ∷ [];
      in_triangles = along_z (pos 110);
      in_ring = along_z (neg_ℤ (pos 12));
      in_face = along_z (pos 98);
    })
    -- the letter L from two starts: no triangle in common, and 6 both times (4, 2, 1 and −1, of which the second reaches outside the
    -- face and the fourth runs backward; 2, 1, 1 and 2)
    ∷ full letter_l six_corners 0 (tri 5 0 1 ∷ tri 5 1 2 ∷ tri 3 4 5 ∷ tri 2 3 5 ∷ []) (along_z (pos 6))
    ∷ full letter_l six_corners 1 (tri 0 1 2 ∷ tri 0 2 3 ∷ tri 0 3 4 ∷ tri 4 5 0 ∷ []) (along_z (pos 6))
    -- the notch, −3: −2 and −2 in two triangles of which the second reaches outside the face, and 1 in a third, which runs backward
    ∷ full notched five_corners 0 (tri 4 0 1 ∷ tri 4 1 2 ∷ tri 2 3 4 ∷ []) (along_z (neg_ℤ (pos 3)))
    -- the face that is not flat from two starts: two different surfaces, and (−1,−1,2) both times
    ∷ full skew four_corners 0 (tri 3 0 1 ∷ tri 1 2 3 ∷ []) (scaled_vector (neg_ℤ (pos 1)) (neg_ℤ (pos 1)) (pos 2))
    ∷ full skew four_corners 1 (tri 0 1 2 ∷ tri 2 3 0 ∷ []) (scaled_vector (neg_ℤ (pos 1)) (neg_ℤ (pos 1)) (pos 2))
    -- the face that crosses itself: 1 in one triangle and −1 in the other, and so 0
    ∷ full crossed four_corners 0 (tri 3 0 1 ∷ tri 1 2 3 ∷ []) zero_vector
    -- the spiked face, −1: from place 0 the cut stops short, with −4 in one triangle and 3 in the ring; from every other it is full
    ∷ row spiked five_corners 0 (record {
      triangles = tri 4 0 1 ∷ [];
      ring = 1 ∷ 2 ∷ 3 ∷ 4 ∷ [];
      in_triangles = along_z (neg_ℤ (pos 4));
      in_ring = along_z (pos 3);
      in_face = along_z (neg_ℤ (pos 1));
    })
    ∷ full spiked five_corners 1 (tri 0 1 2 ∷ tri 0 2 3 ∷ tri 3 4 0 ∷ []) (along_z (neg_ℤ (pos 1)))
    ∷ full spiked five_corners 2 (tri 3 4 0 ∷ tri 2 3 0 ∷ tri 2 0 1 ∷ []) (along_z (neg_ℤ (pos 1)))
    ∷ full spiked five_corners 3 (tri 3 4 0 ∷ tri 2 3 0 ∷ tri 0 1 2 ∷ []) (along_z (neg_ℤ (pos 1)))
    ∷ full spiked five_corners 4 (tri 3 4 0 ∷ tri 3 0 1 ∷ tri 1 2 3 ∷ []) (along_z (neg_ℤ (pos 1)))
    ∷ []

-- the claim
abbrev pub Claim : Type 0
Claim = given rows ≡ stated rows
