-- Request 3, 'Turn the backward faces', worked by hand: cells, and what turn_faces answers and leaves, as one table and one claim.
-- proofs/TurnFaces.antt proves the claim: it computes the tests, and the laws of the promise do the rest.
use Rattle.std.specs.Prelude.{List, [], ◌∷◌, ◌++◌, ℕ, Float, Ok, Err}
use Rattle.places.specs.declared.refusal.Refusal.TheVariants.{Sides, Choice}
use Rattle.floats.specs.F64.{zero64, one64, two64}
use Rattle.geometry.specs.Answers.{Answer}
use Rattle.geometry.specs.TurnFaces.{TurnFacesGives}
use Rattle.demand3.specs.Cube.{cube, bottom, other_faces, hex_corners, hex_ends, backward_corners, torn_ends}

-- ---- a row: a cell, the answer, and the corner list afterwards
pub record Row : Type 0 where
  pub coords : List Float
  pub corners : List ℕ
  pub ends : List ℕ
  pub answer : Answer ℕ
  pub after : List ℕ

-- the promise holds of a row, and of every row
abbrev pub Holds : Row → Type 0
Holds r = TurnFacesGives r.coords r.corners r.ends r.answer r.after

infixr 5 ◌also◌
pub data HoldsOfAll : List Row → Type 0 where
  nothing : HoldsOfAll []
  ◌also◌ : {r : Row} {rs : List Row} → Holds r → HoldsOfAll rs → HoldsOfAll (r ∷ rs)

-- ---- the cells
-- a face of four corners
abbrev quad : ℕ → ℕ → ℕ → ℕ → List ℕ
quad a b c d = a ∷ b ∷ c ∷ d ∷ []

-- the unit cube with the face 0 stored as [1,2,3,0], after it is turned: the other five are reversed
abbrev pub inside_out : List ℕ
inside_out = quad 1 2 3 0 ++ quad 7 6 5 4 ++ quad 4 5 1 0 ++ quad 6 7 3 2 ++ quad 5 6 2 1 ++ quad 7 4 0 3

-- with one of the faces 1 to 5 stored backward
abbrev pub backward1 : List ℕ
backward1 = bottom ++ quad 7 6 5 4 ++ quad 0 1 5 4 ++ quad 2 3 7 6 ++ quad 1 2 6 5 ++ quad 3 0 4 7

abbrev pub backward2 : List ℕ
backward2 = bottom ++ quad 4 5 6 7 ++ quad 4 5 1 0 ++ quad 2 3 7 6 ++ quad 1 2 6 5 ++ quad 3 0 4 7

abbrev pub backward3 : List ℕ
backward3 = bottom ++ quad 4 5 6 7 ++ quad 0 1 5 4 ++ quad 6 7 3 2 ++ quad 1 2 6 5 ++ quad 3 0 4 7

abbrev pub backward4 : List ℕ
backward4 = bottom ++ quad 4 5 6 7 ++ quad 0 1 5 4 ++ quad 2 3 7 6 ++ quad 5 6 2 1 ++ quad 3 0 4 7

abbrev pub backward5 : List ℕ
backward5 = bottom ++ quad 4 5 6 7 ++ quad 0 1 5 4 ++ quad 2 3 7 6 ++ quad 1 2 6 5 ++ quad 7 4 0 3

-- two cubes side by side in one cell: the second, one further along x, has the vertices 8 to 15 and the faces 6 to 11
abbrev pub two_cubes : List Float
two_cubes =
    cube
    ++ one64 ∷ zero64 ∷ zero64 ∷ two64 ∷ zero64 ∷ zero64 ∷ two64 ∷ one64 ∷ zero64 ∷ one64 ∷ one64 ∷ zero64
    ∷ one64 ∷ zero64 ∷ one64 ∷ two64 ∷ zero64 ∷ one64 ∷ two64 ∷ one64 ∷ one64 ∷ one64 ∷ one64 ∷ one64 ∷ []

abbrev pub second : List ℕ
second = quad 8 11 10 9 ++ quad 12 13 14 15 ++ quad 8 9 13 12 ++ quad 10 11 15 14 ++ quad 9 10 14 13 ++ quad 11 8 12 15

abbrev pub two_ends : List ℕ
two_ends = hex_ends ++ 28 ∷ 32 ∷ 36 ∷ 40 ∷ 44 ∷ 48 ∷ []

-- the second with the face 8 stored backward, with the face 6, and with all but the face 6
abbrev pub second2 : List ℕ
second2 = quad 8 11 10 9 ++ quad 12 13 14 15 ++ quad 12 13 9 8 ++ quad 10 11 15 14 ++ quad 9 10 14 13 ++ quad 11 8 12 15

abbrev pub second0 : List ℕ
second0 = quad 9 10 11 8 ++ quad 12 13 14 15 ++ quad 8 9 13 12 ++ quad 10 11 15 14 ++ quad 9 10 14 13 ++ quad 11 8 12 15

abbrev pub second_out : List ℕ
second_out = quad 9 10 11 8 ++ quad 15 14 13 12 ++ quad 12 13 9 8 ++ quad 14 15 11 10 ++ quad 13 14 10 9 ++ quad 15 12 8 11

-- the hemicube, a band closed to a projective plane: three quadrangles on four vertices, in which every side occurs twice
abbrev pub hemicube : List ℕ
hemicube = quad 0 1 2 3 ++ quad 0 1 3 2 ++ quad 0 2 1 3

abbrev pub hemi_ends : List ℕ
hemi_ends = 4 ∷ 8 ∷ 12 ∷ []

-- a face that holds the vertex 0 twice, and the same face backward: every side occurs exactly twice
abbrev pub bow : List ℕ
bow = (0 ∷ 1 ∷ 2 ∷ 0 ∷ 3 ∷ 4 ∷ []) ++ 4 ∷ 3 ∷ 0 ∷ 2 ∷ 1 ∷ 0 ∷ []

abbrev pub bow_ends : List ℕ
bow_ends = 6 ∷ 12 ∷ []

-- the cube with the faces [0] and [0,6] beside it
abbrev pub thin_corners : List ℕ
thin_corners = hex_corners ++ 0 ∷ 0 ∷ 6 ∷ []

-- ---- the rows
abbrev row : List Float → List ℕ → List ℕ → Answer ℕ → List ℕ → Row
row coords corners ends answer after = record { coords = coords; corners = corners; ends = ends; answer = answer; after = after }

abbrev pub table : List Row
table =
    -- the unit cube of SCOPE 15 with the face 0 stored backward: that face keeps its direction, so the other five are reversed
    row cube backward_corners hex_ends (Ok 5) inside_out
    -- with one of the faces 1 to 5 stored backward: that face is reversed
    ∷ row cube backward1 hex_ends (Ok 1) hex_corners
    ∷ row cube backward2 hex_ends (Ok 1) hex_corners
    ∷ row cube backward3 hex_ends (Ok 1) hex_corners
    ∷ row cube backward4 hex_ends (Ok 1) hex_corners
    ∷ row cube backward5 hex_ends (Ok 1) hex_corners
    -- as it is: nothing is reversed
    ∷ row cube hex_corners hex_ends (Ok 0) hex_corners
    -- two cubes, with the faces 4 and 8 stored backward: each group is turned by itself
    ∷ row two_cubes (backward4 ++ second2) two_ends (Ok 2) (hex_corners ++ second)
    -- two cubes, with the face 6 stored backward: it is the lowest of its group, so the other five of the second cube are reversed
    ∷ row two_cubes (hex_corners ++ second0) two_ends (Ok 5) (hex_corners ++ second_out)
    -- the hemicube: both conditions hold, and no choice closes it
    ∷ row cube hemicube hemi_ends (Err Choice) hemicube
    -- an open cube, without its face 0: four sides occur once
    ∷ row cube other_faces torn_ends (Err Sides) other_faces
    -- a face that holds a vertex twice
    ∷ row cube bow bow_ends (Err Sides) bow
    -- a face of 0 corners beside the cube: 5 is not given
    ∷ row cube hex_corners (hex_ends ++ 24 ∷ []) (Ok 0) hex_corners
    -- a face of one corner and one of two beside the cube: they have no side in common with any other face, and keep their direction
    ∷ row cube thin_corners (hex_ends ++ 25 ∷ 27 ∷ []) (Ok 0) thin_corners
    -- no face at all
    ∷ row cube [] [] (Ok 0) []
    ∷ []

-- the claim
abbrev pub Claim : Type 0
Claim = HoldsOfAll table
