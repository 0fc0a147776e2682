-- The unit cube of SCOPE 15 with HEX8_FACES for its faces, and two cells made of it that are not closed.
use Rattle.std.specs.Prelude.{List, [], ◌∷◌, ◌++◌, ℕ, Float}
use Rattle.floats.specs.F64.{zero64, one64}

-- the coordinates of the vertices 0 to 7: (0,0,0), (1,0,0), (1,1,0), (0,1,0), then the same at z = 1
abbrev pub cube : List Float
cube =
    zero64 ∷ zero64 ∷ zero64 ∷ one64 ∷ zero64 ∷ zero64 ∷ one64 ∷ one64 ∷ zero64 ∷ zero64 ∷ one64 ∷ zero64
    ∷ zero64 ∷ zero64 ∷ one64 ∷ one64 ∷ zero64 ∷ one64 ∷ one64 ∷ one64 ∷ one64 ∷ zero64 ∷ one64 ∷ one64 ∷ []

-- HEX8_FACES: the first face, and the corners of the other five
abbrev pub bottom : List ℕ
bottom = 0 ∷ 3 ∷ 2 ∷ 1 ∷ []

abbrev pub other_faces : List ℕ
other_faces = 4 ∷ 5 ∷ 6 ∷ 7 ∷ 0 ∷ 1 ∷ 5 ∷ 4 ∷ 2 ∷ 3 ∷ 7 ∷ 6 ∷ 1 ∷ 2 ∷ 6 ∷ 5 ∷ 3 ∷ 0 ∷ 4 ∷ 7 ∷ []

-- as a cell's corners and ends
abbrev pub hex_corners : List ℕ
hex_corners = bottom ++ other_faces

abbrev pub hex_ends : List ℕ
hex_ends = 4 ∷ 8 ∷ 12 ∷ 16 ∷ 20 ∷ 24 ∷ []

-- with the face [0,3,2,1] stored as [1,2,3,0]
abbrev pub backward_corners : List ℕ
backward_corners = 1 ∷ 2 ∷ 3 ∷ 0 ∷ other_faces

-- and torn: without that face
abbrev pub torn_ends : List ℕ
torn_ends = 4 ∷ 8 ∷ 12 ∷ 16 ∷ 20 ∷ []
