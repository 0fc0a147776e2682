-- Points as they are stored: the numbers of one point after those of another, three a point of space or two a point of the plane. Triangles
-- that a client sends are stored as points of space are, three places a triangle.
-- This is the only file that speaks of it (Steps.antt adds the numbers over, which make no point); every other definition is over points.
use Rattle.std.specs.Prelude.{List, [], ◌∷◌, ◌++◌}

-- the points, or the triangles, of a list that is stored in threes; one or two numbers over make none
unfoldable pub in_threes : {A : Type 0} → List A → List (List A)
in_threes [] = []
in_threes (a ∷ []) = []
in_threes (a ∷ b ∷ []) = []
in_threes (a ∷ b ∷ c ∷ l) = (a ∷ b ∷ c ∷ []) ∷ in_threes l

-- the points of a list that is stored in pairs; one number over makes no point
unfoldable pub in_pairs : {A : Type 0} → List A → List (List A)
in_pairs [] = []
in_pairs (a ∷ []) = []
in_pairs (a ∷ b ∷ l) = (a ∷ b ∷ []) ∷ in_pairs l

-- lists one after the other: the numbers of points, the corners of faces
unfoldable pub joined : {A : Type 0} → List (List A) → List A
joined [] = []
joined (p ∷ ps) = p ++ joined ps
