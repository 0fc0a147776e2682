-- Worked cells, computed: the cube is closed, with a face turned round it is not, and a face without corners changes nothing.
use mathlib.Core.Path.{◌≡◌, refl}
use mathlib.Core.Bool.{true, false}
use mathlib.Core.List.{List, [], ◌∷◌}
use Prim.Native.Nat.{ℕ}
use Rattle.exact.specs.Sides.{closed_of}
use Rattle.cell.specs.Faces.{faces_of}

abbrev cube : List ℕ
cube = 0 ∷ 3 ∷ 2 ∷ 1 ∷ 4 ∷ 5 ∷ 6 ∷ 7 ∷ 0 ∷ 1 ∷ 5 ∷ 4 ∷ 1 ∷ 2 ∷ 6 ∷ 5 ∷ 2 ∷ 3 ∷ 7 ∷ 6 ∷ 3 ∷ 0 ∷ 4 ∷ 7 ∷ []

abbrev backward : List ℕ
backward = 1 ∷ 2 ∷ 3 ∷ 0 ∷ 4 ∷ 5 ∷ 6 ∷ 7 ∷ 0 ∷ 1 ∷ 5 ∷ 4 ∷ 1 ∷ 2 ∷ 6 ∷ 5 ∷ 2 ∷ 3 ∷ 7 ∷ 6 ∷ 3 ∷ 0 ∷ 4 ∷ 7 ∷ []

row1 : closed_of (faces_of cube (4 ∷ 8 ∷ 12 ∷ 16 ∷ 20 ∷ 24 ∷ [])) ≡ true
unfolding closed_of faces_of
row1 = refl

row2 : closed_of (faces_of backward (4 ∷ 8 ∷ 12 ∷ 16 ∷ 20 ∷ 24 ∷ [])) ≡ false
unfolding closed_of faces_of
row2 = refl

row3 : closed_of (faces_of cube (4 ∷ 4 ∷ 8 ∷ 12 ∷ 16 ∷ 20 ∷ 24 ∷ [])) ≡ true
unfolding closed_of faces_of
row3 = refl

-- a face of two corners runs both ways, and one of one corner only to itself
row4 : closed_of (faces_of (3 ∷ 5 ∷ 7 ∷ []) (2 ∷ 3 ∷ [])) ≡ true
unfolding closed_of faces_of
row4 = refl
