-- The triangles that the faces of a cell are cut into, and the rings that are left.
use Rattle.std.specs.Prelude.{Bool, ◌&&◌, List, [], ◌∷◌, ◌++◌, ℕ, ◌+◌, leb, ltb, length}
use Rattle.places.specs.Loops.{count_of}
use Rattle.flat.specs.Points.{Point}
use Rattle.cut.specs.Cut.{cut_of}

-- the triangles of all faces, in order
unfoldable pub triangles_of : List Point → List (List ℕ) → List (List ℕ)
triangles_of vs [] = []
triangles_of vs (f ∷ fs) = (cut_of vs f).triangles ++ triangles_of vs fs

-- the ring that each face left: none where its cut came to the end
unfoldable pub lefts_of : List Point → List (List ℕ) → List (List ℕ)
lefts_of vs [] = []
lefts_of vs (f ∷ fs) = (cut_of vs f).left ∷ lefts_of vs fs

-- a face of n ≥ 3 corners that gave fewer than n − 2 triangles
unfoldable pub is_short : List Point → List ℕ → Bool
is_short vs f = leb 3 (length f) && ltb (length (cut_of vs f).triangles + 2) (length f)

-- how many faces are short
unfoldable pub short_of : List Point → List (List ℕ) → ℕ
short_of vs fs = count_of (is_short vs) fs
