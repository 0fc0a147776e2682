-- What is refused, as the table of SCOPE 3 has it: a refusal and what it is given for, and the first row that applies decides.
use Rattle.std.specs.Prelude.{Bool, not, ◌&&◌, ◌||◌, cond, List, [], ◌∷◌, ℕ, ◌%◌, leb, ltb, eqb, length, Float, Err}
use Rattle.std.specs.Float.{binary64}
use Rattle.std.specs.Float.Ieee.{of_bits, le, neg}
use Rattle.places.specs.Limits.{most_vertices, most_faces, most_corners}
use Rattle.places.specs.Loops.{any_of}
use Rattle.places.specs.Refusals.{Check, no_refusal}
use Rattle.places.specs.declared.refusal.Refusal.{Refusal}
use Rattle.places.specs.declared.refusal.Refusal.TheVariants.{Size, Number, Ends, Index}
use Rattle.flat.specs.Points.{vertices_of}
use Rattle.cell.specs.Faces.{faces_of, rises}

-- the first row that applies refuses, and where none does the check passes
unfoldable pub first_row : List (Refusal × Bool) → Check
first_row [] = no_refusal
first_row (row ∷ rows) =
    let rest = first_row rows in
    cond row.1 (Err row.0) rest

-- 2 ^ 40, the largest magnitude
abbrev pub limit : Float
limit = of_bits binary64 0x4270_0000_0000_0000

-- a number is NaN, infinite or above 2 ^ 40 in magnitude: it is not from −2 ^ 40 to 2 ^ 40, with which a NaN does not compare;
-- −0 and 2 ^ 40 itself are
unfoldable pub out_of_range : Float → Bool
out_of_range x = not (le (neg limit) x && le x limit)

-- a number is not below n
abbrev pub not_below : ℕ → ℕ → Bool
not_below n c = leb n c

-- a face has no corners
unfoldable pub is_empty : List ℕ → Bool
is_empty face = eqb (length face) 0

-- ---- the rows for a cell
-- 1 size, of points of space: coordinates not in threes, 0 or over 256 vertices
unfoldable pub points_refused : List Float → Bool
points_refused coords =
    not (eqb (length coords % 3) 0)
    || (eqb (length (vertices_of coords)) 0
    || ltb most_vertices (length (vertices_of coords)))

-- 1 size: that, or over 256 faces, or over 2,048 corners
unfoldable pub size_refused : List Float → List ℕ → List ℕ → Bool
size_refused coords corners ends = points_refused coords || (ltb most_faces (length ends) || ltb most_corners (length corners))

-- 2 number: one of the numbers is out of range
unfoldable pub number_refused : List Float → Bool
number_refused xs = any_of out_of_range xs

-- 3 ends: they fall, or the last is not the corner count
unfoldable pub ends_refused : List ℕ → List ℕ → Bool
ends_refused corners ends = not (rises 0 ends (length corners))

-- 4 index: one of the numbers is not below n
unfoldable pub index_refused : ℕ → List ℕ → Bool
index_refused n cs = any_of (not_below n) cs

-- 5 empty face: any face of 0 corners
unfoldable pub empty_refused : List ℕ → List ℕ → Bool
empty_refused corners ends = any_of is_empty (faces_of corners ends)

-- whether a cell passes, or why it is refused: `query` are query values, judged with the coordinates, and `asked` the numbers of faces that
-- are asked for
unfoldable pub refusal_of : List Float → List ℕ → List ℕ → List Float → List ℕ → Check
refusal_of coords corners ends query asked =
    first_row (
    (Size, size_refused coords corners ends)
    ∷ (Number, number_refused coords || number_refused query)
    ∷ (Ends, ends_refused corners ends)
    ∷ (Index, index_refused (length (vertices_of coords)) corners || index_refused (length ends) asked)
    ∷ [])
