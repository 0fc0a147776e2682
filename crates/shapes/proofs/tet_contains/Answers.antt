-- `shapes::tet_contains` meets its contract: the points' numbers, one after the other, have the points for vertices, and the faces' table
-- makes a sound cell with any 12 coordinates, as it does with 12 zeros.
use mathlib.Core.Path.{◌∙◌, refl}
use borrow.Author.Rules.{rules}
use Rattle.cell.specs.Faces.{faces_of}
use Rattle.shapes.specs.Shapes.{tet_contains_of}
use Rattle.shapes.proofs.Tables.{tested, shape_sound}
use Rattle.shapes.proofs.tet_contains.Goals as goal

pub invariant_of-cell : goal.invariant_of-cell
unfolding tested
invariant_of-cell c = record { sound = shape_sound 12 _ _ _ (search rules) refl }

pub returns : goal.returns
unfolding tet_contains_of faces_of
returns c =
    c.contains.ensures ∙ rw c.numbers-coords.ensures.vertices
