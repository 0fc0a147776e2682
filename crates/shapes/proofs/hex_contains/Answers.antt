-- `shapes::hex_contains` meets its contract: the points' numbers, one after the other, have the points for vertices, and the faces' table
-- makes a sound cell with any 24 coordinates, as it does with 24 zeros.
use mathlib.Core.Path.{◌∙◌, refl}
use borrow.Author.Rules.{rules}
use Rattle.cell.specs.Faces.{faces_of}
use Rattle.shapes.specs.Shapes.{hex_contains_of}
use Rattle.shapes.proofs.Tables.{tested, shape_sound}
use Rattle.shapes.proofs.hex_contains.Goals as goal

pub invariant_of-cell : goal.invariant_of-cell
unfolding tested
invariant_of-cell c = record { sound = shape_sound 24 _ _ _ (search rules) refl }

pub returns : goal.returns
unfolding hex_contains_of faces_of
returns c =
    c.contains.ensures ∙ rw c.numbers-coords.ensures.vertices
