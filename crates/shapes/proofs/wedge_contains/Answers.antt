-- `shapes::wedge_contains` meets its contract: either table makes a sound cell with any 18 coordinates, each count is the ray test's of its
-- table, and `!=` of the two answers is `differ`.
use mathlib.Core.Path.{refl}
use borrow.Author.Rules.{rules}
use Rattle.cell.specs.Faces.{faces_of}
use Rattle.shapes.specs.Shapes.{wedge_contains_of}
use Rattle.shapes.proofs.Tables.{tested, shape_sound}
use Rattle.shapes.proofs.Wedge.{differs}
use Rattle.shapes.proofs.wedge_contains.Goals as goal

pub invariant_of-quad_cell : goal.invariant_of-quad_cell
unfolding tested
invariant_of-quad_cell c = record { sound = shape_sound 18 _ _ _ (search rules) refl }

pub invariant_of-tri_cell : goal.invariant_of-tri_cell
unfolding tested
invariant_of-tri_cell c = record { sound = shape_sound 18 _ _ _ (search rules) refl }

pub returns : goal.returns
unfolding wedge_contains_of faces_of
returns c =
    rw (← c.numbers-coords.ensures.vertices) (differs c.contains-quads.ensures c.contains-triangles.ensures)
