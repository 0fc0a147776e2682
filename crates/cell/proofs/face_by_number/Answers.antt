-- `cell::face_by_number` meets its contract: face k runs from the end before it up to its own, and ends in order are within the corners.
use mathlib.Core.Path.{sym, ◌∙◌}
use Rattle.cell.proofs.Faces.{face_at, rises_at}
use Rattle.cell.proofs.face_by_number.Goals as goal

pub face-requires : goal.face-requires
face-requires c =
    rw (c.corner.ensures.0, c.start.ensures) (rises_at 0 c.args.ends.now _ c.args.k c.requires.1 c.requires.0)

pub returns : goal.returns
returns c =
    c.face.ensures ∙
    rw (c.corner.ensures.0, c.start.ensures)
    (sym (face_at c.args.corners.now c.args.ends.now c.args.k c.requires.1))
