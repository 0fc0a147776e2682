-- `overlap::own_plane` meets its contract: where the face has area the plane at place j is its own, and where all faces have area it has
-- (`Next`).
use mathlib.Core.Path.{sym, ◌∙◌}
use Rattle.planes.specs.Steps.{no_plane}
use Rattle.planes.proofs.Faces.{plane_without_area}
use Rattle.overlap.proofs.Own.{next_full, next_there, next_plane}
use Rattle.overlap.proofs.own_plane.Goals as goal

pub has_no_area-requires : goal.has_no_area-requires
has_no_area-requires c =
    record { inside = c.requires.inside; face_value = next_full c.requires.next }

pub returns-then-has_no_area : goal.returns-then-has_no_area
returns-then-has_no_area c =
    rw (plane_without_area _ (sym c.has_no_area.ensures ∙ c.if-has_no_area.true))

pub plane_at-requires : goal.plane_at-requires
plane_at-requires c =
    next_there c.requires.next (sym c.has_no_area.ensures ∙ c.if-has_no_area.false)

pub returns : goal.returns
returns c =
    rw (next_plane c.requires.next (sym c.has_no_area.ensures ∙ c.if-has_no_area.false) no_plane, c.plane_at.ensures)
