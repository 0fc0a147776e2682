-- `cut::cut_in` meets its contract: the axis is that of the face's own normal, so the cut along it is the face's.
use Rattle.flat.specs.Points.{vertices_of}
use Rattle.cut.proofs.Going.{ring_shown}
use Rattle.cut.proofs.cut_in.Goals as goal

pub returns : goal.returns
returns c =
    ring_shown (vertices_of c.args.coords.now) c.args.face.now c.requires.in_bounds.0 c.face_normal.ensures c.dominant_axis-axis.ensures
    c.cut_ring.ensures
