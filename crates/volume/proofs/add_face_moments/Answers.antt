-- `volume::add_face_moments` meets its contract: the cut lays the face's triangles at the front of `out`, so the sums over that front are
-- those over the definition's triangles.
use Rattle.flat.specs.Points.{vertices_of}
use Rattle.volume.specs.Steps.{add_face_moments}
use Rattle.volume.proofs.Passes.{Front, cut_front}
use Rattle.volume.proofs.add_face_moments.Goals as goal
use Rattle.volume.proofs.add_face_moments.Goals.{After-cut-c}

-- what stands in the list that was lent, after the cut
laid : (c : After-cut-c) → Front (vertices_of c.args.coords.now) c.args.face.now c.cut-c.result.triangles c.cut-c.new.out
laid c =
    cut_front (vertices_of c.args.coords.now) c.args.face.now c.requires.inside c.requires.face_len_bound.1 c.cut-c.auto.out c.cut-c.ensures

pub add_moments-requires : goal.add_moments-requires
add_moments-requires c = (laid (goal.at.add_moments-requires c).After-cut-c).inside

pub returns : goal.returns
unfolding add_face_moments
returns c = cc (laid (goal.at.returns c).After-cut-c).shown
