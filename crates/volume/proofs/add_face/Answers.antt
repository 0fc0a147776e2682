-- `volume::add_face` meets its contract: the cut lays the face's triangles at the front of `out`, so the sum over that front and their
-- count are what the definition has.
use mathlib.Core.Path.{◌≡◌}
use native.Mathlib.Omega.{arith}
use Rattle.places.specs.Loops.{fold_list}
use Rattle.flat.specs.Points.{vertices_of}
use Rattle.cut.specs.Cut.{cut_of}
use Rattle.volume.specs.Triangles.{is_short}
use Rattle.volume.specs.Volume.{add_triple}
use Rattle.volume.specs.Steps.{add_face}
use Rattle.volume.proofs.Passes.{Front, cut_front}
use Rattle.volume.proofs.add_face.Goals as goal
use Rattle.volume.proofs.add_face.Goals.{After-cut-c}

-- what stands in the list that was lent, after the cut
laid : (c : After-cut-c) → Front (vertices_of c.args.coords.now) c.args.face.now c.cut-c.result.triangles c.cut-c.new.out
laid c =
    cut_front (vertices_of c.args.coords.now) c.args.face.now c.requires.inside c.requires.face_len_bound.1 c.cut-c.auto.out c.cut-c.ensures

pub add_triangles-v6-requires : goal.add_triangles-v6-requires
add_triangles-v6-requires c = (laid (goal.at.add_triangles-v6-requires c).After-cut-c).inside

pub short_share-more-requires : goal.short_share-more-requires
short_share-more-requires c =
    omega (arith, (laid (goal.at.short_share-more-requires c).After-cut-c).few)

pub returns : goal.returns
unfolding add_face is_short
returns c =
    let vs = vertices_of c.args.coords.now in
    let v6 : c.add_triangles-v6.result ≡ fold_list (add_triple vs c.args.refp) (cut_of vs c.args.face.now).triangles c.args.m.v6 =
    cc (laid (goal.at.returns c).After-cut-c).shown in
    rw (← v6, ← c.cut-c.ensures.count, ← c.short_share-more.ensures.0)
