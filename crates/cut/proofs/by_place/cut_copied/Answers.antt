-- `cut::by_place::cut_copied` meets its contract: the two lists hold the points of the face's corners and its places in order, so the cut
-- of the one over the other is the cut by place.
use Rattle.flat.specs.Points.{vertices_of}
use Rattle.cut.proofs.ByPlace.{copied, copied_inside, copied_shown}
use Rattle.cut.proofs.by_place.cut_copied.Goals as goal

pub cut-requires-clause-inside : goal.cut-requires-clause-inside
cut-requires-clause-inside c =
    let read = copied c.args.coords.now c.args.face.now c.requires.inside c.fill_corners.ensures c.as_flattened.ensures.value in
    copied_inside (vertices_of c.args.coords.now) c.args.face.now read c.fill_order.ensures c.requires.points_len.1

pub returns : goal.returns
returns c =
    let read = copied c.args.coords.now c.args.face.now c.requires.inside c.fill_corners.ensures c.as_flattened.ensures.value in
    copied_shown (vertices_of c.args.coords.now) c.args.face.now read c.fill_order.ensures c.requires.points_len.1 c.cut.ensures
