-- `cut::by_place::fill_corners` meets its contract: each place gets the point of the face's corner there.
use native.Mathlib.Omega.{arith}
use mathlib.Core.List.{[]}
use lib.Seq.{ext_get_or}
use Rattle.flat.specs.Points.{vertices_of, corners_of}
use Rattle.flat.proofs.Corners.{length_corners}
use Rattle.cut.proofs.by_place.fill_corners.Goals as goal

pub returns : goal.returns
returns c =
    let vs = vertices_of c.args.coords.now in
    let n = length_corners vs c.args.face.now in
    ext_get_or [] _ (corners_of vs c.args.face.now) (omega arith) (λ k h. c.loop-i.invariant k (omega arith))
