-- `cut::fill_points` meets its contract: each place gets the point of the face's corner there.
use native.Mathlib.Omega.{arith}
use mathlib.Core.List.{[]}
use Rattle.flat.specs.Points.{vertices_of}
use Rattle.flat.specs.Flat.{point_of, points_of}
use Rattle.cut.proofs.Storing.{stored}
use Rattle.cut.proofs.fill_points.Goals as goal

pub returns : goal.returns
unfolding points_of
returns c =
    let point_at = point_of (vertices_of c.args.coords.now) c.args.axis in
    stored point_at 0 [] c.args.face.now _ (omega arith) (λ k h. c.loop-i.invariant k (omega arith))
