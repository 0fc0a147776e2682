-- `overlap::tolerances::measures` meets its contract: the sum over the second cell's points goes on from that over the first's
-- (`first_mean`, `both_mean`), the root of the largest square is the largest distance (`radial_both`), and the other parts are computed as
-- they are defined.
use mathlib.Core.Path.{◌∙◌}
use native.Mathlib.Omega.{arith}
use Rattle.places.proofs.Stored.{length_threes}
use Rattle.overlap.specs.Tolerances.{measures_of}
use Rattle.overlap.proofs.Both.{first_mean, both_mean, radial_both}
use Rattle.flat.specs.Points.{vertices_of}
use Rattle.overlap.proofs.tolerances.measures.Goals as goal

pub returns : goal.returns
unfolding measures_of
returns c =
    let vs = vertices_of c.args.a.now in
    let ws = vertices_of c.args.b.now in
    let many = length_threes c.args.a.now in
    let many2 = length_threes c.args.b.now in
    let of-both = both_mean vs ws (c.add_points.ensures ∙ rw c.add_points-s.ensures) (omega arith) c.mean-c.ensures in
    let of_first = first_mean vs ws c.add_points-s.ensures (omega arith) c.mean-reference.ensures in
    rw (radial_both vs ws, ← of-both, ← of_first) (cc)
