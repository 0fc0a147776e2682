-- `geometry::in_plane::vertex_centroid2` meets its contract: the room takes the mean of the points, and its coordinates get names.
use mathlib.Core.Path.{sym}
use Rattle.geometry.specs.Points.{vertex_centroid2_answer}
use Rattle.geometry.proofs.Answers.{refused, passed}
use Rattle.refusals.proofs.Refusals.{plane_counted}
use Rattle.geometry.proofs.in_plane.vertex_centroid2.Goals as goal

pub returns-in_err-plane_refusal : goal.returns-in_err-plane_refusal
unfolding vertex_centroid2_answer
returns-in_err-plane_refusal c = refused _ c.from_residual.ensures.1 c.in_err-plane_refusal.ensures

pub vertex_centroid2-requires : goal.vertex_centroid2-requires
vertex_centroid2-requires c =
    (plane_counted c.args.ps.now (sym c.in_ok-plane_refusal.ensures)).1

pub returns : goal.returns
unfolding vertex_centroid2_answer
returns c =
    passed c.in_ok-plane_refusal.ensures (cc)
