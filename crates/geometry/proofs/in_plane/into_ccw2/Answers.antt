-- `geometry::in_plane::into_ccw2` meets its contract: a list that passes the checks comes in pairs, and the room turns it.
use mathlib.Core.Path.{sym}
use Rattle.refusals.proofs.Refusals.{plane_counted}
use Rattle.geometry.specs.Points.{into_ccw2_answer}
use Rattle.geometry.proofs.Answers.{refused_beside, passed_beside}
use Rattle.geometry.proofs.in_plane.into_ccw2.Goals as goal

pub returns-in_err-plane_refusal : goal.returns-in_err-plane_refusal
unfolding into_ccw2_answer
returns-in_err-plane_refusal c =
    refused_beside _ c.from_residual.ensures.1 c.in_err-plane_refusal.ensures

pub into_ccw2-requires : goal.into_ccw2-requires
into_ccw2-requires c =
    (plane_counted c.args.ps.now (sym c.in_ok-plane_refusal.ensures)).0

pub returns : goal.returns
unfolding into_ccw2_answer
returns c =
    passed_beside _ c.in_ok-plane_refusal.ensures (rw c.into_ccw2.ensures)
