-- `geometry::in_plane::signed_area2` meets its contract: a list that passes the checks comes in pairs, and the room computes the area.
use Rattle.geometry.specs.Points.{signed_area2_answer}
use Rattle.geometry.proofs.Answers.{refused, passed}
use Rattle.geometry.proofs.in_plane.signed_area2.Goals as goal

pub returns-in_err-plane_refusal : goal.returns-in_err-plane_refusal
unfolding signed_area2_answer
returns-in_err-plane_refusal c = refused _ c.from_residual.ensures.1 c.in_err-plane_refusal.ensures

pub returns : goal.returns
unfolding signed_area2_answer
returns c = passed c.in_ok-plane_refusal.ensures (cc)
