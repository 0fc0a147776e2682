-- `geometry::in_plane::bounds2` meets its contract: the room takes the box of the points, and its corners get names.
use Rattle.geometry.specs.Points.{bounds2_answer}
use Rattle.geometry.proofs.Answers.{refused, passed}
use Rattle.geometry.proofs.in_plane.bounds2.Goals as goal

pub returns-in_err-plane_refusal : goal.returns-in_err-plane_refusal
unfolding bounds2_answer
returns-in_err-plane_refusal c = refused _ c.from_residual.ensures.1 c.in_err-plane_refusal.ensures

pub returns : goal.returns
unfolding bounds2_answer
returns c =
    passed c.in_ok-plane_refusal.ensures (cc)
