-- `geometry::in_space::newell_normal` meets its contract: the room computes the sums, and their parts get names.
use Rattle.geometry.specs.Points.{newell_normal_answer}
use Rattle.geometry.proofs.Answers.{refused, passed}
use Rattle.geometry.proofs.in_space.newell_normal.Goals as goal

pub returns-in_err-list_refusal : goal.returns-in_err-list_refusal
unfolding newell_normal_answer
returns-in_err-list_refusal c = refused _ c.from_residual.ensures.1 c.in_err-list_refusal.ensures

pub returns : goal.returns
unfolding newell_normal_answer
returns c =
    passed c.in_ok-list_refusal.ensures (cc)
