-- `geometry::in_space::list_bounds` meets its contract: the room takes the box of the points, and its corners get names.
use Rattle.geometry.specs.Points.{list_bounds_answer}
use Rattle.geometry.proofs.Answers.{refused, passed}
use Rattle.geometry.proofs.in_space.list_bounds.Goals as goal

pub returns-in_err-list_refusal : goal.returns-in_err-list_refusal
unfolding list_bounds_answer
returns-in_err-list_refusal c = refused _ c.from_residual.ensures.1 c.in_err-list_refusal.ensures

pub returns : goal.returns
unfolding list_bounds_answer
returns c =
    passed c.in_ok-list_refusal.ensures (cc)
