-- `geometry::describe` meets its contract: the description is that of the lists.
use Rattle.geometry.specs.Cells.{describe_answer}
use Rattle.geometry.proofs.Answers.{refused, passed}
use Rattle.geometry.proofs.describe.Goals as goal

pub returns-in_err-cell_refusal : goal.returns-in_err-cell_refusal
unfolding describe_answer
returns-in_err-cell_refusal c = refused _ c.from_residual.ensures.1 c.in_err-cell_refusal.ensures

pub returns : goal.returns
unfolding describe_answer
returns c =
    passed c.in_ok-cell_refusal.ensures (rw c.description.ensures)
