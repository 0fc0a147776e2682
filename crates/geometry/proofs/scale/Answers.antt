-- `geometry::scale` meets its contract: the room takes the box of the vertices, and its longest side.
use Rattle.geometry.specs.Cells.{scale_answer}
use Rattle.geometry.proofs.Answers.{refused, passed}
use Rattle.geometry.proofs.scale.Goals as goal

pub returns-in_err-cell_refusal : goal.returns-in_err-cell_refusal
unfolding scale_answer
returns-in_err-cell_refusal c = refused _ c.from_residual.ensures.1 c.in_err-cell_refusal.ensures

pub returns : goal.returns
unfolding scale_answer
returns c =
    passed c.in_ok-cell_refusal.ensures (cc)
