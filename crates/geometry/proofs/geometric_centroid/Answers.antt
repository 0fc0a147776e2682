-- `geometry::geometric_centroid` meets its contract: a cell that passes the checks is sound, and the room computes its centroid.
use mathlib.Core.Path.{sym}
use mathlib.Core.List.{[]}
use Rattle.cell.proofs.Refusals.{sound}
use Rattle.geometry.specs.Cells.{geometric_centroid_answer}
use Rattle.geometry.proofs.Answers.{refused, passed}
use Rattle.geometry.proofs.geometric_centroid.Goals as goal

pub returns-in_err-cell_refusal : goal.returns-in_err-cell_refusal
unfolding geometric_centroid_answer
returns-in_err-cell_refusal c = refused _ c.from_residual.ensures.1 c.in_err-cell_refusal.ensures

pub invariant_of-cell : goal.invariant_of-cell
invariant_of-cell c =
    record { sound = sound c.args.coords.now c.args.corners.now c.args.ends.now [] [] (sym c.in_ok-cell_refusal.ensures) }

pub returns : goal.returns
unfolding geometric_centroid_answer
returns c =
    passed c.in_ok-cell_refusal.ensures (cc)
