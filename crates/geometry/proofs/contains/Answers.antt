-- `geometry::contains` meets its contract: a cell and a point that pass the checks are sound, and the room counts crossings.
use mathlib.Core.Path.{sym}
use mathlib.Core.List.{[]}
use Rattle.cell.proofs.Refusals.{sound}
use Rattle.geometry.specs.Cells.{contains_answer}
use Rattle.geometry.proofs.Answers.{refused, passed}
use Rattle.geometry.proofs.contains.Goals as goal

pub returns-in_err-contains_refusal : goal.returns-in_err-contains_refusal
unfolding contains_answer
returns-in_err-contains_refusal c = refused _ c.from_residual.ensures.1 c.in_err-contains_refusal.ensures

pub invariant_of-cell : goal.invariant_of-cell
invariant_of-cell c =
    record { sound = sound c.args.coords.now c.args.corners.now c.args.ends.now c.args.p [] (sym c.in_ok-contains_refusal.ensures) }

pub returns : goal.returns
unfolding contains_answer
returns c = passed c.in_ok-contains_refusal.ensures cc
