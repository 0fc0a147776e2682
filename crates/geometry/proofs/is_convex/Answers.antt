-- `geometry::is_convex` meets its contract: what is known of the shape decides, and where that is nothing the room looks at the faces.
use mathlib.Core.Path.{sym, ap}
use mathlib.Core.List.{[]}
use Rattle.cell.proofs.Refusals.{sound}
use Rattle.geometry.specs.declared.Cell.{Cell}
use Rattle.geometry.specs.Cells.{cell_of, is_convex_of, is_convex_answer}
use Rattle.geometry.proofs.Answers.{refused, passed}
use Rattle.geometry.proofs.is_convex.Goals as goal

pub returns-in_err-cell_refusal : goal.returns-in_err-cell_refusal
unfolding is_convex_answer
returns-in_err-cell_refusal c = refused _ c.from_residual.ensures.1 c.in_err-cell_refusal.ensures

pub invariant_of-cell : goal.invariant_of-cell
invariant_of-cell c =
    record { sound = sound c.args.coords.now c.args.corners.now c.args.ends.now [] [] (sym c.in_ok-cell_refusal.ensures) }

pub returns-in-Convex : goal.returns-in-Convex
unfolding is_convex_answer is_convex_of cell_of
returns-in-Convex c =
    let shape = ap (λ (d : Cell). d.convexity) c.description-c.ensures in
    passed c.in_ok-cell_refusal.ensures (rw (← shape, c.in-Convex.is))

pub returns-in-Concave : goal.returns-in-Concave
unfolding is_convex_answer is_convex_of cell_of
returns-in-Concave c =
    let shape = ap (λ (d : Cell). d.convexity) c.description-c.ensures in
    passed c.in_ok-cell_refusal.ensures (rw (← shape, c.in-Concave.is))

pub returns-in-Unknown : goal.returns-in-Unknown
unfolding is_convex_answer is_convex_of cell_of
returns-in-Unknown c =
    let shape = ap (λ (d : Cell). d.convexity) c.description-c.ensures in
    passed c.in_ok-cell_refusal.ensures (rw (← shape, c.in-Unknown.is, c.compute_convexity.ensures))
