-- `geometry::into_ccw` meets its contract: a cell that passes the checks is sound and has no empty face, and the room turns each face.
use mathlib.Core.Path.{sym}
use mathlib.Core.List.{[]}
use Rattle.refusals.proofs.Refusals.{faces_known}
use Rattle.geometry.specs.Cells.{into_ccw_answer}
use Rattle.geometry.proofs.Answers.{refused_beside, passed_beside}
use Rattle.geometry.proofs.into_ccw.Goals as goal

pub returns-in_err-faces_refusal : goal.returns-in_err-faces_refusal
unfolding into_ccw_answer
returns-in_err-faces_refusal c =
    refused_beside _ c.from_residual.ensures.1 c.in_err-faces_refusal.ensures

pub into_ccw-requires : goal.into_ccw-requires
into_ccw-requires c =
    let passed = sym c.in_ok-faces_refusal.ensures in
    let known = faces_known c.args.coords.now c.args.corners.now c.args.ends.now [] passed in
    record { sound = known.sound; ends_value = known.solid }

pub returns : goal.returns
unfolding into_ccw_answer
returns c =
    passed_beside _ c.in_ok-faces_refusal.ensures (rw c.into_ccw.ensures)
