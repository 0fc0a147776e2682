-- `geometry::point_in_phed` meets its contract: a list that passes the checks holds vertices and marks, and the room counts crossings.
use mathlib.Core.Path.{sym}
use Rattle.geometry.specs.Cells.{point_in_phed_answer}
use Rattle.geometry.proofs.Answers.{refused, passed}
use Rattle.refusals.proofs.Refusals.{phed_known}
use Rattle.geometry.proofs.point_in_phed.Goals as goal

pub returns-in_err-phed_refusal : goal.returns-in_err-phed_refusal
unfolding point_in_phed_answer
returns-in_err-phed_refusal c = refused _ c.from_residual.ensures.1 c.in_err-phed_refusal.ensures

pub point_in_phed-requires : goal.point_in_phed-requires
point_in_phed-requires c =
    let known = phed_known c.args.coords.now c.args.cs.now c.args.p (sym c.in_ok-phed_refusal.ensures) in
    record { marked_inside = known.0; cs_len_bound = known.1 }

pub returns : goal.returns
unfolding point_in_phed_answer
returns c =
    passed c.in_ok-phed_refusal.ensures (cc)
