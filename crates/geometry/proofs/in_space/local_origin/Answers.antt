-- `geometry::in_space::local_origin` meets its contract: a list that passes the checks has a vertex and no number out of range, and the
-- room brings the first vertex to whole numbers.
use mathlib.Core.Path.{sym}
use Rattle.geometry.specs.Points.{local_origin_answer}
use Rattle.geometry.proofs.Answers.{refused, passed}
use Rattle.refusals.proofs.Refusals.{list_counted, list_numbers, local_zero}
use Rattle.geometry.proofs.in_space.local_origin.Goals as goal

pub returns-in_err-local_refusal : goal.returns-in_err-local_refusal
unfolding local_origin_answer
returns-in_err-local_refusal c = refused _ c.from_residual.ensures.1 c.in_err-local_refusal.ensures

pub origin-requires : goal.origin-requires
origin-requires c =
    let passes = (local_zero c.args.coords.now (sym c.in_ok-local_refusal.ensures)).0 in
    record { nonzero = (list_counted c.args.coords.now passes).some; coords_value = list_numbers c.args.coords.now passes }

pub returns : goal.returns
unfolding local_origin_answer
returns c =
    passed c.in_ok-local_refusal.ensures (rw (← c.origin.ensures.value, ← c.from.ensures))
