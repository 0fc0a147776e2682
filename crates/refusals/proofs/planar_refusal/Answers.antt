-- `refusals::planar_refusal` meets its contract: the work lists, the subject and the clip list are asked in the definition's order, and the
-- first that refuses decides.
use Rattle.refusals.specs.Refusals.{planar_refusal}
use Rattle.refusals.proofs.Refusals.{or_found, or_other}
use Rattle.refusals.proofs.planar_refusal.Goals as goal

pub returns-in_err-works_refusal : goal.returns-in_err-works_refusal
unfolding planar_refusal
returns-in_err-works_refusal c = or_found _ c.from_residual.ensures.1 c.in_err-works_refusal.ensures

pub returns-in_err-plane_refusal : goal.returns-in_err-plane_refusal
unfolding planar_refusal
returns-in_err-plane_refusal c =
    or_other _ c.in_ok-works_refusal.ensures (or_found _ c.from_residual-in_err-plane_refusal.ensures.1 c.in_err-plane_refusal.ensures)

pub returns : goal.returns
unfolding planar_refusal
returns c =
    or_other _ c.in_ok-works_refusal.ensures
    (or_other _ c.in_ok-plane_refusal.ensures c.plane_refusal-2.ensures)
