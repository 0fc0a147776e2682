-- `refusals::overlap_refusal` meets its contract: the work lists, the first cell and the second are asked in the definition's order, and
-- the first that refuses decides.
use Rattle.refusals.specs.Refusals.{overlap_refusal}
use Rattle.refusals.proofs.Refusals.{or_found, or_other}
use Rattle.refusals.proofs.overlap_refusal.Goals as goal

pub returns-in_err-works_refusal : goal.returns-in_err-works_refusal
unfolding overlap_refusal
returns-in_err-works_refusal c = or_found _ c.from_residual.ensures.1 c.in_err-works_refusal.ensures

pub returns-in_err-faces_refusal : goal.returns-in_err-faces_refusal
unfolding overlap_refusal
returns-in_err-faces_refusal c =
    or_other _ c.in_ok-works_refusal.ensures (or_found _ c.from_residual-in_err-faces_refusal.ensures.1 c.in_err-faces_refusal.ensures)

pub returns : goal.returns
unfolding overlap_refusal
returns c =
    or_other _ c.in_ok-works_refusal.ensures
    (or_other _ c.in_ok-faces_refusal.ensures c.faces_refusal-2.ensures)
