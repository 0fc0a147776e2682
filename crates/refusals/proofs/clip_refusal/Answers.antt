-- `refusals::clip_refusal` meets its contract: the planes' size, the work lists and the face are asked in the definition's order, and the
-- first that refuses decides.
use Rattle.refusals.specs.Refusals.{clip_refusal}
use Rattle.refusals.proofs.Refusals.{or_found, or_other, size_yes, size_no}
use Rattle.refusals.proofs.clip_refusal.Goals as goal

pub returns-then-planes_refused : goal.returns-then-planes_refused
unfolding clip_refusal
returns-then-planes_refused c = size_yes _ c.planes_refused.ensures c.if-planes_refused.true

pub returns-in_err-works_refusal : goal.returns-in_err-works_refusal
unfolding clip_refusal
returns-in_err-works_refusal c =
    size_no _ c.planes_refused.ensures c.if-planes_refused.false
    (or_found _ c.from_residual.ensures.1 c.in_err-works_refusal.ensures)

pub returns : goal.returns
unfolding clip_refusal
returns c =
    size_no _ c.planes_refused.ensures c.if-planes_refused.false
    (or_other _ c.in_ok-works_refusal.ensures c.face_refusal.ensures)
