-- `refusals::survey_refusal` meets its contract: the size of the query values is a row of its own before the cell's check, and where that
-- row is passed the cell's check decides.
use Rattle.refusals.specs.Refusals.{survey_refusal}
use Rattle.refusals.proofs.Refusals.{size_yes, size_no}
use Rattle.refusals.proofs.survey_refusal.Goals as goal

pub returns-then-queries_refused : goal.returns-then-queries_refused
unfolding survey_refusal
returns-then-queries_refused c = size_yes _ c.queries_refused.ensures c.if-queries_refused.true

pub returns : goal.returns
unfolding survey_refusal
returns c =
    size_no _ c.queries_refused.ensures c.if-queries_refused.false c.refusal.ensures
