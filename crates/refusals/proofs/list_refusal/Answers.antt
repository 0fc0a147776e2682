-- `refusals::list_refusal` meets its contract: its two tests are the two rows of the definition, in that order, and the first that holds
-- decides.
use Rattle.cell.proofs.Refusals.{no_row}
use Rattle.places.specs.declared.refusal.Refusal.TheVariants.{Size, Number}
use Rattle.refusals.specs.Refusals.{list_refusal}
use Rattle.refusals.proofs.Refusals.{row_yes, row_no}
use Rattle.refusals.proofs.list_refusal.Goals as goal

pub returns-then-points_refused : goal.returns-then-points_refused
unfolding list_refusal
returns-then-points_refused c = row_yes Size _ c.points_refused.ensures c.if-points_refused.true

pub returns-then-number_refused : goal.returns-then-number_refused
unfolding list_refusal
returns-then-number_refused c =
    row_no Size _ c.points_refused.ensures c.if-points_refused.false (row_yes Number _ c.number_refused.ensures c.if-number_refused.true)

pub returns : goal.returns
unfolding list_refusal
returns c =
    row_no Size _ c.points_refused.ensures c.if-points_refused.false
    (row_no Number _ c.number_refused.ensures c.if-number_refused.false no_row)
