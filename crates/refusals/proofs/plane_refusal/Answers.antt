-- `refusals::plane_refusal` meets its contract: its two tests are the two rows of the definition, in that order, and the first that holds
-- decides.
use Rattle.cell.proofs.Refusals.{no_row}
use Rattle.places.specs.declared.refusal.Refusal.TheVariants.{Size, Number}
use Rattle.refusals.specs.Refusals.{plane_refusal}
use Rattle.refusals.proofs.Refusals.{row_yes, row_no}
use Rattle.refusals.proofs.plane_refusal.Goals as goal

pub returns-then-pairs_refused : goal.returns-then-pairs_refused
unfolding plane_refusal
returns-then-pairs_refused c = row_yes Size _ c.pairs_refused.ensures c.if-pairs_refused.true

pub returns-then-number_refused : goal.returns-then-number_refused
unfolding plane_refusal
returns-then-number_refused c =
    row_no Size _ c.pairs_refused.ensures c.if-pairs_refused.false (row_yes Number _ c.number_refused.ensures c.if-number_refused.true)

pub returns : goal.returns
unfolding plane_refusal
returns c =
    row_no Size _ c.pairs_refused.ensures c.if-pairs_refused.false
    (row_no Number _ c.number_refused.ensures c.if-number_refused.false no_row)
