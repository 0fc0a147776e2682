-- `refusals::check_refusal` meets its contract: its two tests are the two rows of the definition, in their order.
use Rattle.cell.proofs.Refusals.{no_row}
use Rattle.places.specs.declared.refusal.Refusal.TheVariants.{Size, Index}
use Rattle.refusals.specs.Refusals.{check_refusal}
use Rattle.refusals.proofs.Refusals.{row_yes, row_no}
use Rattle.refusals.proofs.check_refusal.Goals as goal

pub returns-then-check_size_refused : goal.returns-then-check_size_refused
unfolding check_refusal
returns-then-check_size_refused c = row_yes Size _ c.check_size_refused.ensures c.if-check_size_refused.true

pub returns-then-index_refused : goal.returns-then-index_refused
unfolding check_refusal
returns-then-index_refused c =
    row_no Size _ c.check_size_refused.ensures c.if-check_size_refused.false
    (row_yes Index _ c.index_refused.ensures c.if-index_refused.true)

pub returns : goal.returns
unfolding check_refusal
returns c =
    row_no Size _ c.check_size_refused.ensures c.if-check_size_refused.false
    (row_no Index _ c.index_refused.ensures c.if-index_refused.false no_row)
